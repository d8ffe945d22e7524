use Rattle.std.proofs.Common.{subst, sym}
use Rattle.nest_core.specs.Nest.{StandsFor}
use Rattle.nest_core.specs.Puts.{with_put}
use Rattle.posting_core.proofs.placement.place.Goals as goal

pub returns-in_ok-put_over-clause-stands : goal.returns-in_ok-put_over-clause-stands
returns-in_ok-put_over-clause-stands c =
    λ Q s. subst (λ o. StandsFor c.put_over.new.nest (with_put o Q)) (sym c.in-Some.is)
    (c.in_ok-put_over.ensures.stands Q s)
