use Rattle.std.proofs.Common.{subst, ⊎_elim}
use Rattle.std.proofs.lemmas.Bool.{cases_Bool}
use Rattle.hub_core.specs.Openings.{OpensAgain}
use Rattle.hub_core.specs.StandsFor.{State}
use Rattle.hub_core.proofs.ReopenLemmas.{some_of_store, some_opens}
use Rattle.hub_core.proofs.hub.Hub.close.Goals as goal

pub returns-clause-opens_again : goal.returns-clause-opens_again
returns-clause-opens_again g c =
    let hub = c.self.inside in
    subst (λ (h : State g.row.R.Denot). OpensAgain (g.R.Register.holding hub.register)
    h.book.museum) c.self.view_is
    (some_opens (g.R.Register.holding hub.register) hub.ledger c.self.invariant.4
    (⊎_elim c.self.invariant.3 (λ up. some_of_store (g.R.Register.holding hub.register) hub.ledger
    c.is_lawful.ensures (c.self.invariant.2 up)) (cases_Bool hub.down)))
