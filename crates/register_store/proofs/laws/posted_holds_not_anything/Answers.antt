use Rattle.std.proofs.Common.{arith, []}
use Rattle.std.proofs.lemmas.List.Sorted.{length_permutation}
use Rattle.register_store.specs.StoredRows.{Content}
use Rattle.register_store.proofs.laws.posted_holds_not_anything.Goals as goal

abbrev nothing : Content
nothing = record { setup = []; meta = []; postings = []; spots = []; lines = []; terms = [] }

pub returns : goal.returns
returns g c old new e changes comes quiet all =
    let (k, was, step) = comes.from quiet nothing (all nothing) in
    let few = length_permutation _ _ step.2.postings in
    absurd (omega (arith, few))
