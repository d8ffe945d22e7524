use Rattle.std.proofs.Common.{All, ℕ, ◌<◌, length, subst, sym}
use Rattle.std.proofs.lemmas.List.Elements.{All-filter}
use Rattle.std.proofs.lemmas.Result.{IfOk-weaker}
use Rattle.page_core.specs.Tree.{is_directly_in}
use Rattle.page_core.proofs.selection.contents.Goals as goal

pub returns-clause-within : goal.returns-clause-within
returns-clause-within c =
    let P : ℕ → Type 0 = λ x. x < length c.args.ledger.now.museum.things in
    IfOk-weaker c.directly_in.result _ _
    (λ things is. subst (All P) (sym is)
    (All-filter (is_directly_in c.args.ledger.now c.args.container) P c.as_slice.result.now
    (subst (All P) (sym c.as_slice.ensures) c.in_ok-carried.ensures.within)))
    c.directly_in.ensures
