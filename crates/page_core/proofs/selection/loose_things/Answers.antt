use Rattle.std.proofs.Common.{All, Bool, ◌++◌, ◌<◌, ◌∙◌, ◌∷◌, []}
use Rattle.std.proofs.Common.{ap, arith, cond, filter, length, subst, sym, ℕ}
use Rattle.std.specs.List.{range_with_len}
use Rattle.nest_core.specs.Museum.{Museum}
use Rattle.count_core.proofs.Ranges.{filter_more}
use Rattle.page_core.specs.Tree.{is_loose_at}
use Rattle.reports.proofs.Ranges.{filter_within}
use Rattle.page_core.proofs.selection.loose_things.Goals as goal

pub loop-thing-preserved : goal.loop-thing-preserved
loop-thing-preserved c =
    let p = is_loose_at c.args.ledger.now c.args.place in
    let x = c.loop-thing.thing in
    c.in_ok-push_if.ensures
    ∙ (ap (λ xs. xs ++ cond c.in_ok-passes.passes (x ∷ []) []) c.loop-thing.invariant
    ∙ (ap (λ (b : Bool). filter p (range_with_len 0 x) ++ cond b (x ∷ []) [])
    c.in_ok-passes.ensures ∙ sym (filter_more p x)))

pub returns-clause-within : goal.returns-clause-within
returns-clause-within c =
    let n = length c.args.ledger.now.museum.things in
    let same = ap (λ (S : Museum). length S.things) c.setup.ensures in
    subst (All (λ (x : ℕ). x < n)) (sym c.loop-thing.invariant)
    (filter_within (is_loose_at c.args.ledger.now c.args.place) c.loop-thing.thing n
    (omega (arith, same)))
