use Rattle.std.proofs.Common.{ℕ, ◌≡◌, ◌+◌, ◌<◌, Vec, Global, All, [], ◌∷◌, ◌++◌, ap, sym, subst}
use Rattle.std.proofs.Common.{◌∙◌}
use Rattle.std.proofs.Common.{arith, false, length}
use Rattle.std.proofs.lemmas.List.Elements.{All-push}
use Rattle.std.specs.Option.{option_map_or}
use Rattle.count_core.proofs.Ranges.{filter_with, filter_without}
use Rattle.reports.specs.EntryFilters.{is_wanted, is_wanted_at}
use Rattle.reports.proofs.reports.posted.wanted.Goals as goal
use Rattle.reports.proofs.reports.posted.wanted.Goals.{then-branch+in_ok-push, else-branch}

pub loop-i-preserved : goal.loop-i-preserved
loop-i-preserved c =
    let B = c.args.ledger.now in
    let f = c.args.asked.now in
    let test = is_wanted_at B f in
    let i = c.loop-i.i in
    let posted : ℕ → Type 0 = λ k. k < length B.posted in
    let below : posted i = omega (arith, c.loop-i-test.true, c.entry_count-i-end.ensures.count) in
    let is : test i ≡ c.in_ok-is_wanted.field-0 =
    ap (λ o. option_map_or (is_wanted B.museum f (i + 1)) o false) c.entry_at.ensures
    ∙ (ap (λ S. is_wanted S f (i + 1) c.entry_at.result.now) (sym c.setup.ensures)
    ∙ sym c.in_ok-is_wanted.ensures) in
    elim c.if-branch.branch [
      | then-branch+in_ok-push w ↦
          let pushed = ap (λ (v : Vec ℕ Global). v.items) w.found-is
          ∙ w.in_ok-push.ensures.items in (
            pushed ∙ (ap (λ xs. xs ++ i ∷ []) c.loop-i.invariant.0
                ∙ sym (filter_with test i (is ∙ w.if-branch.true))),
            subst (All posted) (sym pushed)
                (All-push posted c.loop-i.found.items i c.loop-i.invariant.1 below),
          )
      | else-branch w ↦
          let same = ap (λ (v : Vec ℕ Global). v.items) w.found-is in (
            same ∙ (c.loop-i.invariant.0
                ∙ sym (filter_without test i (is ∙ w.if-branch.false))),
            subst (All posted) (sym same) c.loop-i.invariant.1,
          )
    ]
