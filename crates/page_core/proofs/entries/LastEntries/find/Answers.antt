use Rattle.std.proofs.Common.{◌≡◌, ◌∙◌, ◌-◌, ap, arith, length, map, min, reverse, sym}
use Rattle.std.specs.List.{range_with_len}
use Rattle.page_core.specs.declared.entries.TheConstants.{MOST_SHOWN}
use Rattle.page_core.specs.Entries.{entry_text, first_shown, shown}
use Rattle.page_core.proofs.Reversed.{map-reverse}
use Rattle.page_core.proofs.entries.LastEntries.find.Goals as goal

pub returns : goal.returns
returns c =
    let B = c.args.ledger.now in
    let text = entry_text B in
    let all = length B.posted in
    let first = c.entry_count-count.result - c.min.result in
    let begin : first ≡ first_shown B = ap (λ n. c.entry_count-count.result - n) c.min.ensures
    ∙ ap (λ n. n - min n MOST_SHOWN) c.entry_count-count.ensures.count in
    let count : all - first_shown B ≡ shown B = omega arith in
    ap reverse c.in_ok-rows.ensures
    ∙ (sym (map-reverse text (range_with_len first (all - first)))
    ∙ (ap (λ a. map text (reverse (range_with_len a (all - a)))) begin
    ∙ ap (λ n. map text (reverse (range_with_len (first_shown B) n))) count))
