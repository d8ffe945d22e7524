use Rattle.std.proofs.Common.{◌≡◌, ◌∙◌, ◌+◌, ◌-◌, ◌++◌, ◌∷◌, [], ap, arith, map, string_bytes, sym}
use Rattle.std.specs.List.{range_with_len}
use Rattle.std.proofs.lemmas.List.{map-append}
use Rattle.std.proofs.lemmas.List.FromFn.{map-range_with_len_more}
use Rattle.page_core.specs.Entries.{entry_text}
use Rattle.page_core.proofs.entries.rows_from.Goals as goal

pub loop-i-preserved : goal.loop-i-preserved
loop-i-preserved c =
    let text = entry_text c.args.ledger.now in
    let first = c.args.first in
    let i = c.loop-i.i in
    let row = c.in_ok-next_row.field-0 in
    let before = map text (range_with_len first (i - first)) in
    let next : first + (i - first) ≡ i = omega (arith, c.loop-i.auto.i) in
    let more : i - first + 1 ≡ i + 1 - first = omega (arith, c.loop-i.auto.i) in
    record {
      so_far = c.in_ok-next_row.ensures.after;
      rows = ap (map string_bytes) c.in_ok-push.ensures.items
          ∙ (map-append string_bytes c.loop-i.rows.items (row ∷ [])
          ∙ (ap (λ ts. ts ++ string_bytes row ∷ []) c.loop-i.invariant.rows
          ∙ (ap (λ t. before ++ t ∷ []) c.in_ok-next_row.ensures.row
          ∙ (sym (map-range_with_len_more text first (i - first) i next)
          ∙ ap (λ n. map text (range_with_len first n)) more))));
    }
