use Rattle.std.proofs.Common.{◌≡◌, ◌∙◌, Some, ap, arith, get_or, length, map, refl, rules, sym}
use Rattle.std.proofs.lemmas.List.{length-map}
use Rattle.std.proofs.lemmas.Option.{slice_get-get_or, slice_get_read}
use Rattle.std.specs.List.{slice_get}
use Rattle.std.specs.Prelude.{string_bytes}
use Rattle.reports.specs.Aligned.{filled_texts}
use Rattle.reports.proofs.NumberedRows.{each_at}
use Rattle.reports.proofs.TableLemmas.{beyond_at, filled_at, last_at}
use Rattle.reports.proofs.table.filled_text.Goals.{then-i-texts-via-then-i-texts}
use Rattle.reports.proofs.table.filled_text.Goals.{then-i-texts-via-else-i-texts+then-i-widths}
use Rattle.reports.proofs.table.filled_text.Goals as goal

pub returns-then-i-texts : goal.returns-then-i-texts
returns-then-i-texts c =
    let xs = c.args.texts.now in
    let widths = c.args.widths.now in
    let i = c.args.i in
    let text = c.index-texts-i.result in
    let at = each_at string_bytes xs i text
    (slice_get_read xs (length xs) i text refl c.requires c.index-texts-i.is) in
    let same = sym (c.in_ok-from_str.ensures.ok ∙ c.as_str-text.ensures.value) in
    let unfilled : slice_get (filled_texts widths (map string_bytes xs)) i
    ≡ Some (string_bytes text) =
    elim c.then-i-texts.branch [
      | then-i-texts-via-then-i-texts w ↦
          last_at widths (map string_bytes xs) i (string_bytes text)
          (omega (arith, w.if-i-texts.true, length-map xs string_bytes)) at
      | then-i-texts-via-else-i-texts+then-i-widths w ↦
          beyond_at widths (map string_bytes xs) i (string_bytes text) w.if-i-widths.true at
    ] in
    unfilled ∙ ap Some same

pub returns : goal.returns
returns c =
    let xs = c.args.texts.now in
    let widths = c.args.widths.now in
    let i = c.args.i in
    let text = c.index-texts-i.result in
    let at = each_at string_bytes xs i text
    (slice_get_read xs (length xs) i text refl c.requires c.index-texts-i.is) in
    let whole = filled_at widths (map string_bytes xs) i (get_or widths i 0) (string_bytes text)
    (omega (arith, c.if-i-texts.false, length-map xs string_bytes))
    (slice_get-get_or widths i 0 c.if-i-widths.false) at in
    let value = c.as_str-text.ensures.value in
    search rules
