use Rattle.std.proofs.Common.{◌∙◌, ◌++◌, ◌∷◌, [], ◌<◌, ap, arith, get_or, inl, inr, length, max}
use Rattle.std.proofs.Common.{set}
use Rattle.std.proofs.lemmas.Bool.Decides.{leb_tells}
use Rattle.std.specs.Prelude.{string_bytes}
use Rattle.reports.specs.Aligned.{width}
use Rattle.reports.proofs.TableLemmas.{widened_by, widened_in}
use Rattle.reports.proofs.table.widen.Goals as goal

pub loop-i-preserved : goal.loop-i-preserved
loop-i-preserved c =
    let xs = c.args.texts.now in
    let acc = c.loop-i.widths.items in
    let i = c.loop-i.i in
    let within : i < length xs = omega (arith, c.loop-i-test.true, c.loop-i.auto.i-end) in
    let w = c.width.ensures ∙ ap width c.as_str.ensures.value in
    elim (leb_tells (length acc) i) [
      | inl past ↦
          c.in_ok-widen_column.ensures.past past.1
          ∙ (ap (λ n. acc ++ n ∷ []) w
          ∙ widened_by string_bytes c.args.widths.now.items acc xs i c.index-texts-i.result within
          c.index-texts-i.is c.loop-i.invariant past.1)
      | inr there ↦
          c.in_ok-widen_column.ensures.within there.1
          ∙ (ap (λ n. set acc i (max (get_or acc i 0) n)) w
          ∙ widened_in string_bytes c.args.widths.now.items acc xs i c.index-texts-i.result within
          c.index-texts-i.is c.loop-i.invariant there.1)
    ]
