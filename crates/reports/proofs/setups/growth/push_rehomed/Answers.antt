use Rattle.std.proofs.Common.{◌∙◌, ap, sym}
use Rattle.std.specs.Prelude.{codes, string_bytes}
use Rattle.reports.specs.GrowthTexts.{is_rehomed, rehomed_row}
use Rattle.reports.proofs.Numbers.{line_with, line_without}
use Rattle.reports.proofs.setups.growth.push_rehomed.Goals.{
  then-is_rehomed+in_ok-row+in_ok-push_line,
  else-is_rehomed,
}
use Rattle.reports.proofs.setups.growth.push_rehomed.Goals as goal

pub loop-thing-preserved : goal.loop-thing-preserved
loop-thing-preserved c =
    let row = rehomed_row c.args.before.now c.args.after.now in
    let test = is_rehomed c.args.before.now c.args.after.now in
    let x = c.loop-thing.thing in
    elim c.if-is_rehomed.branch [
      | then-is_rehomed+in_ok-row+in_ok-push_line w ↦
          ap string_bytes w.text-is
          ∙ line_with row test (codes "~ ") _ _ _ w.as_str.result.now x
          (sym c.is_rehomed.ensures ∙ w.if-is_rehomed.true)
          (w.as_str.ensures.value ∙ w.in_ok-row.ensures) c.loop-thing.invariant
          w.in_ok-push_line.ensures
      | else-is_rehomed w ↦
          ap string_bytes w.text-is
          ∙ line_without row test (codes "~ ") _ _ x
          (sym c.is_rehomed.ensures ∙ w.if-is_rehomed.false) c.loop-thing.invariant
    ]
