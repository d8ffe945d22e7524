use Rattle.std.proofs.Common.{◌<◌, ◌+◌, arith, length, subst}
use Rattle.seal_core.specs.SealChecks.{AreChecked}
use Rattle.seal_core.proofs.Rows.{all_lines, lines_to, next_line, row_after, with_line}
use Rattle.seal_core.proofs.seal_check.check_lines.Goals as goal

pub loop-i-preserved : goal.loop-i-preserved
loop-i-preserved g c =
    let pieces = c.args.pieces.now in
    let i = c.loop-i.i in
    let below : i < length pieces = omega (arith, c.loop-i-test.true, c.loop-i.auto.i-end) in
    subst (λ lines. AreChecked c.args.ledger.now 1 lines c.add_row.new.rows.items)
    (next_line pieces i _ c.trimmed.result.now below c.trimmed.ensures)
    (with_line c.args.ledger.now 1 (i + 1) (lines_to pieces i) c.trimmed.result.now
    c.loop-i.rows.items c.add_row.new.rows.items (row_after pieces i below)
    c.in_ok-add_row.ensures c.loop-i.invariant)

pub returns : goal.returns
returns g c =
    let pieces = c.args.pieces.now in
    let i = c.loop-i.i in
    subst (λ lines. AreChecked c.args.ledger.now 1 lines c.loop-i.rows.items)
    (all_lines pieces i (omega (arith, c.loop-i-test.false, c.loop-i.auto.i-end)))
    c.loop-i.invariant
