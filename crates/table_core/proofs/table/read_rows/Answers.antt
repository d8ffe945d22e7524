use Rattle.std.proofs.Common.{arith}
use Rattle.table_core.proofs.Growing.{moved}
use Rattle.table_core.proofs.TableSteps.{faults_step, lines_step}
use Rattle.table_core.proofs.table.read_rows.Goals as goal

pub loop-i-preserved : goal.loop-i-preserved
loop-i-preserved c = record {
  lines = moved _ _ _ _ _ _ c.loop-i.invariant.lines
      (lines_step c.args.options.now c.args.words.now c.loop-i.next _ c.loop-i.i c.args.rows.now
      c.index-rows-i.result _ (omega (arith, c.loop-i-test.true, c.loop-i.auto.i-end))
      c.index-rows-i.is c.deref.ensures.value c.in_ok-next.ensures.next)
      c.in_ok-next.ensures.lines;
  faults = moved _ _ _ _ _ _ c.loop-i.invariant.faults
      (faults_step c.args.options.now c.args.words.now c.loop-i.next _ c.loop-i.i c.args.rows.now
      c.index-rows-i.result _ (omega (arith, c.loop-i-test.true, c.loop-i.auto.i-end))
      c.index-rows-i.is c.deref.ensures.value c.in_ok-next.ensures.next)
      c.in_ok-next.ensures.faults;
}
