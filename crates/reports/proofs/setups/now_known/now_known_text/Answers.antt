use Rattle.std.proofs.Common.{arith}
use Rattle.reports.proofs.EntryRows.{text_more}
use Rattle.reports.proofs.setups.now_known.now_known_text.Goals as goal

pub loop-i-preserved : goal.loop-i-preserved
loop-i-preserved c =
    text_more c.args.before.now c.args.after.now c.args.entries.now c.loop-i.i
    c.index-entries-i.result _ _ (omega (arith, c.loop-i-test.true, c.loop-i.auto.i-end))
    c.index-entries-i.is c.loop-i.invariant c.in_ok-push_entry.ensures
