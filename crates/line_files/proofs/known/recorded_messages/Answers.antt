use Rattle.std.proofs.Common.{arith, nat_eq}
use Rattle.std.specs.HashMap.{get}
use Rattle.line_files.proofs.Walk.{entry_more}
use Rattle.line_files.proofs.known.recorded_messages.Goals as goal

pub loop-entry-preserved : goal.loop-entry-preserved
loop-entry-preserved c =
    entry_more (get nat_eq c.loop-entry.known) _ c.args.station _ c.loop-entry.entry-index
    c.entry-item.result
    (omega (arith, c.loop-entry-test.true, c.loop-entry.auto.entry-index-end))
    c.entry-item.is c.loop-entry.invariant c.in_ok-add_entry.ensures
