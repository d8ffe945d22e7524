use Rattle.export_core.proofs.Gathering.{entries_more}
use Rattle.export_core.proofs.entries.push_posted.Goals as goal

pub loop-i-preserved : goal.loop-i-preserved
loop-i-preserved c = record {
  so_far = c.in_ok-push_entry.ensures.after;
  rows = entries_more c.args.ledger.now c.loop-i.i c.loop-i.rows c.push_entry.new.rows
      c.loop-i.invariant.rows c.in_ok-push_entry.ensures.rows;
}
