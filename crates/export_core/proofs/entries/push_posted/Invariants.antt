use Rattle.std.proofs.Common.{◌≡◌}
use Rattle.posting_core.specs.Past.{upto}
use Rattle.export_core.specs.Rows.{HasEntries}
use Rattle.export_core.proofs.entries.push_posted.Given as goal

abbrev pub invariant-loop-i : goal.invariant-loop-i
invariant-loop-i l = record {
  so_far : l.so_far ≡ upto l.ledger l.i;
  rows : HasEntries l.ledger l.i l.rows;
}
