use Rattle.std.proofs.Common.{◌≡◌, ◌≤◌, ◌+◌, drop, length}
use Rattle.posting_core.specs.Rows.{rows_after}
use Rattle.posting_core.proofs.spot_rows.SpotRows.push_all.Given as goal

abbrev pub invariant-loop-i : goal.invariant-loop-i
invariant-loop-i l = record {
  rest : rows_after l.self.rows (drop l.i l.news) ≡ rows_after l.initial.self.rows l.news;
  rows : length l.self.rows ≡ length l.initial.self.rows;
  room : length l.news ≤ l.self.room + l.i;
}
