use Rattle.std.proofs.Common.{ℕ, ◌≡◌, ◌<◌, string_bytes, take}
use Rattle.line_files.specs.AuditLines.{Reads, lines_from}
use Rattle.line_files.proofs.audits.lines.lines.Given as goal

abbrev pub invariant-loop-i : goal.invariant-loop-i
invariant-loop-i l = record {
  text : string_bytes l.text ≡ lines_from l.station l.first (take l.i l.moves);
  read : (k : ℕ) → k < l.i → Reads l.station l.first l.moves k;
}
