use Rattle.std.proofs.Common.{◌≡◌, ◌-◌, map, string_bytes}
use Rattle.std.specs.List.{range_with_len}
use Rattle.posting_core.specs.Past.{upto}
use Rattle.page_core.specs.Entries.{entry_text}
use Rattle.page_core.proofs.entries.rows_from.Given as goal

abbrev pub invariant-loop-i : goal.invariant-loop-i
invariant-loop-i l = record {
  so_far : l.so_far ≡ upto l.ledger l.i;
  rows : map string_bytes l.rows.items
      ≡ map (entry_text l.ledger) (range_with_len l.first (l.i - l.first));
}
