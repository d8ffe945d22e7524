use Rattle.std.proofs.Common.{◌≤◌, ◌+◌, drop, length}
use Rattle.std.specs.List.Sorted.{IsPermutation}
use Rattle.indexmap.specs.IndexMap.{spare}
use Rattle.register_store.specs.Plain.{has_same_key, held_lines}
use Rattle.register_store.specs.StoredRows.{put_each}
use Rattle.register_store.proofs.loan_rows.put_lines.Given as goal

abbrev pub invariant-loop-i : goal.invariant-loop-i
invariant-loop-i l = record {
  room : length l.lines ≤ spare l.kept + l.i;
  left : IsPermutation (put_each has_same_key (drop l.i l.lines) (held_lines l.kept.entries))
      (put_each has_same_key l.lines (held_lines l.initial.kept.entries));
}
