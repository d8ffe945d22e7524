use Rattle.std.proofs.Common.{map, reverse, take, All}
use Rattle.register_store.specs.StoredRows.{ArePostings}
use Rattle.register_store.specs.Plain.{kept_row}
use Rattle.register_store.specs.Registers.{IsOfStation}
use Rattle.register_store.proofs.plain.entries_of.Given as goal

abbrev pub invariant-loop-i : goal.invariant-loop-i
invariant-loop-i l = record {
  kept : ArePostings (reverse l.entries.items) (map kept_row (reverse (take l.i l.rows)));
  stationed : All (IsOfStation l.stations) l.entries.items;
}
