use Rattle.std.proofs.Common.{◌≡◌, List, map, reverse, take, All}
use Rattle.register_store.specs.Registers.{IsOfStation}
use Rattle.register_store.specs.StoredRows.{PostingRow, ArePostings}
use Rattle.register_sql.specs.Shown.{posting_shown}
use Rattle.register_sql.proofs.list.entries_of.Given as goal

abbrev pub invariant-rows : goal.invariant-rows
invariant-rows l = record {
  kept : (ps : List PostingRow) → map posting_shown ps ≡ l.rows
      → ArePostings (reverse l.entries.items) (reverse (take l.i ps));
  stationed : All (IsOfStation l.stations) l.entries.items;
}
