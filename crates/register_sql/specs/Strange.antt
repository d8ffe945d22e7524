-- Defines when a store has a row of spots, loan lines or last days that no ledger could have.
use Rattle.std.specs.Prelude.{◌≡◌, ◌≢◌, ◌<◌, ◌⊎◌, ℕ, ℤ, List, length, map, slice_index_or}
use Rattle.std.specs.List.{AllByRecursion}
use Rattle.nest_core.specs.Museum.{Museum}
use Rattle.sqlite.specs.Order.{Row}
use Rattle.posting_core.specs.declared.entry.Entry.{Entry}
use Rattle.posting_core.specs.declared.entry.NewSpot.{NewSpot}
use Rattle.posting_core.specs.declared.stage.LineStage.{LineStage}
use Rattle.register_store.specs.declared.loan_rows.LineKey.{LineKey}
use Rattle.register_store.specs.StoredRows.{spot_row, line_row, spots_by_thing, lines_by_loan}
use Rattle.register_store.specs.StoredRows.{rows_of_terms}
use Rattle.register_sql.specs.Fits.{IsNoSpot, IsNoLine, IsNoTerm}
use Rattle.register_sql.specs.Rows.{spot_cells, line_cells, term_cells}

-- The cells of a wanted row.
abbrev pub cells_of_spot : NewSpot → Row
cells_of_spot s = spot_cells (spot_row s)

abbrev pub cells_of_line : LineKey × LineStage → Row
cells_of_line e =
    line_cells (line_row (record { loan = e.0.loan; object = e.0.object; stage = e.1 }))

abbrev pub cells_of_term : List ℕ × ℤ → Row
cells_of_term e = term_cells (record { loan = e.0; day = e.1 })

-- The row is none of the first n wanted rows.
abbrev pub IsNone : {T : Type 0} → (T → Row) → ℕ → List T → Row → Type 0
IsNone {T} cells n wanted row = (k : ℕ) (d : T) → k < n → cells (slice_index_or wanted k d) ≢ row

-- A stranger is among the rows: a row that can't be read as anything, and is none of the wanted
-- ones.
abbrev pub HasStranger : (Row → Type 0) → List Row → List Row → Type 0
HasStranger IsNo wanted rows =
    (k : ℕ) × (row : Row) × (k < length rows) × (row ≡ slice_index_or rows k row) × IsNo row
    × AllByRecursion (λ r. r ≢ row) wanted

-- The store has a stranger among its rows of spots, loan lines or last days, compared with those of
-- the ledger.
abbrev pub AreStrange : Museum → List Entry → List Row → List Row → List Row → Type 0
AreStrange S P ss ls ts =
    HasStranger IsNoSpot (map cells_of_spot (spots_by_thing S P)) ss
    ⊎ (HasStranger IsNoLine (map line_cells (map line_row (lines_by_loan S P))) ls
    ⊎ HasStranger IsNoTerm (map term_cells (rows_of_terms P)) ts)
