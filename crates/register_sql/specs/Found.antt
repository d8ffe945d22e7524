-- Defines the rows of spots, loan lines and last days as the queries return them.
use Rattle.std.specs.Prelude.{ℕ, ℤ, List, map}
use Rattle.std.specs.List.Sorted.{IsPermutation}
use Rattle.sqlite.specs.Order.{Row}
use Rattle.posting_core.specs.declared.entry.NewSpot.{NewSpot}
use Rattle.posting_core.specs.declared.stage.LineStage.{LineStage}
use Rattle.register_store.specs.declared.loan_rows.LineKey.{LineKey}
use Rattle.register_store.specs.Plain.{held_lines, term_rows}
use Rattle.register_store.specs.StoredRows.{Content, spot_row, line_row}
use Rattle.register_sql.specs.Rows.{spot_cells, line_cells, term_cells}

abbrev pub spots_shown : List NewSpot → List Row
spots_shown spots = map spot_cells (map spot_row spots)

abbrev pub lines_shown : List (LineKey × LineStage) → List Row
lines_shown kept = map line_cells (map line_row (held_lines kept))

abbrev pub terms_shown : List (List ℕ × ℤ) → List Row
terms_shown kept = map term_cells (term_rows kept)

-- The content has these rows, in any order.
pub record AreFound (ss ls ts : List Row) (c : Content) : Type 0 where
  pub spots : IsPermutation (map spot_cells c.spots) ss
  pub lines : IsPermutation (map line_cells c.lines) ls
  pub terms : IsPermutation (map term_cells c.terms) ts
