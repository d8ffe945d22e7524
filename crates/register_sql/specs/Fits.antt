-- Defines which rows can be those of a spot, a loan line or a last day.
use Rattle.std.specs.Prelude.{◌≡◌, ◌≢◌, ◌<◌, ◌≤ℤ◌, ◌^◌, ℕ, ℤ, List, None}
use Rattle.codes_core.specs.Day.{first_number, last_number}
use Rattle.codes_core.specs.Loan.{loan_fault}
use Rattle.posting_core.specs.declared.entry.NewLine.{NewLine}
use Rattle.posting_core.specs.declared.entry.NewSpot.{NewSpot}
use Rattle.sqlite.specs.Order.{Row}
use Rattle.register_store.specs.StoredRows.{TermRow, spot_row, line_row}
use Rattle.register_sql.specs.Rows.{spot_cells, line_cells, term_cells}

-- The number of a day of the calendar.
pub record IsDay (n : ℤ) : Type 0 where
  pub from : first_number ≤ℤ n
  pub to : n ≤ℤ last_number

-- The code of a loan.
abbrev pub IsLoan : List ℕ → Type 0
IsLoan text = loan_fault text ≡ None

-- Its numbers fit in 32 bits, and its day is one of the calendar.
pub record FitsSpot (s : NewSpot) : Type 0 where
  pub thing : s.thing < 2 ^ 32
  pub k : s.k < 2 ^ 32
  pub entry : s.spot.entry < 2 ^ 32
  pub place : s.spot.place < 2 ^ 32
  pub day : IsDay s.spot.day

-- Its loan is a loan's code, and its object fits in 32 bits.
pub record FitsLine (l : NewLine) : Type 0 where
  pub loan : IsLoan l.loan
  pub object : l.object < 2 ^ 32

-- Its loan is a loan's code, and its day is one of the calendar.
pub record FitsTerm (t : TermRow) : Type 0 where
  pub loan : IsLoan t.loan
  pub day : IsDay t.day

-- The row is that of no possible spot, so that no ledger can have it. Below, the same for a loan
-- line and for a last day.
abbrev pub IsNoSpot : Row → Type 0
IsNoSpot row = (spot : NewSpot) → FitsSpot spot → spot_cells (spot_row spot) ≢ row

abbrev pub IsNoLine : Row → Type 0
IsNoLine row = (line : NewLine) → FitsLine line → line_cells (line_row line) ≢ row

abbrev pub IsNoTerm : Row → Type 0
IsNoTerm row = (term : TermRow) → FitsTerm term → term_cells term ≢ row
