-- Defines the page of a record.
use Rattle.std.specs.Prelude.{ℕ, ℤ, ◌∷◌, ◌++◌, [], List, Option}
use Rattle.std.specs.List.{flat_map}
use Rattle.posting_core.specs.Book.{Book}
use Rattle.page_core.specs.Pieces.{Piece}
use Rattle.page_core.specs.Pieces.Piece.{markup}
use Rattle.page_core.specs.declared.frame.TheConstants.{AWAY, ENTRIES, HEAD, HISTORIES}
use Rattle.page_core.specs.declared.frame.TheConstants.{HISTORIES_END, LOANS, LOAN_OBJECTS}
use Rattle.page_core.specs.declared.frame.TheConstants.{NUMBERS_END, STATIONS, TABLE_END, TREE}
use Rattle.page_core.specs.declared.frame.TheConstants.{TREE_END, UNPLACED}
use Rattle.page_core.specs.declared.script.TheConstants.{PAGE_END}
use Rattle.page_core.specs.Away.{away_rows}
use Rattle.page_core.specs.Entries.{entry_rows}
use Rattle.page_core.specs.Histories.{history_rows}
use Rattle.page_core.specs.LoanObjects.{object_rows}
use Rattle.page_core.specs.Loans.{loan_rows}
use Rattle.page_core.specs.Numbers.{numbers_row, seal_row}
use Rattle.page_core.specs.Stations.{station_rows}
use Rattle.page_core.specs.TreeRows.{tree_rows, unplaced_rows}

-- A section: the markup before its rows, its rows, and the markup after them.
abbrev pub section : List ℕ → List (List Piece) → List ℕ → List Piece
section before rows after =
    markup before ∷ (flat_map (λ row. row) rows ++ markup after ∷ [])

-- The museum in numbers, the day, if one is given, and the seal.
abbrev pub numbers : Book → Option ℤ → List Piece
numbers B on = section HEAD.now (numbers_row B on ∷ seal_row B ∷ []) NUMBERS_END.now

-- Where everything is.
abbrev pub tree : Book → List Piece
tree B = section TREE.now (tree_rows B) TREE_END.now

-- The things that were never placed.
abbrev pub unplaced : Book → List Piece
unplaced B = section UNPLACED.now (unplaced_rows B) TREE_END.now

-- The current and former locations of all things, as the script reads them.
abbrev pub histories : Book → List Piece
histories B = section HISTORIES.now (history_rows B) HISTORIES_END.now

-- The loans. Those that are overdue on the day are marked, if one is given.
abbrev pub loans : Book → Option ℤ → List Piece
loans B on = section LOANS.now (loan_rows B on) TABLE_END.now

-- The objects of all loans.
abbrev pub loan_objects : Book → List Piece
loan_objects B = section LOAN_OBJECTS.now (object_rows B) TABLE_END.now

-- The objects that are away from their normal locations.
abbrev pub away : Book → List Piece
away B = section AWAY.now (away_rows B) TABLE_END.now

-- The stations, each with its next number.
abbrev pub stations : Book → List Piece
stations B = section STATIONS.now (station_rows B) TABLE_END.now

-- The last entries.
abbrev pub entries : Book → List Piece
entries B = section ENTRIES.now (entry_rows B) TABLE_END.now

-- Where everything is and was.
abbrev pub locations : Book → Option ℤ → List Piece
locations B on = numbers B on ++ (tree B ++ (unplaced B ++ histories B))

-- What is on loan, or away for another reason.
abbrev pub lending : Book → Option ℤ → List Piece
lending B on = loans B on ++ (loan_objects B ++ away B)

-- The stations, the last entries, and the end of the page.
abbrev pub posts : Book → List Piece
posts B = stations B ++ (entries B ++ markup PAGE_END.now ∷ [])

-- The page.
abbrev pub page : Book → Option ℤ → List Piece
page B on = locations B on ++ (lending B on ++ posts B)
