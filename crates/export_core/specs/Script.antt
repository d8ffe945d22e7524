-- Defines the script of a record.
use Rattle.std.specs.Prelude.{ℕ, ℤ, ◌∷◌, ◌++◌, [], List, Option, codes, length}
use Rattle.posting_core.specs.Book.{Book}
use Rattle.reports.specs.Cells.{day_if, number}
use Rattle.export_core.specs.declared.schema.TheConstants.{TABLES, VIEWS}
use Rattle.export_core.specs.Entries.{lines_upto, messages_upto, movements_upto}
use Rattle.export_core.specs.Loans.{all_lent, all_loan_rows, all_object_rows}
use Rattle.export_core.specs.Setups.{all_place_rows, all_thing_rows}
use Rattle.export_core.specs.Statements.{inserts, row}

-- 80000 2026-11-30: how many entries the record has, and the day.
abbrev pub record_row : Book → Option ℤ → List ℕ
record_row B on = row (number (length B.posted) ∷ day_if on ∷ [])

-- The record, and all places and things.
abbrev pub setup_text : Book → Option ℤ → List ℕ
setup_text B on =
    inserts (codes "record") (record_row B on ∷ [])
    ++ (inserts (codes "place") (all_place_rows B.museum)
    ++ inserts (codes "thing") (all_thing_rows B))

-- All loans and their objects, and the loan of each thing that is out under one.
abbrev pub loans_text : Book → List ℕ
loans_text B =
    inserts (codes "loan") (all_loan_rows B)
    ++ (inserts (codes "loan_object") (all_object_rows B) ++ all_lent B)

-- All messages and movements, and the entries at which the objects of loans left, arrived and went
-- back.
abbrev pub entries_text : Book → List ℕ
entries_text B =
    inserts (codes "message") (messages_upto B (length B.posted))
    ++ (inserts (codes "movement") (movements_upto B (length B.posted))
    ++ lines_upto B (length B.posted))

-- The whole script. The view `overdue` has the loans that are overdue on the day.
abbrev pub script_text : Book → Option ℤ → List ℕ
script_text B on =
    TABLES.now ++ (setup_text B on ++ (loans_text B ++ (entries_text B ++ VIEWS.now)))
