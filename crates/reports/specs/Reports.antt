-- Defines each report: its rows and its whole text.
use Rattle.std.specs.Prelude.{ℕ, List}
use Rattle.posting_core.specs.Book.{Book}
use Rattle.reports.specs.declared.form.Form.{Form}
use Rattle.reports.specs.declared.form.Form.TheVariants.{Plain, Csv}
use Rattle.reports.specs.declared.question.Question.{Question}
use Rattle.reports.specs.declared.question.Question.TheVariants.{Count, Overdue, Away, History}
use Rattle.reports.specs.declared.question.Question.TheVariants.{Stations, Where, Contents, Loan}
use Rattle.reports.specs.declared.question.Question.TheVariants.{At, Posted, Loans, Dues, Why}
use Rattle.reports.specs.declared.question.Question.TheVariants.{LongHistory}
use Rattle.reports.specs.Causes.{cause_rows}
use Rattle.reports.specs.CountRows.{count_rows}
use Rattle.reports.specs.Forms.{rows_text}
use Rattle.reports.specs.LoanLists.{due_rows, listed_rows}
use Rattle.reports.specs.Loans.{loan_rows, overdue_rows}
use Rattle.reports.specs.LongHistory.{long_history_rows}
use Rattle.reports.specs.Names.{names}
use Rattle.reports.specs.EntryFilters.{posted_rows}
use Rattle.reports.specs.Stations.{station_rows}
use Rattle.reports.specs.Things.{at_rows, away_rows, content_rows, history_rows, where_row}
use Rattle.reports.specs.Cells.{Cell}
use Rattle.std.specs.Prelude.{◌∷◌, []}

-- The rows of a report in this form.
abbrev pub rows_in : Form → Book → Question → List (List Cell)
rows_in form B (Count rows sealed) = count_rows B form sealed rows.items
rows_in form B (Overdue day) = overdue_rows B day
rows_in form B Away = away_rows B form
rows_in form B (History code) = history_rows B code
rows_in form B (LongHistory code) = long_history_rows B form code
rows_in form B Stations = station_rows B form
rows_in form B (Where code) = where_row B form code ∷ []
rows_in form B (Contents code) = content_rows B code
rows_in form B (Loan code) = loan_rows B form code
rows_in form B (At place) = at_rows B place
rows_in form B (Posted filter) = posted_rows B filter
rows_in form B (Loans filter) = listed_rows B form filter
rows_in form B (Dues day) = due_rows B day
rows_in form B (Why filter) = cause_rows B form filter

-- The values of a report's rows, by column.
abbrev pub rows : Book → Question → List (List Cell)
rows B q = rows_in Csv B q

-- The words of its plain lines.
abbrev pub plain_rows : Book → Question → List (List Cell)
plain_rows B q = rows_in Plain B q

-- Every byte of a report.
abbrev pub report_text : Form → Book → Question → List ℕ
report_text form B q = rows_text form (names q) (rows_in form B q)
