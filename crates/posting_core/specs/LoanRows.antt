-- Defines the row that a ledger keeps of each loan, and how a message changes it.
use Rattle.std.specs.Prelude.{ℕ, ℤ, ◌≡◌, Bool, true, false, List, [], ◌∷◌, ◌++◌, Option, None, map}
use Rattle.std.specs.Prelude.{slice_get, slice_set, nat_eq, if◌then◌else◌}
use Rattle.std.specs.List.{position, find}
use Rattle.std.specs.Option.{option_map_or, option_and_then}
use Rattle.std.specs.Str.{bytes_eq}
use Rattle.nest_core.specs.Museum.{Museum}
use Rattle.nest_core.specs.Puts.{is_among}
use Rattle.posting_core.specs.declared.message.Message.{Message}
use Rattle.posting_core.specs.declared.message.Message.TheVariants.{Agree, Authorise, Exit, Return}
use Rattle.posting_core.specs.declared.message.Message.TheVariants.{Receive, Extend}
use Rattle.posting_core.specs.declared.entry.Entry.{Entry}
use Rattle.posting_core.specs.declared.entry.NewLine.{NewLine}
use Rattle.posting_core.specs.declared.stage.LineStage.{LineStage}
use Rattle.posting_core.specs.declared.stage.LoanState.{LoanState}
use Rattle.posting_core.specs.declared.verdict.Verdict.{Verdict}
use Rattle.posting_core.specs.VerdictNames.{is_applied}
use Rattle.posting_core.specs.Messages.{place_no, loan_of}
use Rattle.posting_core.specs.Agreements.{Agreement, agreements, is_authorised, last_from}
use Rattle.posting_core.specs.Loans.{stage, objects_of, state_by}

-- A loan: the number of the partner's place, the numbers of the objects and the stages of their
-- lines, the last day, and whether it is authorised.
pub record LoanRow : Type 0 where
  pub loan : List ℕ
  pub partner : ℕ
  pub objects : List ℕ
  pub stages : List LineStage
  pub last : ℤ
  pub authorised : Bool

-- The row of a loan, by looking back.
abbrev pub loan_row : Museum → List Entry → Agreement → LoanRow
loan_row S P t = record {
  loan = t.loan;
  partner = place_no S t.partner;
  objects = objects_of S t;
  stages = map (stage S P t.loan) (objects_of S t);
  last = last_from P t.loan t.last;
  authorised = is_authorised P t.loan;
}

-- The rows of all loans, in the order of their agreements.
abbrev pub loan_rows : Museum → List Entry → List LoanRow
loan_rows S P = map (loan_row S P) (agreements P)

-- The stage of an object's line, by the row.
abbrev pub line_of : LoanRow → ℕ → Option LineStage
line_of row o = option_and_then (slice_get row.stages) (position (nat_eq o) row.objects)

-- The state of a loan, by its row.
abbrev pub state_of : LoanRow → LoanState
state_of row = state_by row.authorised row.stages

-- The row of a loan that was just agreed.
abbrev pub agreed_row : Museum → Agreement → List NewLine → LoanRow
agreed_row S t lines = record {
  loan = t.loan;
  partner = place_no S t.partner;
  objects = map (λ l. l.object) lines;
  stages = map (λ l. l.stage) lines;
  last = t.last;
  authorised = false;
}

abbrev pub authorised_row : LoanRow → LoanRow
authorised_row row = record row { authorised = true }

abbrev pub extended_row : ℤ → LoanRow → LoanRow
extended_row last row = record row { last = last }

-- The row with a new stage for an object's line, if the loan lists the object.
abbrev pub with_stage : LoanRow → ℕ → LineStage → LoanRow
with_stage row o s =
    record row {
      stages = option_map_or (λ i. slice_set row.stages i s)
          (position (nat_eq o) row.objects) row.stages;
    }

-- The row with each of these lines set, one after another.
abbrev pub with_lines : List NewLine → LoanRow → LoanRow
with_lines [] row = row
with_lines (l ∷ ls) row = with_lines ls (with_stage row l.object l.stage)

-- The rows with that of one loan changed.
abbrev pub changed : (LoanRow → LoanRow) → List ℕ → List LoanRow → List LoanRow
changed change loan [] = []
changed change loan (row ∷ rows) =
    if bytes_eq loan row.loan then change row ∷ rows else row ∷ changed change loan rows

-- The rows after an applied message with these lines. An Agree adds a row, the other messages of a
-- loan change its row, and the rest change none.
abbrev pub rows_with : Museum → List LoanRow → Message → List NewLine → List LoanRow
rows_with S rows (Agree first last loan partner objects) lines =
    rows ++ agreed_row S
    (record { loan = loan; partner = partner; objects = objects; first = first; last = last })
    lines ∷ []
rows_with S rows (Authorise name loan) lines = changed authorised_row loan rows
rows_with S rows (Exit day x loan) lines = changed (with_lines lines) loan rows
rows_with S rows (Return day x loan p) lines = changed (with_lines lines) loan rows
rows_with S rows (Receive day x loan p) lines = changed (with_lines lines) loan rows
rows_with S rows (Extend last loan) lines = changed (extended_row last) loan rows
rows_with S rows _ lines = rows

-- The number of the row of the loan that a message continues under this verdict.
abbrev pub row_by : List LoanRow → Verdict → Message → Option ℕ
row_by rows verdict m = option_and_then
    (λ loan. if is_applied verdict then position (bytes_eq loan) (map (λ row. row.loan) rows)
    else None)
    (loan_of m)

-- No number occurs twice.
abbrev pub AreOnce : List ℕ → Type 0
AreOnce [] = Unit {0}
AreOnce (o ∷ os) = (is_among o os ≡ false) × AreOnce os

-- The agreement can be kept with these lines: no object has two, and the loan is new.
pub record MayAgree (rows : List LoanRow) (lines : List NewLine) (t : Agreement) : Type 0 where
  pub once : AreOnce (map (λ l. l.object) lines)
  pub new : find (λ row. bytes_eq t.loan row.loan) rows ≡ None
