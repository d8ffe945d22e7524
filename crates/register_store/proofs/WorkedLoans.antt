-- The rows of lines and of last days computed on worked lists, and the edge cases of putting them.
use Rattle.std.specs.Prelude.{ℕ, ℤ, pos, ◌≡◌, List, [], ◌∷◌, Some, None, refl, codes}
use Rattle.posting_core.specs.declared.message.Message.TheVariants.{Move, Pack, Agree, Authorise}
use Rattle.posting_core.specs.declared.message.Message.TheVariants.{Exit, Return, Extend}
use Rattle.posting_core.specs.declared.verdict.Verdict.TheVariants.{Applied, NotLater, LoanKnown}
use Rattle.posting_core.specs.declared.entry.Entry.{Entry}
use Rattle.posting_core.specs.declared.entry.NewLine.{NewLine}
use Rattle.posting_core.specs.declared.stage.LineStage.{LineStage}
use Rattle.posting_core.specs.declared.stage.LineStage.TheVariants.{Awaiting, Away, Back}
use Rattle.register_store.specs.StoredRows.{TermRow, LineRow, lines_by_loan, rows_of_lines}
use Rattle.register_store.specs.StoredRows.{rows_of_terms, is_same_line, is_same_loan, line_row}
use Rattle.register_store.specs.StoredRows.{put, put_each, term_of}
use Rattle.register_store.proofs.WorkedTexts.{may}
use Rattle.register_store.proofs.WorkedRows.{museum, pack, object_1, object_2, entry}

abbrev may_31 : ℤ
may_31 = pos 19874

abbrev june_2 : ℤ
june_2 = pos 19876

abbrev june_30 : ℤ
june_30 = pos 19904

abbrev loan_1 : List ℕ
loan_1 = codes "LO2024.1"

abbrev loan_2 : List ℕ
loan_2 = codes "LO2024.2"

abbrev line : List ℕ → ℕ → LineStage → NewLine
line loan o stage = record { loan = loan; object = o; stage = stage }

abbrev term : List ℕ → ℤ → TermRow
term loan day = record { loan = loan; day = day }

-- loan_out: two objects in a crate are agreed, and the crate leaves on the last day

abbrev agreed : List Entry
agreed =
    entry pack 4 (Agree may may_31 loan_1 (codes "MUSEUM-X")
    (codes "2001.4.1" ∷ codes "2001.4.2" ∷ [])) Applied
    ∷ entry pack 3 (Pack may (codes "2001.4.2") (codes "C1")) Applied
    ∷ entry pack 2 (Pack may (codes "2001.4.1") (codes "C1")) Applied
    ∷ entry pack 1 (Move may (codes "C1") (codes "S1")) Applied
    ∷ []

abbrev loan_out : List Entry
loan_out = entry pack 6 (Exit may_31 (codes "C1") loan_1) Applied ∷ entry pack 5
    (Authorise (codes "Ada") loan_1) Applied ∷ agreed

agreed-lines : lines_by_loan museum agreed ≡ line loan_1 object_1 Awaiting ∷ line loan_1 object_2
    Awaiting ∷ []
agreed-lines = refl

loan_out-lines : lines_by_loan museum loan_out ≡ line loan_1 object_1 Away ∷ line loan_1
    object_2 Away ∷ []
loan_out-lines = refl

loan_out-terms : rows_of_terms loan_out ≡ term loan_1 may_31 ∷ []
loan_out-terms = refl

-- an extension sets another last day and changes no line; a refused one sets none

abbrev extended : List Entry
extended = entry pack 7 (Extend june_30 loan_1) Applied ∷ loan_out

abbrev not_later : Entry
not_later = entry pack 8 (Extend june_2 loan_1) NotLater

extended-lines : lines_by_loan museum (not_later ∷ extended) ≡ line loan_1 object_1 Away
    ∷ line loan_1 object_2 Away ∷ []
extended-lines = refl

extended-terms : rows_of_terms (not_later ∷ extended) ≡ term loan_1 june_30 ∷ []
extended-terms = refl

-- one object comes back, and is agreed for another loan: each loan has its own line for it

abbrev again : List Entry
again =
    entry pack 9 (Agree may june_2 loan_2 (codes "MUSEUM-X") (codes "2001.4.1" ∷ [])) Applied
    ∷ entry pack 8 (Return june_2 (codes "2001.4.1") loan_1 (codes "S1")) Applied
    ∷ extended

again-lines : lines_by_loan museum again ≡ line loan_1 object_1 Back ∷ line loan_1 object_2 Away
    ∷ line loan_2 object_1 Awaiting ∷ []
again-lines = refl

again-terms : rows_of_terms again ≡ term loan_1 june_30 ∷ term loan_2 june_2 ∷ []
again-terms = refl

abbrev row : List ℕ → ℕ → LineStage → LineRow
row loan o stage = line_row (line loan o stage)

-- the row of an object that is away, as the table has it
row-away : row loan_1 object_2 Away ≡ record {
  loan = codes "LO2024.1";
  object = pos 3;
  stage = pos 1;
}
row-away = refl

-- a line replaces that of its loan and object, and no other
put-one : put is_same_line (row loan_1 object_1 Back) (rows_of_lines museum extended)
    ≡ row loan_1 object_1 Back ∷ row loan_1 object_2 Away ∷ []
put-one = refl

put-new : put_each is_same_line (row loan_2 object_1 Awaiting ∷ row loan_2 object_2 Awaiting ∷ [])
    (rows_of_lines museum agreed) ≡
    row loan_2 object_2 Awaiting ∷ row loan_2 object_1 Awaiting ∷ row loan_1 object_1 Awaiting
    ∷ row loan_1 object_2 Awaiting ∷ []
put-new = refl

put-both : put_each is_same_line (row loan_1 object_1 Away ∷ row loan_1 object_2 Away ∷ [])
    (rows_of_lines museum agreed) ≡ row loan_1 object_2 Away ∷ row loan_1 object_1 Away ∷ []
put-both = refl

put-day : put is_same_loan (term loan_1 june_30) (rows_of_terms loan_out) ≡ term loan_1 june_30 ∷ []
put-day = refl

put-other_day : put is_same_loan (term loan_2 june_2) (rows_of_terms loan_out) ≡ term loan_2 june_2
    ∷ term loan_1 may_31 ∷ []
put-other_day = refl

-- a refused message sets no last day, and neither does one that doesn't agree or extend
no_day-not_later : term_of not_later ≡ None
no_day-not_later = refl

no_day-known : term_of
    (entry pack 5 (Agree may june_30 loan_1 (codes "MUSEUM-X") (codes "2001.4.1" ∷ []))
    LoanKnown) ≡ None
no_day-known = refl

no_day-leaving : term_of (entry pack 6 (Exit may_31 (codes "C1") loan_1) Applied) ≡ None
no_day-leaving = refl

day-extended : term_of (entry pack 7 (Extend june_30 loan_1) Applied) ≡ Some (term loan_1 june_30)
day-extended = refl
