-- The rows that come before the loan lines of a crossing, and the loan that a message continues,
-- computed on worked rows. Two loans are agreed, and the first is authorised; crate C1 holds
-- objects of both.
use Rattle.std.specs.Prelude.{ℕ, ◌≡◌, true, false, List, [], ◌∷◌, Some, None, map, refl, codes}
use Rattle.std.proofs.Common.{arith, sym}
use Rattle.nest_core.specs.Museum.{find_thing}
use Rattle.posting_core.specs.declared.verdict.Verdict.TheVariants.{Applied, UnknownThing}
use Rattle.posting_core.specs.declared.verdict.Verdict.TheVariants.{UnknownPlace, ElsewherePlace}
use Rattle.posting_core.specs.declared.verdict.Verdict.TheVariants.{UnknownLoan, NotAuthorised}
use Rattle.posting_core.specs.declared.message.Message.{Message}
use Rattle.posting_core.specs.declared.message.Message.TheVariants.{Move, Extend}
use Rattle.posting_core.specs.declared.stage.LineStage.TheVariants.{Awaiting}
use Rattle.posting_core.specs.declared.entry.Entry.{Entry}
use Rattle.posting_core.specs.Agreements.{is_agreed, last_day, loan_no, loan_by}
use Rattle.posting_core.specs.LoanRows.{AreOnce, LoanRow, loan_rows, row_by}
use Rattle.posting_core.specs.Crossings.{IsFound, incoming_rows}
use Rattle.posting_core.specs.Verdicts.{first_of}
use Rattle.posting_core.proofs.LoanAnswers.{IsRowOf, row_is}
use Rattle.posting_core.proofs.WorkedRows.{museum, museum_x, pack, crate_1, object_1, object_2}
use Rattle.posting_core.proofs.WorkedRows.{object_3, may, run}
use Rattle.posting_core.proofs.WorkedLoansOut.{agreed, loan_1, may_31, june_1, now_authorised}

-- the loan that is agreed last, for the object that was left out
abbrev loan_2 : List ℕ
loan_2 = codes "LO2024.2"

abbrev two_loans : List Entry
two_loans = run now_authorised ((pack, agreed loan_2 (codes "2001.4.3" ∷ [])) ∷ [])

-- loans are numbered in the order in which they were agreed
numbers : map (loan_no two_loans) (loan_1 ∷ loan_2 ∷ codes "LO2024.3" ∷ []) ≡ Some 0
    ∷ Some 1 ∷ None ∷ []
numbers = refl

abbrev extended : Message
extended = Extend june_1 loan_2

-- A loan is continued by an applied message about it, not by a refused one or one about no loan.
goes_on : loan_by two_loans Applied extended ∷ loan_by two_loans NotAuthorised extended
    ∷ loan_by two_loans Applied (Move may (codes "C1") (codes "S2")) ∷ [] ≡ Some 1
    ∷ None ∷ None ∷ []
goes_on = refl

row_goes_on : row_by (loan_rows museum two_loans) Applied extended
    ∷ row_by (loan_rows museum two_loans) NotAuthorised extended ∷ [] ≡ Some 1 ∷ None ∷ []
row_goes_on = refl

three_once : AreOnce (3 ∷ 1 ∷ 2 ∷ [])
three_once = (refl, (refl, (refl, tt)))

one_twice : AreOnce (2 ∷ 1 ∷ 2 ∷ []) → false ≡ true
one_twice once = sym once.0

-- facts about C1 and the first loan
found : find_thing museum (codes "C1") ≡ Some crate_1
found = refl

found_agreed : is_agreed two_loans loan_1 ≡ true
found_agreed = refl

found_last : last_day two_loans loan_1 ≡ Some may_31
found_last = refl

abbrev row_1 : LoanRow
row_1 = record {
  loan = loan_1;
  partner = museum_x;
  objects = object_1 ∷ object_2 ∷ [];
  stages = Awaiting ∷ Awaiting ∷ [];
  last = may_31;
  authorised = true;
}

found_rows : loan_rows museum two_loans ≡
    row_1
    ∷ record {
      loan = loan_2;
      partner = museum_x;
      objects = object_3 ∷ [];
      stages = Awaiting ∷ [];
      last = may_31;
      authorised = false;
    }
    ∷ []
found_rows = refl

is_found : IsFound museum two_loans (codes "C1") loan_1 crate_1 0 row_1
is_found = record {
  thing = refl;
  listed = refl;
  known = omega arith;
  number = refl;
  agreed = refl;
  authorised = refl;
  last = refl;
  partner = refl;
  lines = of_row.lines;
}
  where
    of_row : IsRowOf museum two_loans loan_1 row_1
    of_row = (row_is museum two_loans loan_1 (loan_rows museum two_loans) (Some row_1) refl refl).1

-- the second loan's row is not the first's
is_not_found : ¬ IsFound museum two_loans (codes "C1") loan_1 crate_1 1 row_1
is_not_found h = let number : Some 0 ≡ Some 1 = h.number in cc

-- the rows that a return and a receipt begin with, one after the other
incoming : first_of (incoming_rows museum two_loans (codes "C9") (codes "LO2024.3") (codes "S9") [])
    ∷ first_of (incoming_rows museum two_loans (codes "C1") (codes "LO2024.3") (codes "S9") [])
    ∷ first_of (incoming_rows museum two_loans (codes "C1") (codes "LO2024.3")
    (codes "MUSEUM-X") [])
    ∷ first_of (incoming_rows museum two_loans (codes "C1") (codes "LO2024.3") (codes "S1") [])
    ∷ first_of (incoming_rows museum two_loans (codes "C1") loan_1 (codes "S1") [])
    ∷ [] ≡ UnknownThing ∷ UnknownPlace ∷ ElsewherePlace ∷ UnknownLoan ∷ Applied ∷ []
incoming = refl
