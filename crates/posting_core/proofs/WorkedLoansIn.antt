-- Loans in computed on worked rows, and a row for each verdict of loans.
use Rattle.std.specs.Prelude.{ℕ, ℤ, pos, ◌≡◌, List, [], ◌∷◌, Some, None, map, refl, codes}
use Rattle.posting_core.specs.declared.message.Message.{Message}
use Rattle.posting_core.specs.declared.message.Message.TheVariants.{Pack, Agree, Receive}
use Rattle.posting_core.specs.declared.verdict.Verdict.TheVariants.{Applied, UnknownThing}
use Rattle.posting_core.specs.declared.verdict.Verdict.TheVariants.{UnknownPlace, ElsewherePlace}
use Rattle.posting_core.specs.declared.verdict.Verdict.TheVariants.{UnknownContainer, UnknownLoan}
use Rattle.posting_core.specs.declared.verdict.Verdict.TheVariants.{LoanKnown, InsidePartner}
use Rattle.posting_core.specs.declared.verdict.Verdict.TheVariants.{NoObjects, NotObject, Repeated}
use Rattle.posting_core.specs.declared.verdict.Verdict.TheVariants.{WrongOwner, BadTerm}
use Rattle.posting_core.specs.declared.verdict.Verdict.TheVariants.{AlreadyAuthorised}
use Rattle.posting_core.specs.declared.verdict.Verdict.TheVariants.{WrongDirection, NotHere}
use Rattle.posting_core.specs.declared.verdict.Verdict.TheVariants.{ContainerNotHere, AlreadyHere}
use Rattle.posting_core.specs.declared.stage.LineStage.TheVariants.{Awaiting, Here, GivenBack}
use Rattle.posting_core.specs.declared.stage.LoanState.TheVariants.{Draft, Authorised, Running}
use Rattle.posting_core.specs.declared.stage.LoanState.TheVariants.{Closed}
use Rattle.posting_core.specs.declared.entry.Entry.{Entry}
use Rattle.posting_core.specs.Book.{place_in, spots_in, loans_in, line_in, state_in, changes_of}
use Rattle.posting_core.proofs.WorkedRows.{lender_y, pack, gal, s1, s2, crate_1, object_1, borrowed}
use Rattle.posting_core.proofs.WorkedRows.{may, moved, run, verdicts, book, spot, put_at}
use Rattle.posting_core.proofs.WorkedLoansOut.{may_31, loan_1, agreed, authorised, leaves}

-- the day before the term
abbrev pub april_30 : ℤ
april_30 = pos 19843

-- a day after it
abbrev pub june_5 : ℤ
june_5 = pos 19879

-- a loan in, of the borrowed object, in May
abbrev pub loan_in_1 : List ℕ
loan_in_1 = codes "LI2024.1"

abbrev pub borrowing : Message
borrowing = Agree may may_31 loan_in_1 (codes "LENDER-Y") (codes "L1999.7" ∷ [])

abbrev pub received : ℤ → Message
received day = Receive day (codes "L1999.7") loan_in_1 (codes "S1")

-- loan_in: an object arrives on the last day, is moved like any other, and is given back after the
-- term

abbrev pub awaited : List Entry
awaited = run [] (
    (gal, borrowing)
    ∷ (gal, authorised loan_in_1)
    ∷ (gal, moved (codes "L1999.7") (codes "S1"))
    ∷ [])

abbrev pub here : List Entry
here = run awaited (
    (gal, received may_31)
    ∷ (gal, received may_31)
    ∷ (gal, moved (codes "L1999.7") (codes "S2"))
    ∷ [])

abbrev pub loan_in : List Entry
loan_in = run here (
    (gal, leaves (codes "L1999.7") loan_in_1 june_5)
    ∷ (gal, leaves (codes "L1999.7") loan_in_1 june_5)
    ∷ [])

loan_in-verdicts : verdicts loan_in ≡ Applied ∷ Applied ∷ NotHere ∷ Applied ∷ AlreadyHere ∷ Applied
    ∷ Applied ∷ NotHere ∷ []
loan_in-verdicts = refl

loan_in-lines : map (λ P. line_in (book P) loan_in_1 borrowed) (awaited ∷ here ∷ loan_in ∷ [])
    ≡ Some Awaiting ∷ Some Here ∷ Some GivenBack ∷ []
loan_in-lines = refl

loan_in-states : map (λ P. state_in (book P) loan_in_1) (awaited ∷ here ∷ loan_in ∷ [])
    ≡ Some Authorised ∷ Some Running ∷ Some Closed ∷ []
loan_in-states = refl

loan_in-places : map (λ P. place_in (book P) borrowed) (awaited ∷ here ∷ loan_in ∷ []) ≡ None
    ∷ Some s2 ∷ Some lender_y ∷ []
loan_in-places = refl

loan_in-spots : spots_in (book loan_in) borrowed ≡
    record { entry = 4; place = s1; day = may_31 } ∷ spot 6 s2
    ∷ record { entry = 7; place = lender_y; day = june_5 } ∷ []
loan_in-spots = refl

-- a receipt writes the object's first spot, and its line
loan_in-receiving : changes_of (book awaited) (received may_31) ≡ record {
  entry = 4;
  verdict = Applied;
  put = put_at borrowed s1;
  carried = borrowed ∷ [];
  spots = record {
    thing = borrowed;
    k = 1;
    spot = record { entry = 4; place = s1; day = may_31 };
  } ∷ [];
  loan = Some 0;
  lines = record { loan = loan_in_1; object = borrowed; stage = Here } ∷ [];
}
loan_in-receiving = refl

-- tour_of_verdicts

abbrev tour_agreements : List Entry
tour_agreements = run [] (
    (pack, Agree may may_31 loan_1 (codes "S1") [])
    ∷ (pack, agreed loan_1 [])
    ∷ (pack, agreed loan_1 (codes "C1" ∷ []))
    ∷ (pack, agreed loan_1 (codes "2001.4.1" ∷ codes "2001.4.1" ∷ []))
    ∷ (pack, agreed loan_1 (codes "L1999.7" ∷ []))
    ∷ (pack, Agree may april_30 loan_1 (codes "MUSEUM-X") (codes "2001.4.1" ∷ []))
    ∷ [])

abbrev tour_loans : List Entry
tour_loans = run tour_agreements (
    (pack, agreed loan_1 (codes "2001.4.1" ∷ []))
    ∷ (pack, agreed loan_1 (codes "2001.4.1" ∷ []))
    ∷ (pack, authorised loan_1)
    ∷ (pack, authorised loan_1)
    ∷ (pack, authorised (codes "LO2024.9"))
    ∷ (pack, Receive may (codes "2001.4.1") loan_1 (codes "S1"))
    ∷ [])

abbrev tour_of_verdicts : List Entry
tour_of_verdicts = run tour_loans (
    (pack, moved (codes "2001.4.1") (codes "MUSEUM-X"))
    ∷ (pack, moved (codes "2001.4.1") (codes "S9"))
    ∷ (pack, moved (codes "2009.1") (codes "S1"))
    ∷ (pack, Pack may (codes "2001.4.1") (codes "2001.4.2"))
    ∷ (pack, Pack may (codes "2001.4.1") (codes "C1"))
    ∷ (pack, borrowing)
    ∷ (pack, leaves (codes "C1") loan_in_1 may)
    ∷ [])

tour_of_verdicts-verdicts : verdicts tour_of_verdicts ≡
    InsidePartner ∷ NoObjects ∷ NotObject ∷ Repeated ∷ WrongOwner ∷ BadTerm
    ∷ Applied ∷ LoanKnown ∷ Applied ∷ AlreadyAuthorised ∷ UnknownLoan ∷ WrongDirection
    ∷ ElsewherePlace ∷ UnknownPlace ∷ UnknownThing ∷ UnknownContainer ∷ ContainerNotHere ∷ Applied
    ∷ NotObject ∷ []
tour_of_verdicts-verdicts = refl

-- refused messages agree nothing and place nothing
tour_of_verdicts-loans : map (λ P. loans_in (book P))
    (tour_agreements ∷ tour_loans ∷ tour_of_verdicts ∷ []) ≡ [] ∷ (loan_1 ∷ [])
    ∷ (loan_1 ∷ loan_in_1 ∷ []) ∷ []
tour_of_verdicts-loans = refl

tour_of_verdicts-states : map (state_in (book tour_of_verdicts))
    (loan_1 ∷ loan_in_1 ∷ codes "LO2024.9" ∷ []) ≡ Some Authorised ∷ Some Draft ∷ None ∷ []
tour_of_verdicts-states = refl

tour_of_verdicts-lines : map (λ P. line_in (book P) loan_1 object_1)
    (tour_agreements ∷ tour_of_verdicts ∷ []) ≡ None ∷ Some Awaiting ∷ []
tour_of_verdicts-lines = refl

tour_of_verdicts-places : map (place_in (book tour_of_verdicts))
    (crate_1 ∷ object_1 ∷ borrowed ∷ []) ≡ None ∷ None ∷ None ∷ []
tour_of_verdicts-places = refl
