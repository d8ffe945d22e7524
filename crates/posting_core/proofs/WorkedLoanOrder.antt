-- The order of the verdicts on loans, computed on worked rows: if two neighbouring causes hold, the
-- verdict is the first.
use Rattle.std.specs.Prelude.{ℕ, ◌≡◌, List, [], ◌∷◌, map, refl, codes}
use Rattle.posting_core.specs.declared.message.Message.{Message}
use Rattle.posting_core.specs.declared.message.Message.TheVariants.{Agree, Return, Receive, Extend}
use Rattle.posting_core.specs.declared.verdict.Verdict.{Verdict}
use Rattle.posting_core.specs.declared.verdict.Verdict.TheVariants.{UnknownThing, UnknownPlace}
use Rattle.posting_core.specs.declared.verdict.Verdict.TheVariants.{ElsewherePlace, UnknownLoan}
use Rattle.posting_core.specs.declared.verdict.Verdict.TheVariants.{LoanKnown, InsidePartner}
use Rattle.posting_core.specs.declared.verdict.Verdict.TheVariants.{NotObject, Repeated, WrongOwner}
use Rattle.posting_core.specs.declared.verdict.Verdict.TheVariants.{NotAuthorised, WrongDirection}
use Rattle.posting_core.specs.declared.verdict.Verdict.TheVariants.{NotHere, NotWithPartner}
use Rattle.posting_core.specs.declared.verdict.Verdict.TheVariants.{AlreadyHere, NotListed}
use Rattle.posting_core.specs.declared.verdict.Verdict.TheVariants.{WrongStage}
use Rattle.posting_core.specs.declared.entry.Entry.{Entry}
use Rattle.posting_core.specs.Verdicts.{verdict}
use Rattle.posting_core.proofs.WorkedRows.{museum, pack, may, moved, run}
use Rattle.posting_core.proofs.WorkedLoansOut.{may_31, june_1, loan_1, agreed, authorised, leaves}
use Rattle.posting_core.proofs.WorkedLoansIn.{april_30, loan_in_1, borrowing}

abbrev first_object : List ℕ
first_object = codes "2001.4.1"

-- a loan out and a loan in are agreed, and not authorised
abbrev drafts : List Entry
drafts = run [] ((pack, agreed loan_1 (first_object ∷ [])) ∷ (pack, borrowing) ∷ [])

abbrev both_authorised : List Entry
both_authorised = run drafts ((pack, authorised loan_1) ∷ (pack, authorised loan_in_1) ∷ [])

-- the listed object and another are here; the first has left and come back
abbrev came_back : List Entry
came_back = run both_authorised (
    (pack, moved first_object (codes "S1"))
    ∷ (pack, moved (codes "2001.4.2") (codes "S1"))
    ∷ (pack, leaves first_object loan_1 may)
    ∷ (pack, Return may first_object loan_1 (codes "S1"))
    ∷ [])

-- the borrowed object came and was given back
abbrev given_back : List Entry
given_back = run both_authorised (
    (pack, Receive may (codes "L1999.7") loan_in_1 (codes "S1"))
    ∷ (pack, leaves (codes "L1999.7") loan_in_1 may)
    ∷ [])

abbrev told_after : List Entry → List Message → List Verdict
told_after P ms = map (verdict museum 8 P) ms

-- the last three list a container twice, a borrowed object twice, and a borrowed object with its
-- last day before its first
agree : told_after drafts (
    Agree may may_31 (codes "LO2024.9") (codes "S9") (codes "2009.1" ∷ [])
    ∷ Agree may may_31 loan_1 (codes "S9") (first_object ∷ [])
    ∷ Agree may may_31 loan_1 (codes "S1") (first_object ∷ [])
    ∷ Agree may may_31 (codes "LO2024.9") (codes "S1") []
    ∷ agreed (codes "LO2024.9") (codes "C1" ∷ codes "C1" ∷ [])
    ∷ agreed (codes "LO2024.9") (codes "L1999.7" ∷ codes "L1999.7" ∷ [])
    ∷ Agree may april_30 (codes "LO2024.9") (codes "MUSEUM-X") (codes "L1999.7" ∷ [])
    ∷ [])
    ≡ UnknownThing ∷ UnknownPlace ∷ LoanKnown ∷ InsidePartner ∷ NotObject ∷ Repeated
    ∷ WrongOwner ∷ []
agree = refl

exit-drafts : told_after drafts (
    leaves (codes "2009.1") (codes "LO2024.9") may
    ∷ leaves (codes "C1") (codes "LI2024.9") may
    ∷ leaves (codes "C1") loan_in_1 may
    ∷ leaves first_object loan_1 may
    ∷ [])
    ≡ UnknownThing ∷ UnknownLoan ∷ NotObject ∷ NotAuthorised ∷ []
exit-drafts = refl

exit-authorised : told_after both_authorised (leaves (codes "2001.4.2") loan_1 may ∷ [])
    ≡ NotHere ∷ []
exit-authorised = refl

-- an object that isn't listed is at no stage either; a line that is back isn't awaited, and the
-- term is over
exit-here : told_after came_back (leaves (codes "2001.4.2") loan_1 may ∷ leaves first_object loan_1
    june_1 ∷ []) ≡ NotListed ∷ WrongStage ∷ []
exit-here = refl

return-drafts : told_after drafts (
    Return may (codes "2009.1") loan_1 (codes "S9")
    ∷ Return may first_object (codes "LO2024.9") (codes "MUSEUM-X")
    ∷ Return may first_object (codes "LO2024.9") (codes "S1")
    ∷ Return may first_object loan_in_1 (codes "S1")
    ∷ [])
    ≡ UnknownThing ∷ ElsewherePlace ∷ UnknownLoan ∷ NotAuthorised ∷ []
return-drafts = refl

return-authorised : told_after both_authorised
    (Return may first_object loan_in_1 (codes "S1") ∷ Return may (codes "2001.4.2") loan_1
    (codes "S1") ∷ []) ≡ WrongDirection ∷ NotWithPartner ∷ []
return-authorised = refl

receive-drafts : told_after drafts (
    Receive may (codes "2009.1") loan_in_1 (codes "S9")
    ∷ Receive may first_object (codes "LI2024.9") (codes "MUSEUM-X")
    ∷ Receive may (codes "C1") (codes "LI2024.9") (codes "S1")
    ∷ Receive may (codes "C1") loan_in_1 (codes "S1")
    ∷ Receive may first_object loan_1 (codes "S1")
    ∷ [])
    ≡ UnknownThing ∷ ElsewherePlace ∷ UnknownLoan ∷ NotObject ∷ NotAuthorised ∷ []
receive-drafts = refl

receive-here : told_after came_back
    (Receive may first_object loan_1 (codes "S1") ∷ Receive may (codes "2001.4.2") loan_in_1
    (codes "S1") ∷ []) ≡ WrongDirection ∷ AlreadyHere ∷ []
receive-here = refl

receive-given_back : told_after given_back (Receive may (codes "2001.4.2") loan_in_1 (codes "S1")
    ∷ Receive june_1 (codes "L1999.7") loan_in_1 (codes "S1") ∷ []) ≡ NotListed ∷ WrongStage ∷ []
receive-given_back = refl

extend : told_after drafts (Extend june_1 (codes "LO2024.9") ∷ Extend april_30 loan_1 ∷ [])
    ≡ UnknownLoan ∷ NotAuthorised ∷ []
extend = refl
