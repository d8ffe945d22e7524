-- The verdict on the message of a gap.
use Rattle.std.proofs.Common.{◌≡◌, not, Bool, true, false, List, ℕ, [], ◌∷◌, refl, ap}
use Rattle.std.specs.Prelude.{IsTrue}
use Rattle.nest_core.specs.InOrder.{◌if◌}
use Rattle.posting_core.specs.declared.verdict.Verdict.{Verdict}
use Rattle.posting_core.specs.declared.verdict.Verdict.TheVariants.{UnknownLoan}
use Rattle.posting_core.specs.declared.verdict.Verdict.TheVariants.{AlreadyAuthorised}
use Rattle.posting_core.specs.Agreements.{is_agreed, is_authorised}
use Rattle.posting_core.specs.Book.{Book, verdict_in}
use Rattle.posting_core.specs.VerdictNames.{is_applied}
use Rattle.posting_core.specs.Verdicts.{first_of}
use Rattle.line_files.specs.Gaps.{gap_loan, gap_message}

-- the verdict of an authorisation, by whether its loan is agreed and authorised
abbrev verdict_by : Bool → Bool → Verdict
verdict_by agreed authorised =
    first_of ((UnknownLoan if not agreed) ∷ (AlreadyAuthorised if authorised) ∷ [])

refused_by : (agreed authorised : Bool) → IsTrue (not agreed)
    → verdict_by agreed authorised ≡ UnknownLoan
refused_by false authorised h = refl
refused_by true authorised h = absurd (cc)

pub refused : (B : Book) (by : List ℕ) → IsTrue (not (is_agreed B.posted gap_loan))
    → verdict_in B (gap_message by) ≡ UnknownLoan
refused B by h =
    refused_by (is_agreed B.posted gap_loan) (is_authorised B.posted gap_loan) h

pub not_applied : (v : Verdict) → v ≡ UnknownLoan → is_applied v ≡ false
not_applied v h = ap is_applied h
