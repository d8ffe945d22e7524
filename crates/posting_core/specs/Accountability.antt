-- Defines how the loans account for the objects: where own and borrowed objects are, when a loan is
-- over, and how things may leave and arrive. The laws of `posting_core` prove this of every ledger.
use Rattle.std.specs.Prelude.{ℕ, ℤ, ◌≡◌, ◌≢◌, ◌⊎◌, ◌≤ℤ◌, true, false, List, [], ◌∷◌, Option, Some}
use Rattle.std.specs.Prelude.{IfSome}
use Rattle.std.specs.Option.{option_map}
use Rattle.codes_core.specs.Loan.{is_out}
use Rattle.nest_core.specs.Museum.{is_inside, is_elsewhere}
use Rattle.posting_core.specs.declared.message.Message.{Message}
use Rattle.posting_core.specs.declared.message.Message.TheVariants.{Exit, Return, Receive}
use Rattle.posting_core.specs.declared.entry.Entry.{Entry}
use Rattle.posting_core.specs.declared.stage.LineStage.{LineStage}
use Rattle.posting_core.specs.declared.stage.LineStage.TheVariants.{Away, Back, Here, GivenBack}
use Rattle.posting_core.specs.Messages.{place_no}
use Rattle.posting_core.specs.VerdictNames.{is_applied}
use Rattle.posting_core.specs.Agreements.{agreement, is_authorised, last_day}
use Rattle.posting_core.specs.Book.{Book, place_in, chain_in, spots_in, loans_in, objects_of_loan}
use Rattle.posting_core.specs.Book.{line_in, state_in, last_day_in}

-- Under no loan is the object's line at this stage.
abbrev pub IsUnderNone : Book → LineStage → ℕ → Type 0
IsUnderNone B s o = (loan : List ℕ) → line_in B loan o ≢ Some s

-- The object's line is at this stage under this loan, and under no other.
abbrev pub IsUnderOne : Book → LineStage → ℕ → List ℕ → Type 0
IsUnderOne B s o loan =
    (line_in B loan o ≡ Some s) × ((other : List ℕ) → line_in B other o ≡ Some s → other ≡ loan)

-- The place of the loan's partner, by number.
abbrev pub partner_in : Book → List ℕ → Option ℕ
partner_in B loan = option_map (λ t. place_no B.museum t.partner) (agreement B.posted loan)

-- An own object is home: inside, or not placed yet, and away under no loan. By law each own object
-- is home or lent.
pub record IsHome (B : Book) (o : ℕ) : Type 0 where
  pub place : IfSome (place_in B o) (λ p. is_inside B.museum p ≡ true)
  pub loans : IsUnderNone B Away o

-- An own object is lent: away under exactly one loan, a loan out, and at the place of that loan's
-- partner, which is elsewhere.
pub record IsLent (B : Book) (o : ℕ) : Type 0 where
  pub loan : List ℕ
  pub loan_out : is_out loan ≡ true
  pub away : IsUnderOne B Away o loan
  pub partner : ℕ
  pub agreed : partner_in B loan ≡ Some partner
  pub place : place_in B o ≡ Some partner
  pub elsewhere : is_elsewhere B.museum partner ≡ true

-- A borrowed object is with its lender: elsewhere, or not placed yet, and here under no loan. By
-- law each borrowed object is with its lender or a guest.
pub record IsWithLender (B : Book) (o : ℕ) : Type 0 where
  pub place : IfSome (place_in B o) (λ p. is_elsewhere B.museum p ≡ true)
  pub loans : IsUnderNone B Here o

-- A borrowed object is a guest: here under exactly one loan, a loan in, and at a place inside.
pub record IsGuest (B : Book) (o : ℕ) : Type 0 where
  pub loan : List ℕ
  pub loan_in : is_out loan ≡ false
  pub here : IsUnderOne B Here o loan
  pub at : ℕ
  pub place : place_in B o ≡ Some at
  pub inside : is_inside B.museum at ≡ true

-- Nothing more is owed for this line. By law that holds for each line of a closed loan.
abbrev pub IsOver : LineStage → Type 0
IsOver s = (s ≡ Back) ⊎ (s ≡ GivenBack)

-- R holds for each applied entry and the entries before it.
abbrev pub AtEachApplied : (List Entry → Message → Type 0) → List Entry → Type 0
AtEachApplied R [] = Unit {0}
AtEachApplied R (e ∷ P) = (is_applied e.verdict ≡ true → R P e.message) × AtEachApplied R P

-- A thing crosses only under an authorised loan.
abbrev pub IsAuthorised : List Entry → Message → Type 0
IsAuthorised P (Exit day x loan) = is_authorised P loan ≡ true
IsAuthorised P (Return day x loan p) = is_authorised P loan ≡ true
IsAuthorised P (Receive day x loan p) = is_authorised P loan ≡ true
IsAuthorised P _ = Unit {0}

-- The day is not after the loan's last day.
abbrev pub IsWithin : List Entry → List ℕ → ℤ → Type 0
IsWithin P loan day = (last : ℤ) × (last_day P loan ≡ Some last) × (day ≤ℤ last)

-- A thing leaves under a loan out, and arrives under a loan in, no later than the loan's last day.
abbrev pub IsInTerm : List Entry → Message → Type 0
IsInTerm P (Exit day x loan) = is_out loan ≡ true → IsWithin P loan day
IsInTerm P (Receive day x loan p) = IsWithin P loan day
IsInTerm P _ = Unit {0}

-- Two ledgers have the same answers for every thing and every loan. By law a refused entry changes
-- no answer.
pub record AnswerAlike (A B : Book) : Type 0 where
  pub places : (x : ℕ) → place_in A x ≡ place_in B x
  pub chains : (x : ℕ) → chain_in A x ≡ chain_in B x
  pub spots : (x : ℕ) → spots_in A x ≡ spots_in B x
  pub loans : loans_in A ≡ loans_in B
  pub objects : (loan : List ℕ) → objects_of_loan A loan ≡ objects_of_loan B loan
  pub lines : (loan : List ℕ) (o : ℕ) → line_in A loan o ≡ line_in B loan o
  pub states : (loan : List ℕ) → state_in A loan ≡ state_in B loan
  pub days : (loan : List ℕ) → last_day_in A loan ≡ last_day_in B loan
