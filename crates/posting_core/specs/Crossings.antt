-- Defines the facts about a crossing that are established before its loan lines are checked.
use Rattle.std.specs.Prelude.{ℕ, ◌≡◌, ◌<◌, true, not, List, ◌∷◌, length, Some}
use Rattle.std.specs.Option.{option_map}
use Rattle.nest_core.specs.Museum.{Museum, find_thing, find_thing_at, is_elsewhere}
use Rattle.nest_core.specs.InOrder.{Row, ◌if◌}
use Rattle.posting_core.specs.declared.entry.Entry.{Entry}
use Rattle.posting_core.specs.declared.verdict.Verdict.{Verdict}
use Rattle.posting_core.specs.declared.verdict.Verdict.TheVariants.{UnknownThing, UnknownPlace}
use Rattle.posting_core.specs.declared.verdict.Verdict.TheVariants.{ElsewherePlace, UnknownLoan}
use Rattle.posting_core.specs.Messages.{place_no}
use Rattle.posting_core.specs.Agreements.{agreement, loan_no, is_agreed, is_authorised, last_day}
use Rattle.posting_core.specs.Loans.{line}
use Rattle.posting_core.specs.Verdicts.{is_known_at, is_known_place_at}
use Rattle.posting_core.specs.LoanRows.{LoanRow, line_of}

-- The thing has number x, the loan is agreed with number i, and the row agrees with looking back:
-- authorised or not, last day, partner's place and lines.
pub record IsFound (S : Museum) (P : List Entry) (code loan : List ℕ) (x i : ℕ)
    (row : LoanRow) : Type 0 where
  pub thing : find_thing S code ≡ Some x
  pub listed : find_thing_at S (length P) code ≡ Some x
  pub known : x < length S.things
  pub number : loan_no P loan ≡ Some i
  pub agreed : is_agreed P loan ≡ true
  pub authorised : row.authorised ≡ is_authorised P loan
  pub last : last_day P loan ≡ Some row.last
  pub partner : option_map (λ t. place_no S t.partner) (agreement P loan) ≡ Some row.partner
  pub lines : (o : ℕ) → line_of row o ≡ line S P loan o

-- The rows that a Return and a Receive both start with.
abbrev pub incoming_rows : Museum → List Entry → List ℕ → List ℕ → List ℕ → List (Row Verdict)
    → List (Row Verdict)
incoming_rows S P x loan p rest =
    (UnknownThing if not (is_known_at S P x))
    ∷ (UnknownPlace if not (is_known_place_at S P p))
    ∷ (ElsewherePlace if is_elsewhere S (place_no S p))
    ∷ (UnknownLoan if not (is_agreed P loan))
    ∷ rest
