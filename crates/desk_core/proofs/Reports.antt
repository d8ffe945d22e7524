-- Which words a report can have.
use Rattle.std.proofs.Common.{◌≡◌, ℕ, true, false, List, ◌∷◌, refl}
use Rattle.std.specs.List.{list_all}
use Rattle.std.specs.Str.{IsUtf8, is_utf8}
use Rattle.std.proofs.lemmas.Str.{IsUtf8-from_is_utf8, is_utf8-from_IsUtf8}
use Rattle.desk_core.specs.declared.said.Rejection.TheVariants.{NotUnderstood}
use Rattle.desk_core.specs.declared.said.Said.TheVariants as says
use Rattle.desk_core.specs.DeskStep.{report_said}
use Rattle.desk_core.specs.LineTexts.{words}

no_text : (word : List ℕ) → ¬ (IsUtf8 word) → is_utf8 word ≡ false
no_text word h =
    elim (is_utf8 word) as (λ t. is_utf8 word ≡ t → t ≡ false) [
      | true ↦ λ e. absurd (h (IsUtf8-from_is_utf8 word e))
      | false ↦ λ e. refl
    ] refl

pub texts-passed : (word : List ℕ) (others : List (List ℕ)) → IsUtf8 word
    → list_all is_utf8 (word ∷ others) ≡ list_all is_utf8 others
texts-passed word others h = rw (is_utf8-from_IsUtf8 word h) refl

pub texts-rejected : (word : List ℕ) (others : List (List ℕ)) → ¬ (IsUtf8 word)
    → list_all is_utf8 (word ∷ others) ≡ false
texts-rejected word others h = rw (no_text word h) refl

pub rejected : (name rest : List ℕ) → list_all is_utf8 (words rest) ≡ false
    → says.Rejected NotUnderstood ≡ report_said name rest
unfolding report_said
rejected name rest e = rw e refl

pub reported : (name rest : List ℕ) (found : List (List ℕ)) → found ≡ name ∷ words rest
    → list_all is_utf8 (words rest) ≡ true → says.Report found ≡ report_said name rest
unfolding report_said
reported name rest found f e = rw (e, f) refl
