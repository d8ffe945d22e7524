-- When a trial has no notes.
use Rattle.std.proofs.Common.{◌≡◌, ◌++◌, ◌∷◌, ◌∙◌, [], ℕ, Bool, List, ap, arith, length, refl}
use Rattle.std.proofs.Common.{sym}
use Rattle.std.specs.Prelude.{◌==◌, ◌↔◌, IsTrue, None, Some, if◌then◌else◌}
use Rattle.std.proofs.lemmas.Bool.{eqb-true}
use Rattle.std.specs.Option.{option_to_list}
use Rattle.posting_core.specs.declared.verdict.Verdict.{Verdict}
use Rattle.posting_core.specs.declared.verdict.Verdict.TheVariants.{Applied}
use Rattle.posting_core.specs.VerdictNames.{is_applied}
use Rattle.line_files.specs.Notes.{note_lines}

pub record AreEmpty {A : Type 0} (a b : List A) : Type 0 where
  pub first : a ≡ []
  pub second : b ≡ []

pub both_empty : {A : Type 0} (a b : List A) → a ++ b ≡ [] → AreEmpty a b
both_empty [] b h = record { first = refl; second = h }
both_empty (x ∷ a) b h = absurd (cc)

no_length : {A : Type 0} (a : List A) → length a ≡ 0 → a ≡ []
no_length [] h = refl
no_length (x ∷ a) h = absurd (omega (arith, h))

-- A line is never empty.
no_lines : (prefix : List ℕ) (notes : List (List ℕ)) → note_lines prefix notes ≡ [] → notes ≡ []
no_lines prefix [] h = refl
no_lines prefix (note ∷ notes) h =
    let line = (both_empty (prefix ++ note ++ 10 ∷ []) (note_lines prefix notes) h).first in
    let feed = (both_empty (prefix ++ note) (10 ∷ []) line).second in
    absurd (cc)

pub empty_text : (test : Bool) (text bytes prefix : List ℕ) (notes : List (List ℕ))
    → test ≡ (length text == 0) → text ≡ bytes → bytes ≡ note_lines prefix notes
    → IsTrue test ↔ (notes ≡ [])
empty_text test text bytes prefix notes tests same is = (
  λ yes. no_lines prefix notes
      (sym is ∙ (sym same ∙ no_length text (eqb-true (length text) 0 (sym tests ∙ yes)))),
  λ none. tests
      ∙ ap (λ (t : List ℕ). length t == 0) (same ∙ (is ∙ ap (note_lines prefix) none)),
)

pub without_note : (v : Verdict) (note : List ℕ)
    → option_to_list (if is_applied v then None else Some note) ≡ [] → IsTrue (is_applied v)
without_note Applied note h = refl
without_note _ note h = absurd (cc)
