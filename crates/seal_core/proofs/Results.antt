-- What workers make of each number, where none fails.
use Rattle.std.proofs.Common.{◌≡◌, ◌∙◌, ℕ, List, [], ◌∷◌, Vec, map, refl, ap, subst}
use Rattle.std.specs.Prelude.{IfOk, Ok, Err, MatchResult, Contains}
use Rattle.std.specs.List.{AllZip}
use Rattle.std.specs.declared.result.Result.{Result}

module _ {X : Type 0} (E : Type 0) (f : ℕ → X) where
  all_made : (places : List ℕ) (made : List X)
      → AllZip (λ i (one : Result X E). IfOk one (λ x. x ≡ f i)) places (map Ok made)
      → made ≡ map f places
  all_made [] [] each = refl
  all_made [] (x ∷ made) each = absurd each
  all_made (i ∷ places) [] each = absurd each
  all_made (i ∷ places) (x ∷ made) each =
      ap (λ y. y ∷ made) each.0 ∙ ap (λ l. f i ∷ l) (all_made places made each.1)

  pub made_of_each : {Z : Type 0} (places : List ℕ) (each : List (Result X E))
      (whole : Result (Vec X Z) E)
      → AllZip (λ i (one : Result X E). IfOk one (λ x. x ≡ f i)) places each
      → MatchResult whole (λ v. (made : List X) × (each ≡ map Ok made) × (v.items ≡ made))
      (λ e. Contains each (Err e))
      → IfOk whole (λ v. v.items ≡ map f places)
  made_of_each places each (Ok v) zipped gives =
      gives.2 ∙ all_made places gives.0
      (subst (AllZip (λ i (one : Result X E). IfOk one (λ x. x ≡ f i)) places) gives.1 zipped)
  made_of_each places each (Err e) zipped gives = tt
