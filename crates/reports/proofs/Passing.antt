-- The elements that pass a test, as a loop goes through a list.
use Rattle.std.proofs.Common.{◌≡◌, ◌∙◌, ◌+◌, ◌++◌, ◌∷◌, ◌≤◌, ◌<◌, [], Bool, List, ℕ, ap, arith}
use Rattle.std.proofs.Common.{cond}
use Rattle.std.proofs.Common.{false, filter, get_or, length, not, refl, take, true}
use Rattle.std.proofs.lemmas.List.{append-nil, length-take}
use Rattle.std.proofs.lemmas.List.Elements.{filter_more}
use Rattle.std.proofs.lemmas.List.Filters.{length-filter_both}

module _ {X : Type 0} (p : X → Bool) (xs : List X) where
  -- No more pass than there are.
  filter_within : (ys : List X) → length (filter p ys) ≤ length ys
  filter_within ys = omega (arith, length-filter_both p (λ x. not (p x)) (λ x. refl) ys)

  -- No more pass of the first i elements than i.
  pub filter_taken : (i : ℕ) → i < length xs → length (filter p (take i xs)) ≤ i
  filter_taken i lt = omega (arith, filter_within (take i xs), length-take i xs, lt)

  -- The next element passes.
  pub next_with : (i : ℕ) (d : X) → i < length xs → p (get_or xs i d) ≡ true
      → filter p (take (i + 1) xs) ≡ filter p (take i xs) ++ get_or xs i d ∷ []
  next_with i d lt e = filter_more p xs i d lt
      ∙ ap (λ b. filter p (take i xs) ++ cond b (get_or xs i d ∷ []) []) e

  -- The next element does not pass.
  pub next_without : (i : ℕ) (d : X) → i < length xs → p (get_or xs i d) ≡ false
      → filter p (take (i + 1) xs) ≡ filter p (take i xs)
  next_without i d lt e = filter_more p xs i d lt
      ∙ (ap (λ b. filter p (take i xs) ++ cond b (get_or xs i d ∷ []) []) e
      ∙ append-nil (filter p (take i xs)))
