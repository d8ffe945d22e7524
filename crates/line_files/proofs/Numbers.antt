-- The messages under numbers, in lists that grow.
use Rattle.std.proofs.Common.{◌≡◌, ℕ, ◌==◌, Bool, true, false, List, [], ◌∷◌, ◌++◌, Option, Some}
use Rattle.std.proofs.Common.{None, if◌then◌else◌, refl, sym, ap, ◌∙◌, arith}
use Rattle.std.specs.Option.{option_or}
use Rattle.std.proofs.lemmas.Bool.Decides.{nat_tests}
use Rattle.station_core.specs.Runs.{Arrived, arrived, is_number, message_at}

module _ {M : Type 0} where
  or_if : (b : Bool) (m : M) (o p : Option M)
      → (if b then Some m else option_or o p) ≡ option_or (if b then Some m else o) p
  or_if true m o p = refl
  or_if false m o p = refl

  pub or_none : (o : Option M) → option_or o None ≡ o
  or_none None = refl
  or_none (Some m) = refl

  -- the first of two lists has its message first
  pub message_at-append : (xs ys : List (Arrived M)) (s q : ℕ)
      → message_at (xs ++ ys) s q ≡ option_or (message_at xs s q) (message_at ys s q)
  message_at-append [] ys s q = refl
  message_at-append (x ∷ xs) ys s q =
      ap (λ (o : Option M). if is_number s q x then Some x.message else o)
      (message_at-append xs ys s q)
      ∙ or_if (is_number s q x) x.message (message_at xs s q) (message_at ys s q)

  pub message_at-one : (s n : ℕ) (m : M) (q : ℕ)
      → message_at (arrived s n m ∷ []) s q ≡ (if n == q then Some m else None)
  message_at-one s n m q = let e : (s == s) ≡ true = grind (arith, nat_tests) in rw e refl

  pub message_at-apart : (r : Arrived M) (s q : ℕ) → (r.station == s) ≡ false
      → message_at (r ∷ []) s q ≡ None
  message_at-apart r s q h = rw h refl

  -- one more message of the station
  pub has_more : (known next : ℕ → Option M) (s : ℕ) (them : List (Arrived M)) (n : ℕ) (m : M)
      → ((q : ℕ) → known q ≡ message_at them s q)
      → ((q : ℕ) → next q ≡ option_or (known q) (if n == q then Some m else None))
      → (q : ℕ) → next q ≡ message_at (them ++ arrived s n m ∷ []) s q
  has_more known next s them n m has by q =
      by q ∙ ap (λ o. option_or o (if n == q then Some m else None)) (has q)
      ∙ sym (message_at-append them (arrived s n m ∷ []) s q
      ∙ ap (λ o. option_or (message_at them s q) o) (message_at-one s n m q))

  -- one more message of another station
  pub has_other : (known : ℕ → Option M) (s : ℕ) (them : List (Arrived M)) (r : Arrived M)
      → ((q : ℕ) → known q ≡ message_at them s q) → (r.station == s) ≡ false
      → (q : ℕ) → known q ≡ message_at (them ++ r ∷ []) s q
  has_other known s them r has apart q =
      has q ∙ sym (message_at-append them (r ∷ []) s q
      ∙ ap (λ o. option_or (message_at them s q) o) (message_at-apart r s q apart)
      ∙ or_none (message_at them s q))
