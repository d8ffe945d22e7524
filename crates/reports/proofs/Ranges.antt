-- Lists that a loop goes through, one element at a time.
use Rattle.std.proofs.Common.{◌≡◌, ◌∙◌, ℕ, ◌+◌, ◌++◌, ◌∷◌, ◌≤◌}
use Rattle.std.proofs.Common.{◌<◌, [], All, Bool, List, ap, sym}
use Rattle.std.proofs.Common.{arith, filter, suc, zero}
use Rattle.std.specs.List.{flat_map, range_with_len}
use Rattle.std.proofs.lemmas.Grind.{flat_map-append}
use Rattle.std.proofs.lemmas.List.{append-nil}
use Rattle.std.proofs.lemmas.List.Elements.{All-filter}
use Rattle.std.proofs.lemmas.List.FromFn.{get_or-range_with_len, length-range_with_len}
use Rattle.count_core.proofs.Ranges.{filter_more}
use Rattle.std.specs.Prelude.{true, refl}

-- every number passes the test that always passes
all_pass : (xs : List ℕ) → filter (λ x. true) xs ≡ xs
all_pass [] = refl
all_pass (x ∷ xs) = ap (λ ys. x ∷ ys) (all_pass xs)

-- one more number
pub range_more : (n : ℕ) → range_with_len 0 (n + 1) ≡ range_with_len 0 n ++ n ∷ []
range_more n = sym (all_pass (range_with_len 0 (n + 1)))
    ∙ (filter_more (λ x. true) n ∙ ap (λ xs. xs ++ n ∷ []) (all_pass (range_with_len 0 n)))

-- what is made of one more number
pub flat_more : {X : Type 0} (f : ℕ → List X) (n : ℕ)
    → flat_map f (range_with_len 0 (n + 1)) ≡ flat_map f (range_with_len 0 n) ++ f n
flat_more f n = ap (flat_map f) (range_more n)
    ∙ (flat_map-append f (range_with_len 0 n) (n ∷ [])
    ∙ ap (λ t. flat_map f (range_with_len 0 n) ++ t) (append-nil (f n)))

-- the first m of k numbers from a on, and the n after them
pub range_parts : (a k m n : ℕ) → k ≡ m + n
    → range_with_len a k ≡ range_with_len a m ++ range_with_len (a + m) n
range_parts a k zero n is = ap (λ b. range_with_len b k) (let e : a ≡ a + 0 = omega arith in e)
    ∙ ap (range_with_len (a + 0)) (let e : k ≡ n = omega (arith, is) in e)
range_parts a zero (suc m) n is = absurd (omega (arith, is))
range_parts a (suc k) (suc m) n is = ap (λ xs. a ∷ xs)
    (range_parts (a + 1) k m n (omega (arith, is))
    ∙ ap (λ b. range_with_len (a + 1) m ++ range_with_len b n)
    (let e : a + 1 + m ≡ a + suc m = omega arith in e))

-- the numbers below n that pass are below any number from n on
pub filter_within : (p : ℕ → Bool) (n m : ℕ) → n ≤ m
    → All (λ x. x < m) (filter p (range_with_len 0 n))
filter_within p n m le = All-filter p (λ x. x < m) (range_with_len 0 n)
    (λ k d lt. let less : k < n = omega (arith, length-range_with_len 0 n, lt) in omega
    (arith, get_or-range_with_len 0 n k d less, less))
