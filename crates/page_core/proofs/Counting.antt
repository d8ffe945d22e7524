-- How many pass a test, as a loop goes through them.
use Rattle.std.proofs.Common.{◌≡◌, ◌∙◌, ℕ, ◌+◌, ◌++◌, ◌∷◌, ◌<◌, []}
use Rattle.std.proofs.Common.{Bool, List, ap, arith, cond}
use Rattle.std.proofs.Common.{false, filter, get_or, length, length-append, take, true}
use Rattle.std.specs.List.{range_with_len}
use Rattle.std.proofs.lemmas.List.Elements.{filter_more as taken_more}
use Rattle.count_core.proofs.Ranges.{filter_more}

with_one : (xs : List ℕ) (x : ℕ) (b : Bool)
    → length (xs ++ cond b (x ∷ []) []) ≡ length xs + cond b 1 0
with_one xs x true = omega (arith, length-append xs (x ∷ []))
with_one xs x false = omega (arith, length-append xs [])

-- of the numbers below n, and n
pub count_more : (p : ℕ → Bool) (n : ℕ) (b : Bool) → p n ≡ b
    → length (filter p (range_with_len 0 (n + 1)))
    ≡ length (filter p (range_with_len 0 n)) + cond b 1 0
count_more p n b e =
    ap length (filter_more p n
    ∙ ap (λ c. filter p (range_with_len 0 n) ++ cond c (n ∷ []) []) e)
    ∙ with_one (filter p (range_with_len 0 n)) n b

-- of the first elements, and the next one
pub count_taken : (p : ℕ → Bool) (xs : List ℕ) (i : ℕ) (b : Bool) → i < length xs
    → p (get_or xs i 0) ≡ b
    → length (filter p (take (i + 1) xs)) ≡ length (filter p (take i xs)) + cond b 1 0
count_taken p xs i b less e =
    ap length (taken_more p xs i 0 less
    ∙ ap (λ c. filter p (take i xs) ++ cond c (get_or xs i 0 ∷ []) []) e)
    ∙ with_one (filter p (take i xs)) (get_or xs i 0) b
