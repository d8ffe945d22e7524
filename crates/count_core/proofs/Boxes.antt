-- The numbers that pass a test, counted with one more number.
use Rattle.std.specs.Prelude.{ℕ, ◌≡◌, ◌+◌, Bool, true, false, cond, List, [], ◌∷◌, ◌++◌, filter}
use Rattle.std.specs.Prelude.{length}
use Rattle.std.specs.List.{range_with_len}
use Rattle.std.proofs.Common.{arith, ap, sym, ◌∙◌}
use Rattle.std.proofs.lemmas.List.{append-nil, length_push, map-id}
use Rattle.std.proofs.lemmas.List.FromFn.{filter_of_map_range_with_len_more}

filter_more : (p : ℕ → Bool) (n : ℕ)
    → filter p (range_with_len 0 (n + 1)) ≡ filter p (range_with_len 0 n) ++ cond (p n) (n ∷ []) []
filter_more p n =
    ap (filter p) (sym (map-id (range_with_len 0 (n + 1))))
    ∙ (filter_of_map_range_with_len_more p (λ x. x) 0 n n (omega arith)
    ∙ ap (λ xs. filter p xs ++ cond (p n) (n ∷ []) []) (map-id (range_with_len 0 n)))

-- it passes
pub count_with : (p : ℕ → Bool) (n : ℕ) → p n ≡ true
    → length (filter p (range_with_len 0 (n + 1))) ≡ length (filter p (range_with_len 0 n)) + 1
count_with p n e =
    ap length (filter_more p n ∙ ap (λ b. filter p (range_with_len 0 n) ++ cond b (n ∷ []) []) e)
    ∙ length_push (filter p (range_with_len 0 n)) n

-- it does not
pub count_without : (p : ℕ → Bool) (n : ℕ) → p n ≡ false
    → length (filter p (range_with_len 0 (n + 1))) ≡ length (filter p (range_with_len 0 n))
count_without p n e =
    ap length (filter_more p n ∙ (ap (λ b. filter p (range_with_len 0 n) ++ cond b (n ∷ []) []) e
    ∙ append-nil (filter p (range_with_len 0 n))))
