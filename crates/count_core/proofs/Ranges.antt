-- Lists that a loop goes through, one element at a time.
use Rattle.std.specs.Prelude.{ℕ, ◌≡◌, ◌+◌, ◌<◌, ◌&&◌, Bool, true, false, cond, All, List, [], ◌∷◌}
use Rattle.std.specs.Prelude.{◌++◌, filter, length, take, flat_map, Some, slice_get, zero, suc}
use Rattle.std.specs.Prelude.{refl}
use Rattle.std.proofs.Common.{arith, get_or, ap, sym, ◌∙◌}
use Rattle.std.proofs.lemmas.List.{append-nil, map-id, take_more}
use Rattle.std.proofs.lemmas.List.Elements.{filter-append, All-filter}
use Rattle.std.proofs.lemmas.List.FromFn.{filter_of_map_range_with_len_more, get_or-range_with_len}
use Rattle.std.proofs.lemmas.List.FromFn.{length-range_with_len}
use Rattle.std.proofs.lemmas.Grind.{flat_map-append}
use Rattle.std.proofs.lemmas.Option.{get_or_from_slice_get}
use Rattle.std.specs.List.{range_with_len}

-- the numbers that pass a test, with one more number tested
pub filter_more : (p : ℕ → Bool) (n : ℕ)
    → filter p (range_with_len 0 (n + 1)) ≡ filter p (range_with_len 0 n) ++ cond (p n) (n ∷ []) []
filter_more p n =
    ap (filter p) (sym (map-id (range_with_len 0 (n + 1))))
    ∙ (filter_of_map_range_with_len_more p (λ x. x) 0 n n (omega arith)
    ∙ ap (λ xs. filter p xs ++ cond (p n) (n ∷ []) []) (map-id (range_with_len 0 n)))

-- it passes
pub filter_with : (p : ℕ → Bool) (n : ℕ) → p n ≡ true
    → filter p (range_with_len 0 (n + 1)) ≡ filter p (range_with_len 0 n) ++ n ∷ []
filter_with p n e = filter_more p n
    ∙ ap (λ b. filter p (range_with_len 0 n) ++ cond b (n ∷ []) []) e

-- it does not
pub filter_without : (p : ℕ → Bool) (n : ℕ) → p n ≡ false
    → filter p (range_with_len 0 (n + 1)) ≡ filter p (range_with_len 0 n)
filter_without p n e = filter_more p n
    ∙ (ap (λ b. filter p (range_with_len 0 n) ++ cond b (n ∷ []) []) e
    ∙ append-nil (filter p (range_with_len 0 n)))

-- two tests that agree on the numbers below n
pub filter_alike : (p q : ℕ → Bool) (n : ℕ) → ((x : ℕ) → x < n → p x ≡ q x)
    → filter p (range_with_len 0 n) ≡ filter q (range_with_len 0 n)
filter_alike p q zero alike = refl
filter_alike p q (suc n) alike =
    let next : suc n ≡ n + 1 = omega arith in
    let before = filter_alike p q n (λ x lt. alike x (omega (arith, lt))) in
    ap (λ k. filter p (range_with_len 0 k)) next
    ∙ (filter_more p n
    ∙ (ap (λ xs. xs ++ cond (p n) (n ∷ []) []) before
    ∙ (ap (λ b. filter q (range_with_len 0 n) ++ cond b (n ∷ []) []) (alike n (omega arith))
    ∙ (sym (filter_more q n) ∙ ap (λ k. filter q (range_with_len 0 k)) (sym next)))))

-- every number that passes is below n
pub filter_below : (p : ℕ → Bool) (n : ℕ) → All (λ x. x < n) (filter p (range_with_len 0 n))
filter_below p n = All-filter p (λ x. x < n) (range_with_len 0 n)
    (λ k d lt. let less : k < n = omega (arith, length-range_with_len 0 n, lt) in omega
    (arith, get_or-range_with_len 0 n k d less, less))

-- one test after another
filter_step : (x : ℕ) (q : ℕ → Bool) (a b : Bool) (ys zs : List ℕ) → q x ≡ b → filter q ys ≡ zs
    → filter q (cond a (x ∷ ys) ys) ≡ cond (a && b) (x ∷ zs) zs
filter_step x q true true ys zs e h =
    ap (λ t. cond t (x ∷ filter q ys) (filter q ys)) e ∙ ap (λ rest. x ∷ rest) h
filter_step x q true false ys zs e h = ap (λ t. cond t (x ∷ filter q ys) (filter q ys)) e ∙ h
filter_step x q false b ys zs e h = h

pub filter_both : (p q : ℕ → Bool) (xs : List ℕ)
    → filter q (filter p xs) ≡ filter (λ x. p x && q x) xs
filter_both p q [] = refl
filter_both p q (x ∷ xs) = filter_step x q (p x) (q x) (filter p xs) (filter (λ y. p y && q y) xs)
    refl (filter_both p q xs)

module _ {X : Type 0} where
  -- the first elements, with one more
  pub take_with : (xs : List X) (i : ℕ) (x : X) → i < length xs → slice_get xs i ≡ Some x
      → take (i + 1) xs ≡ take i xs ++ x ∷ []
  take_with xs i x lt at = take_more xs i x lt ∙ ap (λ y. take i xs ++ y ∷ [])
      (get_or_from_slice_get xs i x x at)

  pub filter_take_with : (p : X → Bool) (xs : List X) (i : ℕ) (x : X) → i < length xs
      → slice_get xs i ≡ Some x → p x ≡ true
      → filter p (take (i + 1) xs) ≡ filter p (take i xs) ++ x ∷ []
  filter_take_with p xs i x lt at e =
      ap (filter p) (take_with xs i x lt at)
      ∙ (filter-append p (take i xs) (x ∷ [])
      ∙ ap (λ b. filter p (take i xs) ++ cond b (x ∷ []) []) e)

  pub filter_take_without : (p : X → Bool) (xs : List X) (i : ℕ) (x : X) → i < length xs
      → slice_get xs i ≡ Some x → p x ≡ false
      → filter p (take (i + 1) xs) ≡ filter p (take i xs)
  filter_take_without p xs i x lt at e =
      ap (filter p) (take_with xs i x lt at)
      ∙ (filter-append p (take i xs) (x ∷ [])
      ∙ (ap (λ b. filter p (take i xs) ++ cond b (x ∷ []) []) e
      ∙ append-nil (filter p (take i xs))))

  pub flat_map_more : {Y : Type 0} (f : X → List Y) (xs : List X) (i : ℕ) (x : X) → i < length xs
      → x ≡ get_or xs i x
      → flat_map f (take (i + 1) xs) ≡ flat_map f (take i xs) ++ f x
  flat_map_more f xs i x lt here =
      ap (flat_map f) (take_more xs i x lt ∙ ap (λ y. take i xs ++ y ∷ []) (sym here))
      ∙ (flat_map-append f (take i xs) (x ∷ []) ∙ ap (λ ys. flat_map f (take i xs) ++ ys)
      (append-nil (f x)))
