-- Lists that a loop has gone through so far.
use Rattle.std.proofs.Common.{◌≡◌, ℕ, zero, suc, ◌+◌, ◌<◌, List, [], ◌∷◌, ◌++◌, length, map, take}
use Rattle.std.proofs.Common.{drop, drop-cons, get_or, slice_get, Some, sym, ap, ◌∙◌, arith}
use Rattle.std.specs.List.{flat_map, range_with_len}
use Rattle.std.proofs.Math.Seq.{take-suc}
use Rattle.std.proofs.lemmas.List.{append-nil, append_assoc, take-append-drop}
use native.Mathlib.Numerals.{add-one}

module _ {X Y : Type 0} (f : X → Y) where
  mapped_at : (xs : List X) (i : ℕ) (x : X) (d : Y) → i < length xs → x ≡ get_or xs i x
      → get_or (map f xs) i d ≡ f x
  mapped_at [] i x d less is = absurd (omega arith)
  mapped_at (y ∷ ys) zero x d less is = ap f (sym is)
  mapped_at (y ∷ ys) (suc i) x d less is = mapped_at ys i x d (omega arith) is

  taken : (xs : List X) (i : ℕ) (x : X) → i < length xs → x ≡ get_or xs i x
      → take (suc i) (map f xs) ≡ take i (map f xs) ++ f x ∷ []
  taken [] i x less is = absurd (omega arith)
  taken (y ∷ ys) zero x less is = ap (λ z. f z ∷ []) (sym is)
  taken (y ∷ ys) (suc i) x less is = ap (λ l. f y ∷ l) (taken ys i x (omega arith) is)

  -- the lists are the same, one element further
  pub same_further : (xs ys : List X) (i : ℕ) (x y : X) → i < length xs → i < length ys
      → x ≡ get_or xs i x → y ≡ get_or ys i y → f x ≡ f y
      → take i (map f xs) ≡ take i (map f ys) → take (i + 1) (map f xs) ≡ take (i + 1) (map f ys)
  same_further xs ys i x y lx ly is is' same before =
      rw add-one (taken xs i x lx is ∙ ap (λ l. l ++ f x ∷ []) before
      ∙ ap (λ z. take i (map f ys) ++ z ∷ []) same ∙ sym (taken ys i y ly is'))

  -- and if they are the same, each element is
  pub same_there : (xs ys : List X) (i : ℕ) (x y : X) → i < length xs → i < length ys
      → x ≡ get_or xs i x → y ≡ get_or ys i y → map f xs ≡ map f ys → f x ≡ f y
  same_there xs ys i x y lx ly is is' same =
      sym (mapped_at xs i x (f x) lx is) ∙ ap (λ l. get_or l i (f x)) same ∙ mapped_at ys i y
      (f x) ly is'

module _ {X : Type 0} where
  got : (xs : List X) (i : ℕ) (x : X) → slice_get xs i ≡ Some x
      → take (suc i) xs ≡ take i xs ++ x ∷ []
  got [] i x h = absurd (cc)
  got (y ∷ ys) zero x h = ap (λ z. z ∷ []) (cc)
  got (y ∷ ys) (suc i) x h = ap (λ l. y ∷ l) (got ys i x h)

  -- the i-th element comes after the first i
  pub got_further : (xs : List X) (i : ℕ) (x : X) → slice_get xs i ≡ Some x
      → take (i + 1) xs ≡ take i xs ++ x ∷ []
  got_further xs i x h = rw add-one (got xs i x h)

  pub split_at : (xs : List X) (i : ℕ) (x : X) → i < length xs → x ≡ get_or xs i x
      → xs ≡ take i xs ++ x ∷ drop (i + 1) xs
  split_at xs i x less is = sym (take-append-drop i xs) ∙ ap (λ l. take i xs ++ l)
      ((rw add-one (drop-cons xs i x less)) ∙ ap (λ z. z ∷ drop (i + 1) xs) (sym is))

  pub flat_further : (f : ℕ → List X) (a n : ℕ)
      → flat_map f (range_with_len a (suc n)) ≡ flat_map f (range_with_len a n) ++ f (a + n)
  flat_further f a zero = append-nil (f a) ∙ ap f (omega arith)
  flat_further f a (suc n) =
      ap (λ l. f a ++ l) (flat_further f (a + 1) n)
      ∙ sym (append_assoc (f a) (flat_map f (range_with_len (a + 1) n)) (f (a + 1 + n)))
      ∙ ap (λ k. (f a ++ flat_map f (range_with_len (a + 1) n)) ++ f k) (omega arith)

  pub flat_next : (f : ℕ → List X) (n : ℕ)
      → flat_map f (range_with_len 0 (n + 1)) ≡ flat_map f (range_with_len 0 n) ++ f n
  flat_next f n =
      rw add-one (flat_further f 0 n ∙ ap (λ k. flat_map f (range_with_len 0 n) ++ f k)
      (omega arith))

  pub taken_next : (xs : List X) (i : ℕ) (x : X) → i < length xs → x ≡ get_or xs i x
      → take (i + 1) xs ≡ take i xs ++ x ∷ []
  taken_next xs i x less is = rw add-one (take-suc xs i x less)
      ∙ ap (λ z. take i xs ++ z ∷ []) (sym is)
