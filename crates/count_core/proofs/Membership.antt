-- The members of a list.
use Rattle.std.specs.Prelude.{ℕ, ◌≡◌, ◌<◌, ◌||◌, ◌⊎◌, Bool, true, false, cond, Contains, List, []}
use Rattle.std.specs.Prelude.{◌∷◌, ◌++◌, filter, map, flat_map, get_or, length, zero, suc, refl}
use Rattle.std.proofs.Common.{arith, ap, sym, ◌∙◌, subst, inl, inr}
use Rattle.std.proofs.lemmas.List.Concat.{flat_map-cons}
use Rattle.std.proofs.lemmas.List.Folds.{list_any_at}
use Rattle.std.proofs.lemmas.List.FromFn.{get_or-range_with_len, length-range_with_len}
use Rattle.std.specs.List.{list_any, range_with_len}

module _ {X : Type 0} where
  pub here : (x : X) (xs : List X) → Contains (x ∷ xs) x
  here x xs = (0, omega arith, refl)

  pub there : (x y : X) (xs : List X) → Contains xs y → Contains (x ∷ xs) y
  there x y xs h = (suc h.0, omega (arith, h.1), h.2)

  pub none_in : (y : X) → Contains [] y → ⊥
  none_in y h = omega (arith, h.1)

  pub first_or_rest : (x y : X) (xs : List X) → Contains (x ∷ xs) y → (x ≡ y) ⊎ Contains xs y
  first_or_rest x y xs h = by h.0 h.1 h.2
    where
      by : (k : ℕ) → k < suc (length xs) → get_or (x ∷ xs) k y ≡ y → (x ≡ y) ⊎ Contains xs y
      by zero lt at = inl at
      by (suc k) lt at = inr (k, omega (arith, lt), at)

  -- a member of one of two joined lists
  pub front_or_back : (y : X) (xs ys : List X) → Contains (xs ++ ys) y
      → Contains xs y ⊎ Contains ys y
  front_or_back y [] ys h = inr h
  front_or_back y (x ∷ xs) ys h = by (first_or_rest x y (xs ++ ys) h) (λ k. front_or_back y xs ys k)
    where
      by : (x ≡ y) ⊎ Contains (xs ++ ys) y → (Contains (xs ++ ys) y → Contains xs y ⊎ Contains ys y)
          → Contains (x ∷ xs) y ⊎ Contains ys y
      by (inl same) rec = inl (subst (Contains (x ∷ xs)) same (here x xs))
      by (inr rest) rec = more (rec rest)
        where
          more : Contains xs y ⊎ Contains ys y → Contains (x ∷ xs) y ⊎ Contains ys y
          more (inl k) = inl (there x y xs k)
          more (inr k) = inr k

  -- the members that pass a filter
  pub let_through : (p : X → Bool) (xs : List X) (y : X) → Contains (filter p xs) y
      → Contains xs y × (p y ≡ true)
  let_through p [] y h = absurd (none_in y h)
  let_through p (x ∷ xs) y h = by (p x) refl h (λ k. let_through p xs y k)
    where
      by : (b : Bool) → p x ≡ b → Contains (cond b (x ∷ filter p xs) (filter p xs)) y
          → (Contains (filter p xs) y → Contains xs y × (p y ≡ true)) → Contains (x ∷ xs) y
          × (p y ≡ true)
      by true e k rec = more (first_or_rest x y (filter p xs) k)
        where
          more : (x ≡ y) ⊎ Contains (filter p xs) y → Contains (x ∷ xs) y × (p y ≡ true)
          more (inl same) = (
            subst (Contains (x ∷ xs)) same (here x xs),
            subst (λ z. p z ≡ true) same e,
          )
          more (inr rest) = let r = rec rest in (there x y xs r.0, r.1)
      by false e k rec = let r = rec k in (there x y xs r.0, r.1)

  pub kept : (p : X → Bool) (xs : List X) (y : X) → Contains xs y → p y ≡ true
      → Contains (filter p xs) y
  kept p [] y h e = absurd (none_in y h)
  kept p (x ∷ xs) y h e = by (first_or_rest x y xs h) (p x) refl (λ k. kept p xs y k e)
    where
      by : (x ≡ y) ⊎ Contains xs y → (b : Bool) → p x ≡ b
          → (Contains xs y → Contains (filter p xs) y)
          → Contains (cond b (x ∷ filter p xs) (filter p xs)) y
      by (inl same) true is rec = subst (Contains (x ∷ filter p xs)) same (here x (filter p xs))
      by (inl same) false is rec =
          absurd (let no : true ≡ false = sym e ∙ (ap p (sym same) ∙ is) in cc)
      by (inr rest) true is rec = there x y (filter p xs) (rec rest)
      by (inr rest) false is rec = rec rest

  -- nothing passes
  pub filter_none : (p : X → Bool) (xs : List X) → ((x : X) → Contains xs x → p x ≡ false)
      → filter p xs ≡ []
  filter_none p [] none = refl
  filter_none p (x ∷ xs) none =
      ap (λ b. cond b (x ∷ filter p xs) (filter p xs)) (none x (here x xs)) ∙ filter_none p xs
      (λ y h. none y (there x y xs h))

  -- a test of some element
  pub any_of : (p : X → Bool) (xs : List X) (x : X) → Contains xs x → p x ≡ true
      → list_any p xs ≡ true
  any_of p xs x h e = list_any_at p xs h.0 x h.1 (ap p h.2 ∙ e)

  pub some_of : (p : X → Bool) (xs : List X) → list_any p xs ≡ true → (x : X) × Contains xs x
      × (p x ≡ true)
  some_of p [] e = absurd (cc)
  some_of p (x ∷ xs) e = by (p x) refl e (λ k. some_of p xs k)
    where
      by : (b : Bool) → p x ≡ b → (b || list_any p xs) ≡ true
          → (list_any p xs ≡ true → (y : X) × Contains xs y × (p y ≡ true))
          → (y : X) × Contains (x ∷ xs) y × (p y ≡ true)
      by true is k rec = (x, here x xs, is)
      by false is k rec = let r = rec k in (r.0, there x r.0 xs r.1, r.2)

module _ {X Y : Type 0} where
  pub in_map : (f : X → Y) (xs : List X) (x : X) → Contains xs x → Contains (map f xs) (f x)
  in_map f [] x h = absurd (none_in x h)
  in_map f (y ∷ xs) x h = by (first_or_rest y x xs h) (λ k. in_map f xs x k)
    where
      by : (y ≡ x) ⊎ Contains xs x → (Contains xs x → Contains (map f xs) (f x))
          → Contains (f y ∷ map f xs) (f x)
      by (inl same) rec = subst (λ z. Contains (f y ∷ map f xs) (f z)) same (here (f y) (map f xs))
      by (inr rest) rec = there (f y) (f x) (map f xs) (rec rest)

  pub from_map : (f : X → Y) (xs : List X) (y : Y) → Contains (map f xs) y
      → (x : X) × Contains xs x × (f x ≡ y)
  from_map f [] y h = absurd (none_in y h)
  from_map f (x ∷ xs) y h = by (first_or_rest (f x) y (map f xs) h) (λ k. from_map f xs y k)
    where
      by : (f x ≡ y) ⊎ Contains (map f xs) y
          → (Contains (map f xs) y → (z : X) × Contains xs z × (f z ≡ y))
          → (z : X) × Contains (x ∷ xs) z × (f z ≡ y)
      by (inl same) rec = (x, here x xs, same)
      by (inr rest) rec = let r = rec rest in (r.0, there x r.0 xs r.1, r.2)

  pub from_flat_map : (f : X → List Y) (xs : List X) (y : Y) → Contains (flat_map f xs) y
      → (x : X) × Contains xs x × Contains (f x) y
  from_flat_map f [] y h = absurd (none_in y h)
  from_flat_map f (x ∷ xs) y h =
      by (front_or_back y (f x) (flat_map f xs)
      (subst (λ zs. Contains zs y) (flat_map-cons f x xs) h)) (λ k. from_flat_map f xs y k)
    where
      by : Contains (f x) y ⊎ Contains (flat_map f xs) y
          → (Contains (flat_map f xs) y → (z : X) × Contains xs z × Contains (f z) y)
          → (z : X) × Contains (x ∷ xs) z × Contains (f z) y
      by (inl first) rec = (x, here x xs, first)
      by (inr rest) rec = let r = rec rest in (r.0, there x r.0 xs r.1, r.2)

  -- no element adds anything
  pub flat_map_none : (f : X → List Y) (xs : List X) → ((x : X) → Contains xs x → f x ≡ [])
      → flat_map f xs ≡ []
  flat_map_none f [] none = refl
  flat_map_none f (x ∷ xs) none =
      flat_map-cons f x xs ∙ (ap (λ ys. ys ++ flat_map f xs) (none x (here x xs)) ∙ flat_map_none f
      xs (λ y h. none y (there x y xs h)))

pub in_range : (n x : ℕ) → x < n → Contains (range_with_len 0 n) x
in_range n x lt = (
  x,
  omega (arith, length-range_with_len 0 n),
  omega (arith, get_or-range_with_len 0 n x x lt),
)

pub range_below : (n x : ℕ) → Contains (range_with_len 0 n) x → x < n
range_below n x h =
    let less : h.0 < n = omega (arith, length-range_with_len 0 n, h.1) in
    omega (arith, get_or-range_with_len 0 n h.0 x less, h.2, less)
