-- The members of a JSON object, one at a time.
use Rattle.std.specs.Prelude.{◌≡◌, ◌∷◌, ◌++◌, [], ◌+◌, ◌<◌, ◌≤◌, ℕ, List, length, map, min, refl}
use Rattle.std.specs.Prelude.{suc, zero}
use Rattle.std.proofs.Common.{ap, arith, get_or, sym, take, ◌∙◌}
use Rattle.std.proofs.lemmas.List.{length-map, length-take-le, map-append, take-map, take_more}
use Rattle.reports.specs.Cells.{Cell, member, members}

members-append : (names : List (List ℕ)) (values : List Cell) (name : List ℕ) (value : Cell)
    → length names ≡ length values
    → members (names ++ name ∷ []) (values ++ value ∷ []) ≡ members names values
    ++ member name value ∷ []
members-append [] [] name value same = refl
members-append [] (v ∷ values) name value same = absurd (omega (arith, same))
members-append (x ∷ names) [] name value same = absurd (omega (arith, same))
members-append (x ∷ names) (v ∷ values) name value same =
    ap (λ rest. member x v ∷ rest) (members-append names values name value (omega (arith, same)))

-- the two first parts have the same length
alike : {X Y : Type 0} (f : X → List ℕ) (g : Y → Cell) (xs : List X) (ys : List Y) (i : ℕ) → i
    < length xs → i < length ys
    → length (map f (take i xs)) ≡ length (map g (take i ys))
alike f g xs ys i h k =
    let a : length (take i xs) ≡ i = length-take-le i xs (omega (arith, h)) in
    let b : length (take i ys) ≡ i = length-take-le i ys (omega (arith, k)) in
    omega (arith, length-map (take i xs) f, length-map (take i ys) g, a, b)

-- one more member
pub members_more : {X Y : Type 0} (f : X → List ℕ) (g : Y → Cell) (xs : List X) (ys : List Y)
    (i : ℕ) (x : X) (y : Y) → i < length xs → i < length ys → y ≡ get_or ys i y
    → members (map f (take (i + 1) xs)) (map g (take (i + 1) ys))
    ≡ members (map f (take i xs)) (map g (take i ys)) ++ member (f (get_or xs i x)) (g y) ∷ []
members_more f g xs ys i x y h k at =
    let one : take (i + 1) ys ≡ take i ys ++ y ∷ [] =
    take_more ys i y k ∙ ap (λ z. take i ys ++ z ∷ []) (sym at) in
    rw (
      take_more xs i x h,
      one,
      map-append f (take i xs) (get_or xs i x ∷ []),
      map-append g (take i ys) (y ∷ []),
    )
    (members-append (map f (take i xs)) (map g (take i ys)) (f (get_or xs i x)) (g y)
    (alike f g xs ys i h k))

-- the members stay the same if names and values are cut to the shorter list
pub members_cut : (m : ℕ) (names : List (List ℕ)) (values : List Cell)
    → min (length names) (length values) ≤ m
    → members (take m names) (take m values) ≡ members names values
members_cut zero [] values h = refl
members_cut zero (n ∷ names) [] h = refl
members_cut zero (n ∷ names) (v ∷ values) h = absurd (omega (arith, h))
members_cut (suc m) [] values h = refl
members_cut (suc m) (n ∷ names) [] h = refl
members_cut (suc m) (n ∷ names) (v ∷ values) h =
    ap (λ rest. member n v ∷ rest) (members_cut m names values (omega (arith, h)))

pub all_members : {X Y : Type 0} (f : X → List ℕ) (g : Y → Cell) (m : ℕ) (xs : List X) (ys : List Y)
    → min (length xs) (length ys) ≤ m
    → members (map f (take m xs)) (map g (take m ys)) ≡ members (map f xs) (map g ys)
all_members f g m xs ys h =
    let few : min (length (map f xs)) (length (map g ys)) ≤ m =
    omega (arith, h, length-map xs f, length-map ys g) in
    rw (← take-map f m xs, ← take-map g m ys) (members_cut m (map f xs) (map g ys) few)
