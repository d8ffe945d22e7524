-- Which places lie in which, by the segments of their codes.
use Rattle.std.specs.Prelude.{ℕ, ◌≡◌, ◌&&◌, ◌⊎◌, Bool, true, false, List, [], ◌∷◌, ◌++◌, refl}
use Rattle.std.proofs.Common.{ap, sym, ◌∙◌, subst, inl, inr, append_assoc}
use Rattle.std.proofs.lemmas.Bool.{and_parts}
use Rattle.std.proofs.lemmas.Slice.Eq.{bytes_eq-Decides}
use Rattle.std.specs.List.{starts_with}
use Rattle.std.specs.Str.{bytes_eq}
use Rattle.codes_core.specs.Place.{segments, lies_in}

abbrev Segments : Type 0
Segments = List (List ℕ)

same_bytes : (xs : List ℕ) → bytes_eq xs xs ≡ true
same_bytes xs = (bytes_eq-Decides xs xs).1 refl

-- one text begins with the other
front : (xs ys : Segments) → starts_with bytes_eq xs ys ≡ true → (rest : Segments)
    × (xs ≡ ys ++ rest)
front xs [] e = (xs, refl)
front [] (y ∷ ys) e = absurd (cc)
front (x ∷ xs) (y ∷ ys) e =
    let parts = and_parts (bytes_eq y x) (starts_with bytes_eq xs ys) e in
    let rest = front xs ys parts.1 in
    (rest.0, ap (λ z. z ∷ xs) (sym ((bytes_eq-Decides y x).0 parts.0)) ∙ ap (λ zs. y ∷ zs) rest.1)

begins : (ys rest : Segments) → starts_with bytes_eq (ys ++ rest) ys ≡ true
begins [] rest = refl
begins (y ∷ ys) rest = ap (λ b. b && starts_with bytes_eq (ys ++ rest) ys) (same_bytes y)
    ∙ begins ys rest

-- two first parts of one list
either_front : (xs ys r s : Segments) → xs ++ r ≡ ys ++ s → (starts_with bytes_eq xs ys ≡ true)
    ⊎ (starts_with bytes_eq ys xs ≡ true)
either_front xs [] r s e = inl refl
either_front [] (y ∷ ys) r s e = inr refl
either_front (x ∷ xs) (y ∷ ys) r s e =
    by (either_front xs ys r s (let tails : xs ++ r ≡ ys ++ s = cc in tails))
  where
    same : x ≡ y
    same = cc

    by : (starts_with bytes_eq xs ys ≡ true) ⊎ (starts_with bytes_eq ys xs ≡ true)
        → (starts_with bytes_eq (x ∷ xs) (y ∷ ys) ≡ true)
        ⊎ (starts_with bytes_eq (y ∷ ys) (x ∷ xs) ≡ true)
    by (inl h) =
        inl (ap (λ b. b && starts_with bytes_eq xs ys)
        (subst (λ z. bytes_eq y z ≡ true) (sym same) (same_bytes y)) ∙ h)
    by (inr h) =
        inr (ap (λ b. b && starts_with bytes_eq ys xs)
        (subst (λ z. bytes_eq z y ≡ true) (sym same) (same_bytes y)) ∙ h)

pub lies_in_itself : (code : List ℕ) → lies_in code code ≡ true
lies_in_itself code = all (segments code)
  where
    all : (ys : Segments) → starts_with bytes_eq ys ys ≡ true
    all [] = refl
    all (y ∷ ys) = ap (λ b. b && starts_with bytes_eq ys ys) (same_bytes y) ∙ all ys

pub lies_through : (a b c : List ℕ) → lies_in a b ≡ true → lies_in b c ≡ true → lies_in a c ≡ true
lies_through a b c inner outer =
    let first = front (segments a) (segments b) inner in
    let second = front (segments b) (segments c) outer in
    let whole : segments a ≡ segments c ++ (second.0 ++ first.0) =
    first.1 ∙ (ap (λ ys. ys ++ first.0) second.1 ∙ append_assoc (segments c)
    second.0 first.0) in
    ap (λ ys. starts_with bytes_eq ys (segments c)) whole ∙ begins (segments c)
    (second.0 ++ first.0)

pub one_in_other : (a b c : List ℕ) → lies_in a b ≡ true → lies_in a c ≡ true → (lies_in b c ≡ true)
    ⊎ (lies_in c b ≡ true)
one_in_other a b c first second =
    let f = front (segments a) (segments b) first in
    let g = front (segments a) (segments c) second in
    either_front (segments b) (segments c) f.0 g.0 (sym f.1 ∙ g.1)
