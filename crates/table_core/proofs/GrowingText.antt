-- A text that grows by the text of one more element.
use Rattle.std.specs.Prelude.{ℕ, ◌≡◌, ◌+◌, ◌<◌, ◌++◌, List, [], ◌∷◌, length, take, refl}
use Rattle.std.specs.List.{AllByRecursion, flat_map}
use Rattle.std.proofs.Common.{ap, get_or, subst, sym, ◌∙◌}
use Rattle.std.proofs.lemmas.List.{flat_map_more, take_more}

taken : {X : Type 0} (xs : List X) (i : ℕ) (x : X) → i < length xs → x ≡ get_or xs i x
    → take i xs ++ x ∷ [] ≡ take (i + 1) xs
taken xs i x below is = ap (λ y. take i xs ++ y ∷ []) is ∙ sym (take_more xs i x below)

pub grown : {X : Type 0} (f : X → List ℕ) (xs : List X) (i : ℕ) (x : X) (first old new : List ℕ)
    → i < length xs → x ≡ get_or xs i x → old ≡ first ++ flat_map f (take i xs)
    → new ≡ old ++ f x → new ≡ first ++ flat_map f (take (i + 1) xs)
grown f xs i x first old new below is was by =
    by ∙ ap (λ ys. ys ++ f x) was ∙ flat_map_more f first (take i xs) x
    ∙ ap (λ ys. first ++ flat_map f ys) (taken xs i x below is)

and_last : {X : Type 0} (P : X → Type 0) (xs : List X) (x : X) → AllByRecursion P xs → P x
    → AllByRecursion P (xs ++ x ∷ [])
and_last P [] x all last = (last, tt)
and_last P (y ∷ ys) x all last = (all.0, and_last P ys x all.1 last)

pub all_more : {X : Type 0} (P : X → Type 0) (xs : List X) (i : ℕ) (x : X) → i < length xs
    → x ≡ get_or xs i x → AllByRecursion P (take i xs) → P x → AllByRecursion P (take (i + 1) xs)
all_more P xs i x below is all last =
    subst (AllByRecursion P) (taken xs i x below is) (and_last P (take i xs) x all last)
