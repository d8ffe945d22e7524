-- Texts, and lists of rows, one after another.
use Rattle.std.proofs.Common.{◌≡◌, ◌∙◌, ◌∷◌, ◌+◌, ◌++◌, [], ℕ, List, Some, ap, map, refl, sym}
use Rattle.std.proofs.Common.{take}
use Rattle.std.specs.List.{flat_map, join_by, slice_get}
use Rattle.std.specs.Option.{option_to_list}
use Rattle.std.proofs.lemmas.List.{append_assoc, append-nil}
use Rattle.reports.proofs.Joins.{joined_alike}
use Rattle.reports.proofs.WrittenText.{lines_more}

-- the rows of one more element, after those that were there
pub one_more : {X Y : Type 0} (f : X → List Y) (xs : List X) (i : ℕ) (old before after : List Y)
    (x : X) → slice_get xs i ≡ Some x → before ≡ old ++ flat_map f (take i xs)
    → after ≡ before ++ f x → after ≡ old ++ flat_map f (take (i + 1) xs)
one_more f xs i old before after x here is more =
    more
    ∙ (ap (λ t. t ++ f x) is
    ∙ (append_assoc old (flat_map f (take i xs)) (f x)
    ∙ ap (λ t. old ++ t)
    (ap (λ t. flat_map f (take i xs) ++ t) (sym (append-nil (f x)))
    ∙ (ap (λ o. flat_map f (take i xs) ++ flat_map f (option_to_list o)) (sym here)
    ∙ sym (lines_more f xs i)))))

-- three texts, each added at the end
pub three_added : (old a b c one two three : List ℕ) → one ≡ old ++ a → two ≡ one ++ b
    → three ≡ two ++ c → three ≡ old ++ (a ++ (b ++ c))
three_added old a b c one two three first second third =
    third
    ∙ (ap (λ t. t ++ c) (second ∙ ap (λ t. t ++ b) first)
    ∙ (append_assoc (old ++ a) b c ∙ append_assoc old a (b ++ c)))

same : {X : Type 0} (xs : List X) → xs ≡ map (λ x. x) xs
same [] = refl
same (x ∷ xs) = ap (λ l. x ∷ l) (same xs)

-- texts with a separator, of whatever they are the texts
pub joined_texts : {X : Type 0} (f : X → List ℕ) (sep : List ℕ) (xs : List X)
    → join_by f sep xs ≡ join_by (λ t. t) sep (map f xs)
joined_texts f sep xs = joined_alike f (λ t. t) sep xs (map f xs) (same (map f xs))

-- two lists of the same elements
pub cons : {X : Type 0} {x y : X} {xs ys : List X} → x ≡ y → xs ≡ ys → x ∷ xs ≡ y ∷ ys
cons {x = x} {ys = ys} first rest = ap (λ l. x ∷ l) rest ∙ ap (λ z. z ∷ ys) first
