-- The fields of a heading.
use Rattle.std.specs.Prelude.{◌≡◌, ℕ, ◌+◌, ◌||◌, Bool, cond, not, List, [], ◌∷◌, map}
use Rattle.std.specs.Prelude.{drop, Some, None, refl, if◌then◌else◌}
use Rattle.std.specs.List.{list_any, position, prefix_len}
use Rattle.std.specs.Option.{option_and_then}
use Rattle.nest_core.specs.SetupRows.{Fields}
use Rattle.table_core.specs.LabelRows.{column, is_word}
use Rattle.std.proofs.Common.{ap, ◌∙◌}
use Rattle.std.proofs.lemmas.List.{length-map}

prefix_len-map : {X Y : Type 0} (p : Y → Bool) (f : X → Y) (xs : List X)
    → prefix_len p (map f xs) ≡ prefix_len (λ x. p (f x)) xs
prefix_len-map p f [] = refl
prefix_len-map p f (x ∷ xs) = ap (λ n. cond (p (f x)) (1 + n) 0) (prefix_len-map p f xs)

-- a search among the fields is one among their texts
pub position-map : {X Y : Type 0} (p : Y → Bool) (f : X → Y) (xs : List X)
    → position (λ x. p (f x)) xs ≡ position p (map f xs)
position-map p f xs = rw (prefix_len-map (λ y. not (p y)) f xs, length-map xs f) refl

pub list_any-map : {X Y : Type 0} (p : Y → Bool) (f : X → Y) (xs : List X)
    → list_any (λ x. p (f x)) xs ≡ list_any p (map f xs)
list_any-map p f [] = refl
list_any-map p f (x ∷ xs) = ap (λ b. p (f x) || b) (list_any-map p f xs)

-- the column of a word, by its first field and the test of those behind it
pub only : (word : List ℕ) (heading : Fields) (i : ℕ) (more : Bool)
    → Some i ≡ position (is_word word) heading
    → more ≡ list_any (is_word word) (drop (i + 1) heading)
    → (if more then None else Some i) ≡ column word heading
only word heading i more found behind =
    ap (λ b. if b then None else Some i) behind
    ∙ ap (option_and_then (λ j. if list_any (is_word word) (drop (j + 1) heading) then None
    else Some j)) found
