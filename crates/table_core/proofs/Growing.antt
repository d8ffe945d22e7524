-- Lists that grow by one more element of another.
use Rattle.std.proofs.Common.{◌≡◌, ℕ, ◌+◌, ◌<◌, Bool, true, false, cond, List, [], ◌∷◌, ◌++◌}
use Rattle.std.proofs.Common.{length, get_or, take, drop, Option, Some, None, refl, sym, ap, ◌∙◌}
use Rattle.std.proofs.Common.{append_assoc}
use Rattle.std.specs.Option.{option_to_list}
use Rattle.std.specs.List.{cons_option, filter_map, find}
use Rattle.std.proofs.lemmas.List.{take_more, at_drop_more}
use Rattle.std.proofs.lemmas.List.Elements.{filter_map-append}

-- an element, if there is one, as a list
pub as_list : {Y : Type 0} (o : Option Y) → cons_option o [] ≡ option_to_list o
as_list None = refl
as_list (Some y) = refl

-- one more element of a list that is filtered
pub filter_map_more : {X Y : Type 0} (h : X → Option Y) (xs : List X) (i : ℕ) (d : X)
    → i < length xs → filter_map h (take (i + 1) xs)
    ≡ filter_map h (take i xs) ++ option_to_list (h (get_or xs i d))
filter_map_more h xs i d below =
    ap (filter_map h) (take_more xs i d below)
    ∙ filter_map-append h (take i xs) (get_or xs i d ∷ [])
    ∙ ap (λ ys. filter_map h (take i xs) ++ ys) (as_list (h (get_or xs i d)))

-- a list that grows by what is new
pub grown : {Y : Type 0} (first before after old more new : List Y) → before ≡ first ++ old
    → after ≡ before ++ new → more ≡ old ++ new → after ≡ first ++ more
grown first before after old more new was by is =
    by ∙ ap (λ ys. ys ++ new) was ∙ append_assoc first old new ∙ sym (ap (λ ys. first ++ ys) is)

-- the search goes on behind an element that fails
pub find_behind : {X : Type 0} (p : X → Bool) (xs : List X) (i : ℕ) (d : X) → i < length xs
    → p (get_or xs i d) ≡ false → find p (drop i xs) ≡ find p (drop (i + 1) xs)
find_behind p xs i d below fails =
    at_drop_more (find p) xs i d below
    ∙ ap (λ b. cond b (Some (get_or xs i d)) (find p (drop (i + 1) xs))) fails

pub find_here : {X : Type 0} (p : X → Bool) (xs : List X) (i : ℕ) (d : X) → i < length xs
    → p (get_or xs i d) ≡ true → find p (drop i xs) ≡ Some (get_or xs i d)
find_here p xs i d below passes =
    at_drop_more (find p) xs i d below
    ∙ ap (λ b. cond b (Some (get_or xs i d)) (find p (drop (i + 1) xs))) passes

-- the new items go after the items that are there
pub moved : {Y : Type 0} (before after step rest more whole : List Y) → before ++ rest ≡ whole
    → rest ≡ step ++ more → after ≡ before ++ step → after ++ more ≡ whole
moved before after step rest more whole all now by =
    ap (λ ys. ys ++ more) by ∙ append_assoc before step more
    ∙ sym (ap (λ ys. before ++ ys) now) ∙ all
