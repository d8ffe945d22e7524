-- The setup still lists everything that it listed when an earlier entry was posted.
use Rattle.std.specs.Prelude.{ℕ, ◌≡◌, true, false, not, List, [], ◌∷◌, Option}
use Rattle.std.specs.Prelude.{None, Some, is_some, refl}
use Rattle.std.specs.List.{list_any}
use Rattle.std.proofs.lemmas.Bool.{not-false, or_parts}
use Rattle.nest_core.specs.Museum.{Museum, find_thing, find_place, among_first}
use Rattle.posting_core.specs.declared.entry.Entry.{Entry}
use Rattle.posting_core.specs.Verdicts.{is_known, is_known_place, is_known_at, is_known_place_at}

-- a number below the count was found
pub found_among : (count : ℕ) (found : Option ℕ) → is_some (among_first count found) ≡ true
    → is_some found ≡ true
found_among count None h = h
found_among count (Some i) h = refl

pub known_in : (S : Museum) (P : List Entry) (x : List ℕ) → not (is_known_at S P x) ≡ false
    → is_known S x ≡ true
known_in S P x h = found_among _ (find_thing S x) (not-false (is_known_at S P x) h)

pub place_known_in : (S : Museum) (P : List Entry) (p : List ℕ)
    → not (is_known_place_at S P p) ≡ false → is_known_place S p ≡ true
place_known_in S P p h = found_among _ (find_place S p) (not-false (is_known_place_at S P p) h)

-- the same of all these things
pub all_known_in : (S : Museum) (P : List Entry) (xs : List (List ℕ))
    → list_any (λ x. not (is_known_at S P x)) xs ≡ false
    → list_any (λ x. not (is_known S x)) xs ≡ false
all_known_in S P [] h = refl
all_known_in S P (x ∷ xs) h =
    let both = or_parts (not (is_known_at S P x)) (list_any (λ y. not (is_known_at S P y)) xs) h in
    rw (known_in S P x both.0) (all_known_in S P xs both.1)
