-- The rows of the spots that entries wrote are those of looking back.
use Rattle.std.proofs.Common.{◌≡◌, ℕ, ◌+◌, Bool, true, false, if◌then◌else◌, List, [], ◌∷◌, ◌++◌}
use Rattle.std.proofs.Common.{length, map, reverse, Option, Some, None, refl, sym, subst, ap, ◌∙◌}
use Rattle.std.proofs.Common.{arith}
use Rattle.std.specs.List.{flat_map, filter_map, range_with_len, cons_option}
use Rattle.std.specs.Option.{option_map, option_to_list}
use Rattle.std.specs.List.Sorted.{IsPermutation}
use Rattle.std.proofs.Math.Path.{fun_ext}
use Rattle.std.proofs.lemmas.List.{append_assoc, map-append}
use Rattle.std.proofs.lemmas.List.Sorted.{IsPermutation-refl, IsPermutation-trans}
use Rattle.std.proofs.lemmas.List.Sorted.{IsPermutation-append, IsPermutation-append_comm}
use Rattle.std.proofs.lemmas.List.Sorted.{IsPermutation-append_left, IsPermutation-append_right}
use Rattle.std.proofs.lemmas.List.Sorted.{IsPermutation-reverse}
use Rattle.nest_core.specs.Museum.{Museum}
use Rattle.nest_core.specs.Puts.{place, with_put}
use Rattle.posting_core.specs.declared.message.Message.{Message}
use Rattle.posting_core.specs.declared.entry.Entry.{Entry}
use Rattle.posting_core.specs.declared.entry.Spot.{Spot}
use Rattle.posting_core.specs.declared.entry.NewSpot.{NewSpot}
use Rattle.posting_core.specs.Messages.{day_of}
use Rattle.posting_core.specs.History.{puts, put_in, place_at, spots, spot_from}
use Rattle.posting_core.specs.VerdictNames.{is_applied}
use Rattle.posting_core.specs.Book.{place_after, new_spot, new_spots}
use Rattle.posting_core.proofs.Written.{same_place}
use Rattle.register_store.specs.StoredRows.{SpotRow, spot_row, spots_of_thing, spots_by_thing}
use Rattle.register_store.specs.StoredRows.{all_written, rows_of_spots, written}

module _ {X : Type 0} where
  -- two parts of each element's list
  middle : (b a fb fa : List X) → IsPermutation ((b ++ a) ++ (fb ++ fa)) ((b ++ fb) ++ (a ++ fa))
  middle b a fb fa =
      subst (λ l. IsPermutation l ((b ++ fb) ++ (a ++ fa))) (sym (append_assoc b a (fb ++ fa)))
      (subst (IsPermutation (b ++ (a ++ (fb ++ fa)))) (sym (append_assoc b fb (a ++ fa)))
      (IsPermutation-append_right b _ _
      (subst (λ l. IsPermutation l (fb ++ (a ++ fa))) (append_assoc a fb fa)
      (subst (IsPermutation ((a ++ fb) ++ fa)) (append_assoc fb a fa)
      (IsPermutation-append_left fa _ _ (IsPermutation-append_comm a fb))))))

  parted : (A B : ℕ → List X) (xs : List ℕ)
      → IsPermutation (flat_map (λ x. A x ++ B x) xs) (flat_map B xs ++ flat_map A xs)
  parted A B [] = IsPermutation-refl []
  parted A B (x ∷ xs) =
      IsPermutation-trans _ _ _ (IsPermutation-append (A x ++ B x) (B x ++ A x) _ _
      (IsPermutation-append_comm (A x) (B x)) (parted A B xs))
      (middle (B x) (A x) (flat_map B xs) (flat_map A xs))

  filtered : (f : ℕ → Option X) (xs : List ℕ)
      → filter_map f xs ≡ flat_map (λ x. option_to_list (f x)) xs
  filtered f [] = refl
  filtered f (x ∷ xs) = step (f x) (filter_map f xs) ∙ ap (λ l. option_to_list (f x) ++ l)
      (filtered f xs)
    where
      step : (o : Option X) (l : List X) → cons_option o l ≡ option_to_list o ++ l
      step None l = refl
      step (Some y) l = refl

  nothing : (xs : List ℕ) → flat_map (λ x. let none : List X = [] in none) xs ≡ []
  nothing [] = refl
  nothing (x ∷ xs) = nothing xs

rows_append : (x k : ℕ) (a b : List Spot)
    → spots_of_thing x k (a ++ b) ≡ spots_of_thing x k a ++ spots_of_thing x (k + length a) b
rows_append x k [] b = ap (λ j. spots_of_thing x j b) (omega arith)
rows_append x k (s ∷ a) b =
    ap (λ l. record { thing = x; k = k; spot = s } ∷ l)
    (rows_append x (k + 1) a b ∙ ap (λ j. spots_of_thing x (k + 1) a ++ spots_of_thing x j b)
    (omega arith))

one_row : (x count : ℕ) (o : Option Spot)
    → spots_of_thing x (1 + count) (option_to_list o) ≡ option_to_list
    (option_map (λ spot. let s : NewSpot = record { thing = x; k = count + 1; spot = spot } in s) o)
one_row x count None = refl
one_row x count (Some spot) =
    ap (λ j. let s : NewSpot = record { thing = x; k = j; spot = spot } in s ∷ []) (omega arith)

abbrev before : Museum → List Entry → ℕ → List NewSpot
before S P x = spots_of_thing x 1 (spots S P x)

-- the row that an entry adds to those of a thing
abbrev added : Museum → List Entry → Bool → Message → ℕ → List NewSpot
added S P applied m x =
    spots_of_thing x (1 + length (spots S P x))
    (option_to_list (spot_from (length P + 1) (place_at S P x)
    (place (length S.things) (with_put (if applied then put_in S P m else None) (puts S P)) x)
    (day_of m)))

all_added : (S : Museum) (P : List Entry) (applied : Bool) (m : Message)
    → flat_map (added S P applied m) (range_with_len 0 (length S.things))
    ≡ (if applied then new_spots S P m else [])
all_added S P true m =
    ap (λ (f : ℕ → List NewSpot). flat_map f (range_with_len 0 (length S.things)))
    (fun_ext (λ x. one_row x (length (spots S P x))
    (spot_from (length P + 1) (place_at S P x) (place_after S P m x) (day_of m))))
    ∙ sym (filtered (λ x. new_spot (length P + 1) (length (spots S P x)) (place_at S P x)
    (place_after S P m x) (day_of m) x) (range_with_len 0 (length S.things)))
all_added S P false m =
    ap (λ (f : ℕ → List NewSpot). flat_map f (range_with_len 0 (length S.things)))
    (fun_ext
    (λ x. ap (λ (o : Option Spot). spots_of_thing x (1 + length (spots S P x))
    (option_to_list o)) (same_place (length P + 1) (place_at S P x) (day_of m))))
    ∙ nothing (range_with_len 0 (length S.things))

pub looking_back : (S : Museum) (P : List Entry)
    → IsPermutation (spots_by_thing S P) (all_written S P)
looking_back S [] = subst (λ l. IsPermutation l [])
    (sym (nothing (range_with_len 0 (length S.things)))) (IsPermutation-refl [])
looking_back S (e ∷ P) =
    let things = range_with_len 0 (length S.things) in
    let applied = is_applied e.verdict in
    let each : spots_by_thing S (e ∷ P)
    ≡ flat_map (λ x. before S P x ++ added S P applied e.message x) things =
    ap (λ (f : ℕ → List NewSpot). flat_map f things)
    (fun_ext (λ x. rows_append x 1 (spots S P x)
    (option_to_list (spot_from (length P + 1) (place_at S P x) (place_at S (e ∷ P) x)
    (day_of e.message))))) in
    let whole : IsPermutation (spots_by_thing S (e ∷ P)) (written S P e ++ spots_by_thing S P) =
    subst (λ l. IsPermutation (spots_by_thing S (e ∷ P)) (l ++ spots_by_thing S P))
    (all_added S P applied e.message)
    (subst (λ l. IsPermutation l (flat_map (added S P applied e.message) things ++ spots_by_thing S
    P)) (sym each) (parted (before S P) (added S P applied e.message) things)) in
    IsPermutation-trans _ _ _ whole
    (IsPermutation-append _ _ _ _ (IsPermutation-reverse (written S P e)) (looking_back S P))

-- the rows after an entry
pub next_spot_rows : (S : Museum) (P : List Entry) (e : Entry) (rows : List SpotRow)
    → IsPermutation (rows_of_spots S P) rows
    → IsPermutation (rows_of_spots S (e ∷ P)) (map spot_row (reverse (written S P e)) ++ rows)
next_spot_rows S P e rows same =
    subst (λ l. IsPermutation l (map spot_row (reverse (written S P e)) ++ rows))
    (sym (map-append spot_row (reverse (written S P e)) (all_written S P)))
    (IsPermutation-append_right (map spot_row (reverse (written S P e))) _ _ same)
