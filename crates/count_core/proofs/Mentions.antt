-- The places that a list mentions, row by row.
use Rattle.std.specs.Prelude.{ℕ, ◌≡◌, ◌==◌, ◌||◌, ◌<◌, not, Bool, true, false, cond, All, List, []}
use Rattle.std.specs.Prelude.{◌∷◌, ◌++◌, length, filter, filter_map, Option, Some, None, refl}
use Rattle.std.proofs.Common.{arith, ap, sym, ◌∙◌, subst}
use Rattle.std.proofs.lemmas.Bool.Decides.{nat_tests}
use Rattle.std.proofs.lemmas.List.{append-nil}
use Rattle.std.proofs.lemmas.List.Elements.{filter-append, filter_map-append, All-push}
use Rattle.std.specs.List.{cons_option}
use Rattle.std.specs.Option.{option_map_or}
use Rattle.nest_core.specs.Museum.{Museum, find_place}
use Rattle.nest_core.specs.Puts.{is_among}
use Rattle.count_core.specs.declared.count_row.CountRow.{CountRow}
use Rattle.count_core.specs.Counts.{first_mentions, mentioned}
use Rattle.count_core.specs.Marks.{flagged, with_flag, names_by, AreNames}
use Rattle.count_core.proofs.Flags.{names_then}

both_ways : (a b : ℕ) → (a == b) ≡ (b == a)
both_ways a b = grind (arith, nat_tests)

-- a number goes last, unless it is x or one of those before
kept_last : (q x : ℕ) (c b : Bool) → (x == q) ≡ b
    → filter (λ k. not (k == x)) (cond c [] (q ∷ [])) ≡ cond (b || c) [] (q ∷ [])
kept_last q x true true e = refl
kept_last q x true false e = refl
kept_last q x false true e = ap (λ t. cond (not t) (q ∷ []) []) (both_ways q x ∙ e)
kept_last q x false false e = ap (λ t. cond (not t) (q ∷ []) []) (both_ways q x ∙ e)

-- one more number goes last, if it is new
first_more : (xs : List ℕ) (q : ℕ)
    → first_mentions (xs ++ q ∷ []) ≡ first_mentions xs ++ cond (is_among q xs) [] (q ∷ [])
first_more [] q = refl
first_more (x ∷ xs) q =
    ap (λ ys. x ∷ filter (λ k. not (k == x)) ys) (first_more xs q)
    ∙ (ap (λ ys. x ∷ ys) (filter-append (λ k. not (k == x)) (first_mentions xs)
    (cond (is_among q xs) [] (q ∷ [])))
    ∙ ap (λ ys. (x ∷ filter (λ k. not (k == x)) (first_mentions xs)) ++ ys)
    (kept_last q x (is_among q xs) (x == q) refl))

among_more : (o : Option ℕ) (q : ℕ) (ys : List ℕ) (b : Bool) → is_among q ys ≡ b
    → is_among q (cons_option o ys) ≡ (option_map_or (λ y. y == q) o false || b)
among_more None q ys b e = e
among_more (Some y) q ys b e = ap (λ t. (y == q) || t) e

module _ {X : Type 0} (number : X → Option ℕ) where
  names_among : (rows : List X) (q : ℕ)
      → is_among q (filter_map number rows) ≡ names_by number rows q
  names_among [] q = refl
  names_among (r ∷ rows) q = among_more (number r) q (filter_map number rows)
      (names_by number rows q) (names_among rows q)

  last_row : (rows : List X) (r : X) (o : Option ℕ) → number r ≡ o
      → filter_map number (rows ++ r ∷ []) ≡ filter_map number rows ++ cons_option o []
  last_row rows r o e = filter_map-append number rows (r ∷ [])
      ∙ ap (λ p. filter_map number rows ++ cons_option p []) e

  first_with : (rows : List X) (r : X) (q : ℕ) (b : Bool) → number r ≡ Some q
      → names_by number rows q ≡ b
      → first_mentions (filter_map number (rows ++ r ∷ [])) ≡ first_mentions
      (filter_map number rows) ++ cond b [] (q ∷ [])
  first_with rows r q b e old =
      ap first_mentions (last_row rows r (Some q) e)
      ∙ (first_more (filter_map number rows) q
      ∙ ap (λ t. first_mentions (filter_map number rows) ++ cond t [] (q ∷ []))
      (names_among rows q ∙ old))

  first_without : (rows : List X) (r : X) → number r ≡ None
      → first_mentions (filter_map number (rows ++ r ∷ [])) ≡ first_mentions
      (filter_map number rows)
  first_without rows r e = ap first_mentions
      (last_row rows r None e ∙ append-nil (filter_map number rows))

abbrev pub place_of_row : Museum → CountRow → Option ℕ
place_of_row S r = find_place S r.place

-- the places that rows mention, and a flag for each
pub record AreMentioned (S : Museum) (rows : List CountRow) (places : List ℕ) (flags : List Bool) :
    Type 0 where
  pub listed : places ≡ mentioned S rows
  pub within : All (λ q. q < length S.places) places
  pub marked : AreNames (place_of_row S) (length S.places) rows flags

-- a row of a place that is new
pub mention_new : (S : Museum) (rows : List CountRow) (r : CountRow) (places : List ℕ)
    (flags : List Bool) (q : ℕ) → AreMentioned S rows places flags
    → find_place S r.place ≡ Some q → q < length S.places → flagged flags (Some q) ≡ false
    → AreMentioned S (rows ++ r ∷ []) (places ++ q ∷ []) (with_flag flags (Some q))
mention_new S rows r places flags q are found lt new = record {
  listed = ap (λ ps. ps ++ q ∷ []) are.listed
      ∙ sym (first_with (place_of_row S) rows r q false found (sym (are.marked.each q lt) ∙ new));
  within = All-push (λ p. p < length S.places) places q are.within lt;
  marked =
      subst (λ o. AreNames (place_of_row S) (length S.places) (rows ++ r ∷ []) (with_flag flags o))
      found (names_then (place_of_row S) (length S.places) rows r flags are.marked);
}

-- a row whose place an earlier row has
pub mention_old : (S : Museum) (rows : List CountRow) (r : CountRow) (places : List ℕ)
    (flags : List Bool) (q : ℕ) → AreMentioned S rows places flags
    → find_place S r.place ≡ Some q → q < length S.places → flagged flags (Some q) ≡ true
    → AreMentioned S (rows ++ r ∷ []) places (with_flag flags (Some q))
mention_old S rows r places flags q are found lt old = record {
  listed =
      are.listed ∙ sym (first_with (place_of_row S) rows r q true found
      (sym (are.marked.each q lt) ∙ old) ∙ append-nil (mentioned S rows));
  within = are.within;
  marked =
      subst (λ o. AreNames (place_of_row S) (length S.places) (rows ++ r ∷ []) (with_flag flags o))
      found (names_then (place_of_row S) (length S.places) rows r flags are.marked);
}

-- a row of an unknown place
pub mention_unknown : (S : Museum) (rows : List CountRow) (r : CountRow) (places : List ℕ)
    (flags : List Bool) → AreMentioned S rows places flags
    → find_place S r.place ≡ None → AreMentioned S (rows ++ r ∷ []) places flags
mention_unknown S rows r places flags are none = record {
  listed = are.listed ∙ sym (first_without (place_of_row S) rows r none);
  within = are.within;
  marked =
      subst (λ o. AreNames (place_of_row S) (length S.places) (rows ++ r ∷ []) (with_flag flags o))
      none (names_then (place_of_row S) (length S.places) rows r flags are.marked);
}
