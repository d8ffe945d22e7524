-- The counts at all places, as a loop goes through the things.
use Rattle.std.proofs.Common.{◌≡◌, ◌∙◌, ℕ, ◌+◌, ◌<◌, ◌≤◌, ◌&&◌, Bool, List, Some, None}
use Rattle.std.proofs.Common.{ap, arith, eqb, false, filter, get_or, length, map, not}
use Rattle.std.proofs.Common.{inl, inr, refl, replicate, set, sym, true, zero, suc}
use Rattle.std.specs.List.{range_with_len}
use Rattle.std.proofs.lemmas.Bool.Decides.{eqb_tells}
use Rattle.std.proofs.lemmas.Grind.{get_or-set_at}
use Rattle.std.proofs.lemmas.List.{get_or-replicate, get_or-set_other, length-replicate, length-set}
use Rattle.std.proofs.lemmas.List.FromFn.{fill_by_all, get_or-map-range_with_len}
use Rattle.std.proofs.lemmas.List.FromFn.{length-map-range_with_len}
use Rattle.nest_core.specs.Museum.{is_container}
use Rattle.nest_core.specs.Nest.{is_same_place}
use Rattle.posting_core.specs.Book.{Book, place_in}
use Rattle.page_core.specs.TreeRows.{counts_among, is_object_at, objects_at}
use Rattle.page_core.proofs.Counting.{count_more}

-- the number of objects at place p, among the first n things
abbrev among : Book → ℕ → ℕ → ℕ
among B n p = length (filter (is_object_at B p) (range_with_len 0 n))

pub length-counts_among : (B : Book) (n : ℕ)
    → length (counts_among B n) ≡ length B.museum.places
length-counts_among B n = length-map-range_with_len (among B n) 0 (length B.museum.places)

pub get_or-counts_among : (B : Book) (n p : ℕ) → p < length B.museum.places
    → get_or (counts_among B n) p 0 ≡ among B n p
get_or-counts_among B n p within =
    get_or-map-range_with_len (among B n) 0 (length B.museum.places) p p 0 within (omega arith)

one_more : (p : ℕ → Bool) (n : ℕ) (b : Bool) → p n ≡ b
    → length (filter p (range_with_len 0 n)) ≤ n
    → length (filter p (range_with_len 0 (n + 1))) ≤ n + 1
one_more p n true e few = omega (arith, few, count_more p n true e)
one_more p n false e few = omega (arith, few, count_more p n false e)

few : (B : Book) (p n : ℕ) → among B n p ≤ n
few B p zero = omega arith
few B p (suc n) =
    let next : suc n ≡ n + 1 = omega arith in
    omega (
      arith,
      one_more (is_object_at B p) n (is_object_at B p n) refl (few B p n),
      ap (λ k. among B k p) next,
    )

-- a count fits its type
pub at_most : (B : Book) (n p : ℕ) (counts : List ℕ) → counts ≡ counts_among B n
    → p < length B.museum.places → get_or counts p 0 ≤ n
at_most B n p counts e within =
    omega (arith, ap (λ xs. get_or xs p 0) e, get_or-counts_among B n p within, few B p n)

pub in_counts : (B : Book) (n p : ℕ) (counts : List ℕ) → counts ≡ counts_among B n
    → p < length B.museum.places → p < length counts
in_counts B n p counts e within =
    omega (arith, ap length e, length-counts_among B n, within)

-- before the first thing
pub counts_first : (B : Book) → replicate (length B.museum.places) 0 ≡ counts_among B 0
counts_first B =
    let m = length B.museum.places in
    fill_by_all (among B 0) (replicate m 0) m 0 (length-replicate m 0)
    (λ k less. get_or-replicate m k 0 0 less)

-- a thing that is an object at no place
pub counts_same : (B : Book) (n : ℕ) → ((p : ℕ) → is_object_at B p n ≡ false)
    → counts_among B n ≡ counts_among B (n + 1)
counts_same B n none =
    fill_by_all (among B (n + 1)) (counts_among B n) (length B.museum.places) 0
    (length-counts_among B n)
    (λ k less. omega (
      arith,
      get_or-counts_among B n k less,
      count_more (is_object_at B k) n false (none k),
    ))

-- an object at place q
counted_at : (B : Book) (n q k : ℕ) → q < length B.museum.places → k < length B.museum.places
    → ((p : ℕ) → is_object_at B p n ≡ eqb q p)
    → get_or (set (counts_among B n) q (get_or (counts_among B n) q 0 + 1)) k 0
    ≡ among B (n + 1) k
counted_at B n q k less within one =
    let old = counts_among B n in
    let y = get_or old q 0 + 1 in
    let was = get_or-counts_among B n k within in
    elim (eqb_tells q k) [
      | inl e ↦
          let here : get_or (set old q y) k 0 ≡ y = get_or-set_at old q k y 0 (sym e.1)
          (omega (arith, length-counts_among B n, less)) in
          let same : get_or old q 0 ≡ get_or old k 0 = ap (λ j. get_or old j 0) e.1 in
          omega (arith, here, same, was, count_more (is_object_at B k) n true (one k ∙ e.0))
      | inr e ↦
          let there : get_or (set old q y) k 0 ≡ get_or old k 0 = get_or-set_other old q k y 0
          (λ s. e.1 (sym s)) in
          omega (arith, there, was, count_more (is_object_at B k) n false (one k ∙ e.0))
    ]

counts_more : (B : Book) (n q : ℕ) → q < length B.museum.places
    → ((p : ℕ) → is_object_at B p n ≡ eqb q p)
    → set (counts_among B n) q (get_or (counts_among B n) q 0 + 1) ≡ counts_among B (n + 1)
counts_more B n q less one =
    let old = counts_among B n in
    fill_by_all (among B (n + 1)) (set old q (get_or old q 0 + 1)) (length B.museum.places) 0
    (length-set old q (get_or old q 0 + 1) ∙ length-counts_among B n)
    (λ k within. counted_at B n q k less within one)

-- thing n is an object at place q
pub counts_at : (B : Book) (n q : ℕ) (counts : List ℕ) → counts ≡ counts_among B n
    → q < length B.museum.places → not (is_container B.museum n) ≡ true
    → place_in B n ≡ Some q
    → set counts q (get_or counts q 0 + 1) ≡ counts_among B (n + 1)
counts_at B n q counts e less object place =
    ap (λ xs. set xs q (get_or xs q 0 + 1)) e
    ∙ counts_more B n q less (λ p. ap (λ b. b && is_same_place (place_in B n) (Some p)) object
    ∙ ap (λ o. is_same_place o (Some p)) place)

-- thing n was never placed
pub counts_unplaced : (B : Book) (n : ℕ) (counts : List ℕ) → counts ≡ counts_among B n
    → not (is_container B.museum n) ≡ true → place_in B n ≡ None
    → counts ≡ counts_among B (n + 1)
counts_unplaced B n counts e object place =
    e ∙ counts_same B n (λ p. ap (λ b. b && is_same_place (place_in B n) (Some p)) object
    ∙ ap (λ o. is_same_place o (Some p)) place)

-- thing n is a container
pub counts_container : (B : Book) (n : ℕ) (counts : List ℕ) → counts ≡ counts_among B n
    → not (is_container B.museum n) ≡ false → counts ≡ counts_among B (n + 1)
counts_container B n counts e container =
    e ∙ counts_same B n (λ p. ap (λ b. b && is_same_place (place_in B n) (Some p)) container)

-- all things
pub place_in_counts : (B : Book) (p : ℕ) (counts : List ℕ)
    → counts ≡ map (objects_at B) (range_with_len 0 (length B.museum.places))
    → p < length B.museum.places → p < length counts
place_in_counts B p counts e within = in_counts B (length B.museum.things) p counts e within

pub count_read : (B : Book) (p : ℕ) (counts : List ℕ)
    → counts ≡ map (objects_at B) (range_with_len 0 (length B.museum.places))
    → p < length B.museum.places → get_or counts p 0 ≡ objects_at B p
count_read B p counts e within =
    ap (λ xs. get_or xs p 0) e ∙ get_or-counts_among B (length B.museum.things) p within
