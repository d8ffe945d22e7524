-- The lists of the objects without a flag, place by place and thing by thing.
use Rattle.std.specs.Prelude.{ℕ, zero, suc, ◌≡◌, ◌+◌, ◌<◌, ◌==◌, ◌&&◌, Bool, true, false, cond}
use Rattle.std.specs.Prelude.{List, [], ◌∷◌, ◌++◌, length, map, filter, Option, Some, None}
use Rattle.std.specs.Prelude.{option_map, slice_get, slice_set, unwrap_or, Vec, refl}
use Rattle.std.proofs.Common.{arith, ap, sym, subst, ◌∙◌, get_or, append_assoc, replicate}
use Rattle.std.proofs.lemmas.Bool.Decides.{nat_tests}
use Rattle.std.proofs.lemmas.List.{append-nil, map-append, length-map, length-replicate, length-set}
use Rattle.std.proofs.lemmas.List.{get_or-replicate}
use Rattle.std.proofs.lemmas.List.Elements.{filter-append}
use Rattle.std.proofs.lemmas.Option.{slice_get-map, slice_get-get_or, slice_get_read}
use Rattle.std.proofs.lemmas.Option.{unwrap_or-slice_get}
use Rattle.std.specs.List.{range_with_len}
use Rattle.std.specs.Option.{option_map_or}
use Rattle.std.specs.declared.alloc.Global.{Global}
use Rattle.codes_core.specs.Place.{lies_in}
use Rattle.nest_core.specs.Museum.{Museum, IsMuseum, place_code_of}
use Rattle.nest_core.proofs.Writes.{get_set_same, get_set_other}
use Rattle.posting_core.specs.Book.{Book, place_in}
use Rattle.count_core.specs.Counts.{is_within}
use Rattle.count_core.specs.Inside.{outer_of, outer_places, lists, list_at, is_unflagged_in}
use Rattle.count_core.specs.Inside.{AreOuter, AreUnflaggedIn}
use Rattle.count_core.specs.Marks.{is_unflagged}
use Rattle.count_core.specs.Reports.{lies_at, is_in}
use Rattle.count_core.proofs.Flags.{by_bool}
use Rattle.count_core.proofs.OuterPlaces.{outer_once}
use Rattle.count_core.proofs.Ranges.{filter_more, filter_without}

-- the list at an index
pub at_of : (vs : List (Vec ℕ Global)) (q : ℕ) (v : Vec ℕ Global) → slice_get vs q ≡ Some v
    → list_at (lists vs) q ≡ v.items
at_of vs q v e = ap (λ o. unwrap_or o [])
    (slice_get-map (λ (w : Vec ℕ Global). w.items) vs q
    ∙ ap (option_map (λ (w : Vec ℕ Global). w.items)) e)

at_like : (vs ws : List (Vec ℕ Global)) (q : ℕ) → slice_get vs q ≡ slice_get ws q
    → list_at (lists vs) q ≡ list_at (lists ws) q
at_like vs ws q e =
    ap (λ o. unwrap_or o [])
    (slice_get-map (λ (w : Vec ℕ Global). w.items) vs q
    ∙ (ap (option_map (λ (w : Vec ℕ Global). w.items)) e
    ∙ sym (slice_get-map (λ (w : Vec ℕ Global). w.items) ws q)))

-- one list grows, and no other
pub list_pushed : (vs : List (Vec ℕ Global)) (p : ℕ) (old new : Vec ℕ Global) (more : List ℕ)
    (q : ℕ) → p < length vs → slice_get vs p ≡ Some old → new.items ≡ old.items ++ more
    → list_at (lists (slice_set vs p new)) q ≡ list_at (lists vs) q ++ cond (p == q) more []
list_pushed vs p old new more q lt at grown = by_bool (p == q)
    (λ e. let same : p ≡ q = grind (arith, nat_tests) in
    subst (λ k. list_at (lists (slice_set vs p new)) k ≡ list_at (lists vs) k ++ cond (p == q)
    more []) same
    (at_of (slice_set vs p new) p new (get_set_same vs p new lt)
    ∙ (grown ∙ (ap (λ xs. xs ++ more) (sym (at_of vs p old at))
    ∙ sym (ap (λ b. list_at (lists vs) p ++ cond b more []) e)))))
    (λ n. let other : p ≡ q → ⊥ = λ same. let yes : (p == q) ≡ true = grind (arith, nat_tests) in
    let no : true ≡ false = sym yes ∙ n in cc in
    at_like (slice_set vs p new) vs q (get_set_other vs p q new other)
    ∙ sym (ap (λ b. list_at (lists vs) q ++ cond b more []) n
    ∙ append-nil (list_at (lists vs) q)))

as_often : (x q : ℕ) (b : Bool) → map (λ (k : ℕ). x) (cond b (q ∷ []) []) ≡ cond b (x ∷ []) []
as_often x q true = refl
as_often x q false = refl

-- one more place whose list grows
pub pushed_more : (x p q : ℕ) (ps : List ℕ) (old now new : List ℕ)
    → now ≡ old ++ map (λ k. x) (filter (λ k. k == q) ps) → new ≡ now ++ cond (p == q) (x ∷ []) []
    → new ≡ old ++ map (λ k. x) (filter (λ k. k == q) (ps ++ p ∷ []))
pushed_more x p q ps old now new was is =
    is
    ∙ (ap (λ xs. xs ++ cond (p == q) (x ∷ []) []) was
    ∙ (append_assoc old (map (λ k. x) (filter (λ k. k == q) ps)) (cond (p == q) (x ∷ []) [])
    ∙ ap (λ xs. old ++ xs)
    (sym (ap (map (λ k. x)) (filter-append (λ k. k == q) ps (p ∷ []))
    ∙ (map-append (λ k. x) (filter (λ k. k == q) ps) (cond (p == q) (p ∷ []) [])
    ∙ ap (λ xs. map (λ k. x) (filter (λ k. k == q) ps) ++ xs) (as_often x p (p == q)))))))

-- the thing is in place q if its own place lies there
within_is : (B : Book) (x p q : ℕ) (text code : List ℕ) → place_in B x ≡ Some p
    → place_code_of B.museum p ≡ Some text → place_code_of B.museum q ≡ Some code
    → is_within B q x ≡ lies_in text code
within_is B x p q text code at own other =
    ap (λ o. option_map_or (λ (c : List ℕ). is_in B c x) o false) other
    ∙ (ap (λ o. option_map_or (λ (k : ℕ). lies_at B.museum k code) o false) at
    ∙ ap (λ o. option_map_or (λ (c : List ℕ). lies_in c code) o false) own)

pub code_at : (S : Museum) (q : ℕ) → q < length S.places → (code : List ℕ)
    × (place_code_of S q ≡ Some code)
code_at S q lt = (
  get_or _ q [],
  slice_get-get_or _ q []
      (omega (arith, lt, length-map S.places (λ (row : List ℕ × Bool). row.0))),
)

-- an object without a flag, at a place
pub with_unflagged : (B : Book) (flags : List Bool) (x p : ℕ) (text : List ℕ)
    (old new : List (List ℕ)) → IsMuseum B.museum → AreUnflaggedIn B flags x old
    → is_unflagged B.museum flags x ≡ true → place_in B x ≡ Some p
    → place_code_of B.museum p ≡ Some text → length new ≡ length old
    → ((q : ℕ) → list_at new q ≡ list_at old q ++ map (λ k. x)
    (filter (λ k. k == q) (outer_places B.museum text))) → AreUnflaggedIn B flags (x + 1) new
with_unflagged B flags x p text old new is before free at own many each = record {
  many = many ∙ before.many;
  each = λ q lt.
      let code = code_at B.museum q lt in
      let test = is_unflagged_in B flags q in
      let passes : test x ≡ lies_in text code.0 =
      ap (λ b. b && is_within B q x) free ∙ within_is B x p q text code.0 at own code.1 in
      each q ∙ (ap (λ xs. xs ++ map (λ k. x) (filter (λ k. k == q) (outer_places B.museum text)))
      (before.each q lt)
      ∙ (ap (λ xs. filter test (range_with_len 0 x) ++ map (λ k. x) xs)
      (outer_once B.museum text code.0 q is code.1)
      ∙ (ap (λ xs. filter test (range_with_len 0 x) ++ xs)
      (as_often x q (lies_in text code.0) ∙ sym (ap (λ b. cond b (x ∷ []) []) passes))
      ∙ sym (filter_more test x))));
}

-- a thing that is in none of the lists
pub without_unflagged : (B : Book) (flags : List Bool) (x : ℕ) (xss : List (List ℕ))
    → AreUnflaggedIn B flags x xss → ((q : ℕ) → is_unflagged_in B flags q x ≡ false)
    → AreUnflaggedIn B flags (x + 1) xss
without_unflagged B flags x xss before none = record {
  many = before.many;
  each = λ q lt. before.each q lt ∙ sym (filter_without (is_unflagged_in B flags q) x (none q));
}

-- the table of outer places, with all lists still empty
none_at : (n p : ℕ) → list_at (replicate n []) p ≡ []
none_at zero p = refl
none_at (suc n) zero = refl
none_at (suc n) (suc p) = none_at n p

pub none_asked : (S : Museum) (xss : List (List ℕ)) → xss ≡ replicate (length S.places) []
    → AreOuter S xss
none_asked S xss is = record {
  many = ap length is ∙ length-replicate (length S.places) [];
  each = λ p some. absurd (some (ap (λ yss. list_at yss p) is ∙ none_at (length S.places) p));
}

-- and with one list filled
pub asked : (S : Museum) (vs : List (Vec ℕ Global)) (p : ℕ) (new : Vec ℕ Global) → p < length vs
    → list_at (lists (slice_set vs p new)) p ≡ new.items
asked S vs p new lt = at_of (slice_set vs p new) p new (get_set_same vs p new lt)

pub asked_more : (S : Museum) (vs : List (Vec ℕ Global)) (p : ℕ) (new : Vec ℕ Global)
    → AreOuter S (lists vs) → p < length vs → new.items ≡ outer_of S p
    → AreOuter S (lists (slice_set vs p new))
asked_more S vs p new before lt is = record {
  many = length-map (slice_set vs p new) (λ (v : Vec ℕ Global). v.items)
      ∙ (length-set vs p new ∙ (sym (length-map vs (λ (v : Vec ℕ Global). v.items)) ∙ before.many));
  each = λ q some. by_bool (p == q)
      (λ e. let same : p ≡ q = grind (arith, nat_tests) in
      subst (λ k. list_at (lists (slice_set vs p new)) k ≡ outer_of S k) same
      (asked S vs p new lt ∙ is))
      (λ n. let other : p ≡ q → ⊥ = λ same. let yes : (p == q) ≡ true = grind (arith, nat_tests) in
      let no : true ≡ false = sym yes ∙ n in cc in
      let like = at_like (slice_set vs p new) vs q (get_set_other vs p q new other) in
      like ∙ before.each q (λ none. some (like ∙ none)));
}

pub outer_at : (S : Museum) (vs : List (Vec ℕ Global)) (p : ℕ) (v : Vec ℕ Global) (text : List ℕ)
    → AreOuter S (lists vs) → list_at (lists vs) p ≡ outer_of S p → p < length S.places
    → v ≡ get_or vs p v → place_code_of S p ≡ Some text → v.items ≡ outer_places S text
outer_at S vs p v text table is lt at own =
    let count : length S.places ≡ length vs =
    sym table.many ∙ length-map vs (λ (w : Vec ℕ Global). w.items) in
    sym (at_of vs p v (slice_get_read vs (length S.places) p v count lt at))
    ∙ (is ∙ ap (λ (o : Option (List ℕ)). option_map_or (outer_places S) o []) own)

-- before the first thing
pub none_yet : (B : Book) (flags : List Bool) (xss : List (List ℕ))
    → xss ≡ replicate (length B.museum.places) [] → AreUnflaggedIn B flags 0 xss
none_yet B flags xss is = record {
  many = ap length is ∙ length-replicate (length B.museum.places) [];
  each = λ q lt. ap (λ yss. list_at yss q) is
      ∙ (unwrap_or-slice_get (replicate (length B.museum.places) []) q [] ∙ get_or-replicate
      (length B.museum.places) q [] [] lt);
}

-- a thing without a place is in no place
pub unplaced_within : (B : Book) (q x : ℕ) (free : Bool) → place_in B x ≡ None
    → (free && is_within B q x) ≡ false
unplaced_within B q x free none = ap (λ b. free && b) (by (place_code_of B.museum q)) ∙ nothing free
  where
    by : (o : Option (List ℕ)) → option_map_or (λ (code : List ℕ). is_in B code x) o false ≡ false
    by None = refl
    by (Some code) = ap (λ o. option_map_or (λ (k : ℕ). lies_at B.museum k code) o false) none

    nothing : (b : Bool) → (b && false) ≡ false
    nothing true = refl
    nothing false = refl
