-- The places that a place lies in: each is in the list once, and the list has no others.
use Rattle.std.specs.Prelude.{All, is_none, ℕ, ◌≡◌, ◌+◌, ◌<◌, ◌≤◌, ◌==◌, ◌&&◌, ◌||◌, Bool, true}
use Rattle.std.specs.Prelude.{false, cond, nat_lt, List, [], ◌∷◌, ◌++◌, length, drop, take, map}
use Rattle.std.specs.Prelude.{filter, Option, Some, None, if◌then◌else◌, zero, suc, refl}
use Rattle.std.proofs.Common.{arith, ap, sym, subst, ◌∙◌}
use Rattle.std.proofs.Math.Seq.{drop-length, take-length}
use Rattle.std.proofs.lemmas.Bool.{and_parts, false_from_ne_true}
use Rattle.std.proofs.lemmas.Bool.Decides.{nat_tests}
use Rattle.std.proofs.lemmas.List.{map-id, length-map, length-take, length-take-le}
use Rattle.std.proofs.lemmas.List.Elements.{All-nil, All-cons, All-append, filter-append}
use Rattle.std.proofs.lemmas.List.Elements.{filter_map-append}
use Rattle.std.proofs.lemmas.List.FromFn.{map-range_with_len_more}
use Rattle.std.proofs.lemmas.List.Quantifiers.{position-Some}
use Rattle.std.proofs.lemmas.Option.{get_or_from_slice_get}
use Rattle.std.proofs.lemmas.Slice.Eq.{bytes_eq-Decides}
use Rattle.std.specs.List.{filter_map, cons_option, list_all, range_with_len}
use Rattle.std.specs.Option.{option_map_or}
use Rattle.std.specs.Str.{bytes_eq}
use Rattle.codes_core.specs.Place.{lies_in, ends_segment, place_fault}
use Rattle.codes_core.specs.declared.fault.CodeFault.{CodeFault}
use Rattle.codes_core.proofs.Segments.{lies_in_front}
use Rattle.nest_core.specs.Museum.{Museum, IsMuseum, find_place, is_place_row, place_code_of}
use Rattle.nest_core.specs.Museum.{place_codes}
use Rattle.nest_core.proofs.Positions.{position_unlike}
use Rattle.count_core.specs.Inside.{outer_place, outer_places, outer_of}
use Rattle.count_core.proofs.Flags.{by_bool}

-- the place that is found has the wanted code
find_is : (S : Museum) (text code : List ℕ) (q : ℕ) → find_place S text ≡ Some q
    → place_code_of S q ≡ Some code → text ≡ code
find_is S text code q found at =
    let there = position-Some (bytes_eq text) (place_codes S) q code found in
    (bytes_eq-Decides text code).0
    (ap (bytes_eq text) (sym (get_or_from_slice_get (place_codes S) q code code at)) ∙ there.1)

abbrev hits : Option ℕ → ℕ → Bool
hits o q = option_map_or (λ k. k == q) o false

same_number : (k q : ℕ) → (k == q) ≡ true → k ≡ q
same_number k q e = grind (arith, nat_tests)

hit_is : (o : Option ℕ) (q : ℕ) → hits o q ≡ true → o ≡ Some q
hit_is None q e = absurd (cc)
hit_is (Some k) q e = ap Some (same_number k q e)

itself : (q : ℕ) → (q == q) ≡ true
itself q = grind (arith, nat_tests)

-- place q is found by its own code alone
found_by : (S : Museum) (text code : List ℕ) (q : ℕ) → IsMuseum S → place_code_of S q ≡ Some code
    → hits (find_place S text) q ≡ bytes_eq text code
found_by S text code q is at = by_bool (bytes_eq text code)
    (λ e. let same : text ≡ code = (bytes_eq-Decides text code).0 e in
    ap (λ o. hits o q) (ap (find_place S) same ∙ is.each_place q code at) ∙ (itself q ∙ sym e))
    (λ n. false_from_ne_true (hits (find_place S text) q)
    (λ e. let same : text ≡ code = find_is S text code q (hit_is (find_place S text) q e) at in
    absurd (let no : true ≡ false = sym ((bytes_eq-Decides text code).1 same) ∙ n in cc)) ∙ sym n)

and_false : (b : Bool) → (b && false) ≡ false
and_false true = refl
and_false false = refl

-- So it is found at the end of its own code, if the other place lies in it.
hit_at : (S : Museum) (text code : List ℕ) (q end : ℕ) → IsMuseum S → place_code_of S q ≡ Some code
    → hits (outer_place S text end) q
    ≡ (bytes_eq (take end text) code && ends_segment (drop end text))
hit_at S text code q end is at = by_bool (ends_segment (drop end text))
    (λ e. ap (λ b. hits (if b then find_place S (take end text) else None) q) e
    ∙ (found_by S (take end text) code q is at
    ∙ sym (ap (λ b. bytes_eq (take end text) code && b) e
    ∙ and_true (bytes_eq (take end text) code))))
    (λ n. ap (λ b. hits (if b then find_place S (take end text) else None) q) n
    ∙ sym (ap (λ b. bytes_eq (take end text) code && b) n
    ∙ and_false (bytes_eq (take end text) code)))
  where
    and_true : (b : Bool) → (b && true) ≡ b
    and_true true = refl
    and_true false = refl

-- a text as long as the code
front_at : (text code : List ℕ) (end : ℕ) → end ≤ length text
    → (bytes_eq (take end text) code && ends_segment (drop end text))
    ≡ ((end == length code) && lies_in text code)
front_at text code end lt = by_bool (end == length code)
    (λ e. let same : end ≡ length code = same_number end (length code) e in
    ap (λ n. bytes_eq (take n text) code && ends_segment (drop n text)) same
    ∙ (sym (lies_in_front text code) ∙ sym (ap (λ b. b && lies_in text code) e)))
    (λ n. ap (λ b. b && ends_segment (drop end text))
    (false_from_ne_true (bytes_eq (take end text) code)
    (λ e. let same : take end text ≡ code = (bytes_eq-Decides (take end text) code).0 e in
    let long : end ≡ length code = sym (length-take-le end text lt) ∙ ap length same in
    absurd (let no : true ≡ false = sym (subst (λ k. (end == k) ≡ true) long (itself end))
    ∙ n in cc)))
    ∙ sym (ap (λ b. b && lies_in text code) n))

range_more : (n : ℕ) → range_with_len 0 (n + 1) ≡ range_with_len 0 n ++ n ∷ []
range_more n =
    sym (map-id (range_with_len 0 (n + 1)))
    ∙ (map-range_with_len_more (λ k. k) 0 n n (omega arith) ∙ ap (λ xs. xs ++ n ∷ [])
    (map-id (range_with_len 0 n)))

-- a place that is found, or none
picked : (o : Option ℕ) (q : ℕ)
    → filter (λ k. k == q) (cons_option o []) ≡ cond (hits o q) (q ∷ []) []
picked None q = refl
picked (Some k) q = pick (k == q) (same_number k q)
  where
    pick : (b : Bool) → (b ≡ true → k ≡ q) → cond b (k ∷ []) [] ≡ cond b (q ∷ []) []
    pick true same = ap (λ j. j ∷ []) (same refl)
    pick false same = refl

joined : (a b : Bool) (q : ℕ) → (a && b) ≡ false
    → cond a (q ∷ []) [] ++ cond b (q ∷ []) [] ≡ cond (a || b) (q ∷ []) []
joined true true q e = absurd (cc)
joined true false q e = refl
joined false b q e = refl

shared : (a b l : Bool) → ((a && l) || (b && l)) ≡ ((a || b) && l)
shared true true true = refl
shared true true false = refl
shared true false true = refl
shared true false false = refl
shared false b l = refl

apart : (a b l : Bool) → (a && b) ≡ false → ((a && l) && (b && l)) ≡ false
apart true true l e = absurd (cc)
apart true false l e = and_false l
apart false b l e = refl

below_more : (m n : ℕ) → (nat_lt m n || (n == m)) ≡ nat_lt m (n + 1)
below_more m n = by_bool (nat_lt m n)
    (λ e. ap (λ b. b || (n == m)) e
    ∙ sym (let more : nat_lt m (n + 1) ≡ true = grind (arith, nat_tests) in more))
    (λ e. ap (λ b. b || (n == m)) e ∙ by_bool (n == m)
    (λ f. f ∙ sym (let more : nat_lt m (n + 1) ≡ true = grind (arith, nat_tests) in more))
    (λ f. f ∙ sym (let more : nat_lt m (n + 1) ≡ false = grind (arith, nat_tests) in more)))

not_both : (m n : ℕ) → (nat_lt m n && (n == m)) ≡ false
not_both m n = by_bool (nat_lt m n)
    (λ e. ap (λ b. b && (n == m)) e
    ∙ (let other : (n == m) ≡ false = grind (arith, nat_tests) in other))
    (λ e. ap (λ b. b && (n == m)) e)

-- one more first part of the code
pub fronts_more : (S : Museum) (text : List ℕ) (n : ℕ)
    → filter_map (outer_place S text) (range_with_len 0 (n + 1)) ≡ filter_map (outer_place S text)
    (range_with_len 0 n) ++ cons_option (outer_place S text n) []
fronts_more S text n =
    ap (filter_map (outer_place S text)) (range_more n) ∙ filter_map-append (outer_place S text)
    (range_with_len 0 n) (n ∷ [])

-- the last of them is the place itself
pub itself_last : (S : Museum) (text : List ℕ) (q : ℕ) → IsMuseum S → place_code_of S q ≡ Some text
    → filter_map (outer_place S text) (range_with_len 0 (length text)) ++ q ∷ [] ≡ outer_of S q
itself_last S text q is at =
    let fronts = filter_map (outer_place S text) (range_with_len 0 (length text)) in
    let whole : outer_place S text (length text) ≡ Some q =
    ap (λ (xs : List ℕ). if ends_segment xs then find_place S (take (length text) text) else None)
    (drop-length text)
    ∙ (ap (find_place S) (take-length text) ∙ is.each_place q text at) in
    sym (ap (λ o. option_map_or (outer_places S) o []) at
    ∙ (fronts_more S text (length text) ∙ ap (λ o. fronts ++ cons_option o []) whole))

-- place q is found at most once among the first parts up to n
once : (S : Museum) (text code : List ℕ) (q : ℕ) → IsMuseum S → place_code_of S q ≡ Some code
    → (n : ℕ) → n ≤ length text + 1
    → filter (λ k. k == q) (filter_map (outer_place S text) (range_with_len 0 n))
    ≡ cond (nat_lt (length code) n && lies_in text code) (q ∷ []) []
once S text code q is at zero lt =
    sym (ap (λ b. cond (b && lies_in text code) (q ∷ []) [])
    (let none : nat_lt (length code) 0 ≡ false = grind (arith, nat_tests) in none))
once S text code q is at (suc n) lt =
    let next : suc n ≡ n + 1 = omega arith in
    let inner = lies_in text code in
    let mine : List ℕ → List ℕ = filter (λ k. k == q) in
    let fronts : ℕ → List ℕ = λ k. filter_map (outer_place S text) (range_with_len 0 k) in
    let o = outer_place S text n in
    let some : Bool → List ℕ = λ b. cond b (q ∷ []) [] in
    let before : mine (fronts n) ≡ some (nat_lt (length code) n && inner) =
    once S text code q is at n (omega (arith, lt)) in
    let last : mine (cons_option o []) ≡ some ((n == length code) && inner) =
    picked o q ∙ ap some (hit_at S text code q n is at ∙ front_at text code n
    (omega (arith, lt))) in
    let split : mine (fronts (n + 1)) ≡ mine (fronts n) ++ mine (cons_option o []) =
    ap mine (fronts_more S text n) ∙ filter-append (λ k. k == q) (fronts n) (cons_option o []) in
    let both : mine (fronts (n + 1)) ≡ some (nat_lt (length code) n && inner)
    ++ some ((n == length code) && inner) =
    split ∙ (ap (λ xs. xs ++ mine (cons_option o [])) before
    ∙ ap (λ xs. some (nat_lt (length code) n && inner) ++ xs) last) in
    let one : mine (fronts (n + 1))
    ≡ some ((nat_lt (length code) n && inner) || ((n == length code) && inner)) =
    both ∙ joined (nat_lt (length code) n && inner) ((n == length code) && inner) q
    (apart (nat_lt (length code) n) (n == length code) inner (not_both (length code) n)) in
    let now : mine (fronts (n + 1)) ≡ some (nat_lt (length code) (n + 1) && inner) =
    one ∙ ap some (shared (nat_lt (length code) n) (n == length code) inner ∙ ap (λ b. b && inner)
    (below_more (length code) n)) in
    subst (λ k. mine (fronts k) ≡ some (nat_lt (length code) k && inner)) (sym next) now

-- a place's code is no shorter than that of a place it lies in
front_short : (text code : List ℕ) → (nat_lt (length code) (length text + 1) && lies_in text code)
    ≡ lies_in text code
front_short text code = by_bool (lies_in text code)
    (λ e. let starts : take (length code) text
    ≡ code = (bytes_eq-Decides (take (length code) text) code).0
    (and_parts _ _ (sym (lies_in_front text code) ∙ e)).0 in
    let short : nat_lt (length code) (length text + 1) ≡ true =
    below (length code) (length text)
    (omega (arith, length-take (length code) text, ap length starts)) in
    ap (λ b. b && lies_in text code) short)
    (λ n. ap (λ b. nat_lt (length code) (length text + 1) && b) n
    ∙ (and_false (nat_lt (length code) (length text + 1)) ∙ sym n))
  where
    below : (m n : ℕ) → m ≤ n → nat_lt m (n + 1) ≡ true
    below m n le = grind (arith, nat_tests)

pub outer_once : (S : Museum) (text code : List ℕ) (q : ℕ) → IsMuseum S
    → place_code_of S q ≡ Some code
    → filter (λ k. k == q) (outer_places S text) ≡ cond (lies_in text code) (q ∷ []) []
outer_once S text code q is at = once S text code q is at (length text + 1) (omega arith)
    ∙ ap (λ b. cond b (q ∷ []) []) (front_short text code)

-- each is a place of the setup
pub outer_within : (S : Museum) (text : List ℕ)
    → All (λ q. q < length S.places) (outer_places S text)
outer_within S text = by (length text + 1)
  where
    found : (end : ℕ) (q : ℕ) → outer_place S text end ≡ Some q → q < length S.places
    found end q e = from (ends_segment (drop end text)) e
      where
        from : (b : Bool) → (if b then find_place S (take end text) else None) ≡ Some q
            → q < length S.places
        from true h =
            omega (
              arith,
              (position-Some (bytes_eq (take end text)) (place_codes S) q [] h).0,
              length-map S.places (λ (row : List ℕ × Bool). row.0),
            )
        from false h = absurd (cc)

    one : (o : Option ℕ) → ((q : ℕ) → o ≡ Some q → q < length S.places)
        → All (λ q. q < length S.places) (cons_option o [])
    one None h = All-nil (λ q. q < length S.places)
    one (Some q) h = All-cons (λ k. k < length S.places) q [] (h q refl)
        (All-nil (λ k. k < length S.places))

    by : (n : ℕ) → All (λ q. q < length S.places)
        (filter_map (outer_place S text) (range_with_len 0 n))
    by zero = All-nil (λ q. q < length S.places)
    by (suc n) =
        let next : suc n ≡ n + 1 = omega arith in
        subst (λ k. All (λ q. q < length S.places)
        (filter_map (outer_place S text) (range_with_len 0 k))) (sym next)
        (subst (All (λ q. q < length S.places)) (sym (fronts_more S text n))
        (All-append (λ q. q < length S.places)
        (filter_map (outer_place S text) (range_with_len 0 n))
        (cons_option (outer_place S text n) []) (by n) (one (outer_place S text n) (found n))))

abbrev is_code : List ℕ → Bool
is_code text = is_none (place_fault text)

codes_pass : (rows : List (List ℕ × Bool)) → list_all is_place_row rows ≡ true
    → list_all is_code (map (λ row. row.0) rows) ≡ true
codes_pass [] h = refl
codes_pass (row ∷ rows) h = let both =
    and_parts (is_place_row row) (list_all is_place_row rows) h in
    rw (both.0, codes_pass rows both.1) refl

-- no place has a text that isn't a code
pub none_spelled : (S : Museum) (text : List ℕ) (fault : CodeFault) → IsMuseum S
    → place_fault text ≡ Some fault → find_place S text ≡ None
none_spelled S text fault is e =
    position_unlike is_code (place_codes S) text (codes_pass S.places is.codes_of_places)
    (ap is_none e)
