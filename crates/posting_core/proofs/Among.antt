-- Members of lists of numbers and of codes, and their positions.
use Rattle.std.specs.Prelude.{ℕ, ◌≡◌, ◌+◌, ◌<◌, ◌≤◌, ◌==◌, ◌||◌, Bool, true, false, not, cond}
use Rattle.std.specs.Prelude.{filter, List, [], ◌∷◌, length, map, None, Some, refl, zero, suc}
use Rattle.std.specs.Prelude.{is_some, unwrap_or, nat_eq, nat_lt, if◌then◌else◌}
use Rattle.std.specs.List.{range_with_len, list_any, position, position_or_len}
use Rattle.std.specs.Option.{option_map}
use Rattle.std.specs.Str.{bytes_eq}
use Rattle.std.proofs.Common.{ap, ◌∙◌, sym, arith, get_or}
use Rattle.std.proofs.lemmas.Bool.{or_parts, false≢true, not-false}
use Rattle.std.proofs.lemmas.Bool.Decides.{nat_tests}
use Rattle.std.proofs.lemmas.List.Quantifiers.{position-Some}
use Rattle.std.proofs.lemmas.Option.{slice_get-get_or}
use Rattle.std.proofs.lemmas.Slice.Eq.{bytes_eq-Decides}
use Rattle.nest_core.specs.Museum.{Museum, find_thing, thing_codes, thing_code_of}
use Rattle.nest_core.specs.Puts.{is_among}
use Rattle.nest_core.proofs.Moves.{by_eq}
use Rattle.posting_core.specs.Messages.{thing_no}
use Rattle.posting_core.specs.Verdicts.{is_known}

-- a number among those that pass is among all
pub among_passing : (p : ℕ → Bool) (xs : List ℕ) (o : ℕ) → p o ≡ true
    → is_among o (filter p xs) ≡ is_among o xs
among_passing p [] o pass = refl
among_passing p (x ∷ xs) o pass = by_eq _ x o
    (λ t same. rw (ap p same ∙ pass, t) refl)
    (λ f. elim (p x) as (λ b. is_among o (cond b (x ∷ filter p xs) (filter p xs))
    ≡ ((x == o) || is_among o xs)) [
      | true ↦ ap (λ b. (x == o) || b) (among_passing p xs o pass)
      | false ↦ among_passing p xs o pass ∙ sym (ap (λ b. b || is_among o xs) f)
    ])

-- a number that doesn't pass is not among those that pass
pub not_among_passing : (p : ℕ → Bool) (xs : List ℕ) (o : ℕ) → p o ≡ false
    → is_among o (filter p xs) ≡ false
not_among_passing p [] o fails = refl
not_among_passing p (x ∷ xs) o fails = by_eq _ x o
    (λ t same. rw (ap p same ∙ fails) (not_among_passing p xs o fails))
    (λ f. elim (p x) as (λ b. is_among o (cond b (x ∷ filter p xs) (filter p xs)) ≡ false) [
      | true ↦ rw (f, not_among_passing p xs o fails) refl
      | false ↦ not_among_passing p xs o fails
    ])

-- the first of a list is in it, and so are those in the rest
pub first_among : (o : ℕ) (os : List ℕ) → is_among o (o ∷ os) ≡ true
first_among o os = let same : (o == o) ≡ true = grind (arith, nat_tests) in
    ap (λ b. b || is_among o os) same

pub later_among : (o x : ℕ) (os : List ℕ) → is_among o os ≡ true → is_among o (x ∷ os) ≡ true
later_among o x os among = ap (λ b. (x == o) || b) among ∙ always (x == o)
  where
    always : (b : Bool) → (b || true) ≡ true
    always true = refl
    always false = refl

-- each number from a on, below the end, is in the range
pub among_range : (a n o : ℕ) → a ≤ o → o < a + n → is_among o (range_with_len a n) ≡ true
among_range a zero o low less = absurd (omega arith)
among_range a (suc n) o low less = by_eq _ a o
    (λ t same. ap (λ b. b || is_among o (range_with_len (a + 1) n)) t)
    (λ f. ap (λ b. b || is_among o (range_with_len (a + 1) n)) f ∙ among_range (a + 1) n o
    (grind (arith, nat_tests)) (omega arith))

-- if none fails, each of them passes
pub none_fails : (p : ℕ → Bool) (xs : List ℕ) (o : ℕ) → list_any (λ x. not (p x)) xs ≡ false
    → is_among o xs ≡ true → p o ≡ true
none_fails p [] o none h = absurd (false≢true h)
none_fails p (x ∷ xs) o none h =
    let parts = or_parts (not (p x)) (list_any (λ x. not (p x)) xs) none in
    by_eq _ x o
    (λ t same. ap p (sym same) ∙ not-false (p x) parts.0)
    (λ f. none_fails p xs o parts.1 (sym (ap (λ b. b || is_among o xs) f) ∙ h))

-- the position where a test first passes, in a list with one more at the front
pub position_cons : {X : Type 0} (p : X → Bool) (x : X) (xs : List X)
    → position p (x ∷ xs) ≡ (if p x then Some zero else option_map suc (position p xs))
position_cons p x xs = elim (p x) as (λ b. p x ≡ b
    → position p (x ∷ xs) ≡ (if b then Some zero else option_map suc (position p xs))) [
      | true ↦ λ e. rw e (first (length xs))
      | false ↦ λ e. rw e (later (position_or_len p xs) (length xs))
    ] refl
  where
    first : (len : ℕ) → cond (nat_lt zero (suc len)) (Some zero) None ≡ Some zero
    first len = let same : nat_lt zero (suc len) ≡ true = grind (arith, nat_tests) in rw same refl

    later : (n len : ℕ) → cond (nat_lt (1 + n) (suc len)) (Some (1 + n)) None ≡ option_map suc
        (cond (nat_lt n len) (Some n) None)
    later n len = elim (nat_lt n len) as (λ b. nat_lt n len ≡ b
        → cond (nat_lt (1 + n) (suc len)) (Some (1 + n)) None ≡ option_map suc
        (cond b (Some n) None)) [
          | true ↦ λ e. let same : nat_lt (1 + n) (suc len) ≡ true = grind (arith, nat_tests) in
              rw same (ap Some (omega arith))
          | false ↦ λ e. let same : nat_lt (1 + n) (suc len) ≡ false = grind (arith, nat_tests) in
              rw same refl
        ] refl

pub eq_sym : (a b : ℕ) → nat_eq a b ≡ (b == a)
eq_sym a b = grind (arith, nat_tests)

-- a known thing is found by its own code
pub code_found : (S : Museum) (x : List ℕ) → is_known S x ≡ true
    → thing_code_of S (thing_no S x) ≡ Some x
code_found S x known = elim (find_thing S x) as (λ o. find_thing S x ≡ o → is_some o ≡ true
    → thing_code_of S (unwrap_or o (length S.things)) ≡ Some x) [
      | None ↦ λ e k. absurd (false≢true k)
      | Some i ↦ λ e k.
          let found = position-Some (bytes_eq x) (thing_codes S) i x e in
          slice_get-get_or (thing_codes S) i x found.0
          ∙ ap Some (sym ((bytes_eq-Decides x (get_or (thing_codes S) i x)).0 found.1))
    ] refl known

-- a number among those of known codes has one of these codes
pub among_codes : (S : Museum) (bad : List ℕ → Bool) (xs : List (List ℕ)) (o : ℕ)
    → list_any (λ x. not (is_known S x)) xs ≡ false → list_any bad xs ≡ false
    → is_among o (map (thing_no S) xs) ≡ true →
    (x : List ℕ) × (thing_code_of S o ≡ Some x) × (bad x ≡ false)
among_codes S bad [] o known fine h = absurd (false≢true h)
among_codes S bad (x ∷ xs) o known fine h =
    let knowns = or_parts (not (is_known S x)) (list_any (λ x. not (is_known S x)) xs) known in
    let fines = or_parts (bad x) (list_any bad xs) fine in
    by_eq _ (thing_no S x) o
    (λ t same. (
      x,
      ap (thing_code_of S) (sym same) ∙ code_found S x
          (not-false (is_known S x) knowns.0),
      fines.0,
    ))
    (λ f. among_codes S bad xs o knowns.1 fines.1
    (sym (ap (λ b. b || is_among o (map (thing_no S) xs)) f) ∙ h))
