-- A place's text, segment by segment.
use Rattle.std.specs.Prelude.{◌≡◌, ℕ, ◌+◌, ◌*◌, ◌<◌, ◌≤◌, ◌==◌, ◌&&◌, Bool, true, false, nat_le}
use Rattle.std.specs.Prelude.{nat_lt, nat_eq, cond, List, [], ◌∷◌, length, suc, zero, take, drop}
use Rattle.std.specs.Prelude.{Option, None, refl}
use Rattle.std.specs.List.{list_all}
use Rattle.std.specs.Bool.{then_some}
use Rattle.std.specs.Cmp.Lexicographic.{pointwise}
use Rattle.std.specs.Str.{bytes_eq}
use Rattle.std.proofs.Common.{arith, ap, sym, ◌∙◌}
use Rattle.std.proofs.lemmas.Bool.{and_parts, eqb-true, eqb-false, eq-eqb, ne_eqb, leb-true}
use Rattle.std.proofs.lemmas.Bool.{false≢true}
use Rattle.std.proofs.lemmas.Bool.Decides.{nat_tests}
use Rattle.std.proofs.Math.Bool.{and_assoc}
use Rattle.codes_core.specs.declared.fault.CodeFault.TheVariants.{BadNumber}
use Rattle.codes_core.specs.Grammar.{in_first, numbers_of}
use Rattle.codes_core.proofs.Parts.{front, rest, following, goes_on, parts-front, are_few-zero}
use Rattle.codes_core.proofs.Parts.{first_then, front_and_rest, ascii_parts}
use Rattle.codes_core.proofs.Texts.{no_fault, IsShort}
use Rattle.codes_core.specs.Place.{is_segment_byte, segments, is_segment, is_place_shape}
use Rattle.codes_core.specs.Place.{place_fault, lies_in, ends_segment}

-- the empty text lies in no place
empty-lies_in : (b : ℕ) (bs : List ℕ) → lies_in [] (b ∷ bs) ≡ false
empty-lies_in b bs =
    elim (b == 45) as (λ t. pointwise bytes_eq
    (cond t ([] ∷ segments bs) (in_first b (segments bs)))
    (take (length (cond t ([] ∷ segments bs) (in_first b (segments bs)))) ([] ∷ [])) ≡ false) [
      | true ↦ rw (parts-front 45 bs) refl
      | false ↦ rw (parts-front 45 bs) refl
    ]

-- the text begins with the other, up to the end of a segment
abbrev pub is_front : List ℕ → List ℕ → Bool
is_front place other = pointwise nat_eq (take (length other) place) other && ends_segment
    (drop (length other) place)

-- the segments begin with the others
abbrev from : List (List ℕ) → List (List ℕ) → Bool
from others all = pointwise bytes_eq others (take (length others) all)

eq_turned : (a b : ℕ) → b == a ≡ a == b
eq_turned a b = grind (arith, nat_tests)

-- one more byte in front of each text's first segment
both_in : (a b : ℕ) (s t : List ℕ) (ss ts : List (List ℕ)) (r : Bool) → from (t ∷ ts) (s ∷ ss) ≡ r
    → from ((b ∷ t) ∷ ts) ((a ∷ s) ∷ ss) ≡ a == b && r
both_in a b s t ss ts r h = and_assoc (b == a) (bytes_eq t s) (from ts ss) ∙ ap (λ u. (b == a) && u)
    h ∙ ap (λ u. u && r) (eq_turned a b)

-- a place lies in another exactly if its text begins with the other's, up to the end of a segment
pub lies_in_front : (place other : List ℕ) → lies_in place other ≡ is_front place other
lies_in_front [] [] = refl
lies_in_front (a ∷ place) [] =
    elim (a == 45) as (λ t. pointwise bytes_eq ([] ∷ [])
    (take 1 (cond t ([] ∷ segments place) (in_first a (segments place)))) ≡ t) [
      | true ↦ refl
      | false ↦ rw (parts-front 45 place) refl
    ]
lies_in_front [] (b ∷ other) = empty-lies_in b other
lies_in_front (a ∷ place) (b ∷ other) =
    elim (b == 45) as (λ t. b == 45 ≡ t
    → from (cond t ([] ∷ segments other) (in_first b (segments other))) (segments (a ∷ place))
    ≡ is_front (a ∷ place) (b ∷ other)) [
      | true ↦ λ f. let dash = eqb-true b 45 f in
          elim (a == 45) as (λ t. a == 45 ≡ t
          → from ([] ∷ segments other) (cond t ([] ∷ segments place) (in_first a (segments place)))
          ≡ is_front (a ∷ place) (b ∷ other)) [
            | true ↦ λ e. let first = eqb-true a 45 e in
                rw (eq-eqb a b (first ∙ sym dash)) (lies_in_front place other)
            | false ↦ λ e.
                rw (parts-front 45 place, ne_eqb a b (λ h. eqb-false a 45 e (h ∙ dash))) refl
          ] refl
      | false ↦ λ f. elim (a == 45) as (λ t. a == 45 ≡ t
          → from (in_first b (segments other))
          (cond t ([] ∷ segments place) (in_first a (segments place))) ≡ is_front (a ∷ place)
          (b ∷ other)) [
            | true ↦ λ e. let first = eqb-true a 45 e in
                rw (parts-front 45 other, ne_eqb a b (λ h. eqb-false b 45 f (sym h ∙ first))) refl
            | false ↦ λ e. rw (parts-front 45 place, parts-front 45 other)
                (both_in a b (front 45 place) (front 45 other) (following 45 (rest 45 place))
                (following 45 (rest 45 other)) (is_front place other)
                (rw (parts-front 45 place, parts-front 45 other) at (lies_in_front place other))
                ∙ sym (and_assoc (a == b) (pointwise nat_eq (take (length other) place) other)
                (ends_segment (drop (length other) place))))
          ] refl
    ] refl

-- the same, by the text after the other's
pub lies_in_behind : (place other behind : List ℕ)
    → pointwise nat_eq (take (length other) place) other ≡ true → behind ≡ drop (length other) place
    → lies_in place other ≡ ends_segment behind
lies_in_behind place other behind starts follows =
    lies_in_front place other ∙ ap (λ t. t && ends_segment (drop (length other) place)) starts
    ∙ sym (ap ends_segment follows)

segment_length : (s : List ℕ) → is_segment s ≡ true → length s ≤ 8
segment_length s e =
    let sized : (nat_lt 0 (length s) && nat_le (length s) 8) ≡ true =
    (and_parts _ (list_all is_segment_byte s) e).0 in
    leb-true (length s) 8 (and_parts (nat_lt 0 (length s)) _ sized).1

segment_more : (n : ℕ) → ((bs : List ℕ) → is_place_shape n bs ≡ true → length bs + 1 ≤ 9 * n)
    → (bs : List ℕ) → goes_on is_segment 45 n bs ≡ true → length bs ≤ 9 * n
segment_more n shorter [] h = omega arith
segment_more n shorter (b ∷ bs) h = omega (arith, shorter bs h)

-- a text of so few segments is short
place_length : (n : ℕ) (text : List ℕ) → is_place_shape n text ≡ true → length text + 1 ≤ 9 * n
place_length zero text h = absurd (false≢true (sym (are_few-zero is_segment 45 zero text refl) ∙ h))
place_length (suc n) text h =
    let both : (is_segment (front 45 text) ≡ true)
    × (goes_on is_segment 45 n (rest 45 text) ≡ true) =
    and_parts _ _ (sym (first_then is_segment 45 n text) ∙ h) in
    omega (
      arith,
      segment_length (front 45 text) both.0,
      front_and_rest 45 text,
      segment_more n (place_length n) (rest 45 text) both.1,
    )

are_plain : (ss : List (List ℕ)) → list_all is_segment ss ≡ true
    → list_all (list_all is_segment_byte) ss ≡ true
are_plain [] h = refl
are_plain (s ∷ ss) h =
    let both : (is_segment s ≡ true) × (list_all is_segment ss ≡ true) = and_parts _ _ h in
    let plain : list_all is_segment_byte s ≡ true = (and_parts _ _ both.0).1 in
    rw (plain, are_plain ss both.1) refl

segment_ascii : (b : ℕ) → is_segment_byte b ≡ true → b < 128
segment_ascii b h = grind (arith, nat_tests)

-- a place's code has at most 35 bytes
pub place_told : (numbers : Option Bool) (shape : Bool) (bs : List ℕ)
    → numbers ≡ then_some shape true → shape ≡ is_place_shape 4 bs
    → numbers ≡ numbers_of (is_place_shape 4 bs) true
place_told numbers shape bs n s = n ∙ (elim shape as (λ t. then_some t true ≡ numbers_of t true) [
  | true ↦ refl
  | false ↦ refl
]) ∙ ap (λ t. numbers_of t true) s

pub place_text : (bs : List ℕ) → place_fault bs ≡ None → IsShort 35 bs
place_text bs none =
    let is : is_place_shape 4 bs ≡ true =
    (no_fault BadNumber (is_place_shape 4 bs) true bs none).0 in
    let few : length bs + 1 ≤ 9 * 4 = place_length 4 bs is in
    record {
      ascii = ascii_parts 45 is_segment_byte (omega arith) segment_ascii bs
          (are_plain (segments bs) (and_parts _ _ is).1);
      short = omega arith;
    }
