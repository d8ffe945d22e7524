-- The texts of codes are short and ASCII.
use Rattle.std.specs.Prelude.{◌≡◌, ℕ, ◌+◌, ◌-◌, ◌*◌, ◌<◌, ◌≤◌, ◌==◌, ◌&&◌, Bool, true, false}
use Rattle.std.specs.Prelude.{nat_lt, nat_le, not, cond, List, [], ◌∷◌, length, suc, nat_eq, take}
use Rattle.std.specs.Prelude.{drop, slice_index, refl, None, ◌||◌, codes}
use Rattle.std.proofs.Common.{arith, inl, inr, length-drop, subst, sym}
use Rattle.std.proofs.lemmas.Bool.{and_parts, or_cases, eqb-true, leb-true, false≢true}
use Rattle.std.proofs.lemmas.Bool.Decides.{nat_tests}
use Rattle.std.proofs.lemmas.List.{take-append-drop, length-take-le}
use Rattle.std.proofs.Math.Seq.{drop-cons}
use Rattle.std.proofs.lemmas.List.Sums.{take_while-cons}
use Rattle.std.proofs.lemmas.Str.{IsAscii-append}
use Rattle.std.proofs.lemmas.Str.Ascii.{IsAscii-nil, IsAscii-cons}
use Rattle.std.specs.Str.{IsAscii}
use Rattle.std.specs.List.{starts_with, list_all}
use Rattle.std.specs.Char.{is_ascii_digit, is_ascii_lowercase}
use Rattle.codes_core.specs.declared.fault.CodeFault.{CodeFault}
use Rattle.codes_core.specs.declared.fault.CodeFault.TheVariants.{BadNumber}
use Rattle.codes_core.specs.Grammar.{is_digits, is_right_number, is_year, are_few, groups}
use Rattle.codes_core.specs.Grammar.{are_groups, has_right_groups, code_fault}
use Rattle.codes_core.proofs.Parts.{is_plain, front, rest, following, parts-front, ascii_parts}
use Rattle.codes_core.specs.Loan.{is_out, is_loan_shape, has_loan_number, loan_fault}
use Rattle.codes_core.specs.Thing.{without_letter, is_object_shape, has_object_numbers}
use Rattle.codes_core.specs.Thing.{is_thing_shape, has_thing_numbers, thing_fault}

-- a text of at most n bytes of ASCII
pub record IsShort (n : ℕ) (text : List ℕ) : Type 0 where
  pub ascii : IsAscii text
  pub short : length text ≤ n

-- bytes that pass a test that only ASCII passes
pub ascii_all : (p : ℕ → Bool) (bs : List ℕ) → ((b : ℕ) → p b ≡ true → b < 128)
    → list_all p bs ≡ true → IsAscii bs
ascii_all p [] only h = IsAscii-nil
ascii_all p (b ∷ bs) only h = let both = and_parts _ _ h in
    IsAscii-cons b bs (only b both.0) (ascii_all p bs only both.1)

pub digit_ascii : (b : ℕ) → is_ascii_digit b ≡ true → b < 128
digit_ascii b h = grind (arith, nat_tests)

pub letter_ascii : (b : ℕ) → is_ascii_lowercase b ≡ true → b < 128
letter_ascii b h = grind (arith, nat_tests)

pub one_more : (n k b : ℕ) (bs : List ℕ) → b < 128 → IsShort n bs → n + 1 ≤ k → IsShort k (b ∷ bs)
one_more n k b bs h rest fits =
    record { ascii = IsAscii-cons b bs h rest.ascii; short = omega arith }

pub number_short : (ds : List ℕ) → is_right_number ds ≡ true → length ds ≤ 6
number_short ds h = leb-true (length ds) 6 (and_parts _ _ h).0

pub digits_short : (bs : List ℕ) → is_digits bs ≡ true → is_right_number bs ≡ true → IsShort 6 bs
digits_short bs digits right =
    record {
      ascii = ascii_all is_ascii_digit bs digit_ascii (and_parts _ _ digits).1;
      short = number_short bs right;
    }

longer : (n k : ℕ) (bs : List ℕ) → IsShort n bs → n ≤ k → IsShort k bs
longer n k bs h fits = record { ascii = h.ascii; short = omega arith }

digit_groups : (gs : List (List ℕ)) → list_all is_digits gs ≡ true
    → list_all (list_all is_ascii_digit) gs ≡ true
digit_groups [] h = refl
digit_groups (g ∷ gs) h =
    let both : (is_digits g ≡ true) × (list_all is_digits gs ≡ true) = and_parts _ _ h in
    let digits : list_all is_ascii_digit g ≡ true = (and_parts _ _ both.0).1 in
    rw (digits, digit_groups gs both.1) refl

-- valid numbers after the first group keep the text short
groups_length : (bs : List ℕ) → list_all is_right_number (following 46 (rest 46 bs)) ≡ true
    → length bs ≤ length (front 46 bs) + 7 * length (following 46 (rest 46 bs))
groups_length [] h = omega arith
groups_length (b ∷ bs) h =
    rw (take_while-cons (is_plain 46) b bs)
    (elim (b == 46) as (λ t. list_all is_right_number
    (following 46 (drop (length (cond (not t) (b ∷ front 46 bs) [])) (b ∷ bs))) ≡ true
    → suc (length bs) ≤ length (cond (not t) (b ∷ front 46 bs) []) + 7 * length
    (following 46 (drop (length (cond (not t) (b ∷ front 46 bs) [])) (b ∷ bs)))) [
      | true ↦ λ r. let split : list_all is_right_number (front 46 bs ∷ following 46 (rest 46 bs))
          ≡ true = rw (parts-front 46 bs) at r in
          let both : (is_right_number (front 46 bs) ≡ true)
          × (list_all is_right_number (following 46 (rest 46 bs)) ≡ true) =
          and_parts _ _ split in
          rw (parts-front 46 bs) (omega (
            arith,
            groups_length bs both.1,
            number_short (front 46 bs) both.0,
          ))
      | false ↦ λ r. omega (arith, groups_length bs r)
    ] (rw (take_while-cons (is_plain 46) b bs) at h))

-- four digits and at most n valid numbers
groups_short : (n : ℕ) (bs : List ℕ) → are_groups n (groups bs) ≡ true
    → has_right_groups (groups bs) ≡ true → IsShort (4 + 7 * n) bs
groups_short n bs shape right =
    let told : are_groups n (front 46 bs ∷ following 46 (rest 46 bs)) ≡ true =
    rw (parts-front 46 bs) at shape in
    let numbers : list_all is_right_number (following 46 (rest 46 bs)) ≡ true =
    rw (parts-front 46 bs) at right in
    let split = and_parts (is_year (front 46 bs)) _ told in
    let four = and_parts (length (front 46 bs) == 4) (is_digits (front 46 bs)) split.0 in
    let behind = and_parts (nat_lt 0 (length (following 46 (rest 46 bs))))
    (are_few is_digits n (following 46 (rest 46 bs))) split.1 in
    let few = and_parts (nat_le (length (following 46 (rest 46 bs))) n)
    (list_all is_digits (following 46 (rest 46 bs))) behind.1 in
    let length_is : length (front 46 bs) ≡ 4 = eqb-true (length (front 46 bs)) 4 four.0 in
    let count : length (following 46 (rest 46 bs)) ≤ n = leb-true _ n few.0 in
    let digits : list_all is_digits (groups bs) ≡ true =
    rw (parts-front 46 bs, four.1, few.1) refl in
    record {
      ascii = ascii_parts 46 is_ascii_digit (omega arith) digit_ascii bs
          (digit_groups (groups bs) digits);
      short = omega (arith, groups_length bs numbers);
    }

no_bytes : (bs : List ℕ) → length bs ≡ 0 → IsAscii bs
no_bytes [] h = IsAscii-nil
no_bytes (b ∷ bs) h = absurd (omega arith)

-- a text of k bytes and a letter
letter_last : (n k : ℕ) (bs : List ℕ) → length bs ≡ k + 1
    → is_ascii_lowercase (slice_index bs k) ≡ true → IsShort n (take k bs) → IsShort (n + 1) bs
letter_last n k bs sized e h =
    let last : drop k bs ≡ slice_index bs k ∷ drop (suc k) bs = drop-cons bs k 0 (omega arith) in
    let behind : IsAscii (drop (suc k) bs) =
    no_bytes (drop (suc k) bs) (omega (arith, length-drop (suc k) bs)) in
    let letter : IsAscii (drop k bs) =
    subst IsAscii (sym last) (IsAscii-cons (slice_index bs k) (drop (suc k) bs)
    (letter_ascii (slice_index bs k) e) behind) in
    let shorter : length (take k bs) ≡ k = length-take-le k bs (omega arith) in
    record {
      ascii = subst IsAscii (take-append-drop k bs)
          (IsAscii-append (take k bs) (drop k bs) h.ascii letter);
      short = omega (arith, shorter, h.short);
    }

letter_of : (n : ℕ) (bs : List ℕ) → is_ascii_lowercase (slice_index bs (length bs - 1)) ≡ true
    → IsShort n (take (length bs - 1) bs) → IsShort (n + 1) bs
letter_of n [] e h = record { ascii = IsAscii-nil; short = omega arith }
letter_of n (b ∷ bs) e h =
    let less : length (b ∷ bs) - 1 ≡ length bs = omega arith in
    letter_last n (length bs) (b ∷ bs) (omega arith) (rw less at e) (rw less at h)

letter_short : (n : ℕ) (bs : List ℕ) → IsShort n (without_letter bs) → IsShort (n + 1) bs
letter_short n bs = elim (is_ascii_lowercase (slice_index bs (length bs - 1))) as
    (λ t. is_ascii_lowercase (slice_index bs (length bs - 1)) ≡ t
    → IsShort n (cond t (take (length bs - 1) bs) bs) → IsShort (n + 1) bs) [
      | true ↦ λ e h. letter_of n bs e h
      | false ↦ λ e h. longer n (n + 1) bs h (omega arith)
    ] refl

object_short : (bs : List ℕ) → is_object_shape bs ≡ true → has_object_numbers bs ≡ true
    → IsShort 26 bs
object_short bs shape right = letter_short 25 bs (groups_short 3 (without_letter bs) shape right)

thing_short : (bs : List ℕ) → is_thing_shape bs ≡ true → has_thing_numbers bs ≡ true → IsShort 27 bs
thing_short [] shape right = absurd (cc)
thing_short (b ∷ bs) shape right =
    elim (b == 67) as (λ t. b == 67 ≡ t
    → cond t (is_digits bs) (cond (b == 76) (is_object_shape bs) (is_object_shape (b ∷ bs)))
    ≡ true → cond t (is_right_number bs)
    (cond (b == 76) (has_object_numbers bs) (has_object_numbers (b ∷ bs))) ≡ true
    → IsShort 27 (b ∷ bs)) [
      | true ↦ λ e s r. let c = eqb-true b 67 e in
          one_more 6 27 b bs (omega arith) (digits_short bs s r) (omega arith)
      | false ↦ λ e s r. elim (b == 76) as (λ t. b == 76 ≡ t
          → cond t (is_object_shape bs) (is_object_shape (b ∷ bs)) ≡ true
          → cond t (has_object_numbers bs) (has_object_numbers (b ∷ bs)) ≡ true
          → IsShort 27 (b ∷ bs)) [
            | true ↦ λ f s' r'. let l = eqb-true b 76 f in
                one_more 26 27 b bs (omega arith) (object_short bs s' r') (omega arith)
            | false ↦ λ f s' r'. longer 26 27 (b ∷ bs) (object_short (b ∷ bs) s' r') (omega arith)
          ] refl s r
    ] refl shape right

-- a text without a fault has its code's shape and valid numbers
pub no_fault : (last : CodeFault) (shape right : Bool) (bs : List ℕ)
    → code_fault last shape right bs ≡ None → (shape ≡ true) × (right ≡ true)
no_fault last true true bs h = (refl, refl)
no_fault last true false [] h = absurd (cc)
no_fault last true false (b ∷ bs) h = absurd (cc)
no_fault last false right [] h = absurd (cc)
no_fault last false right (b ∷ bs) h = absurd (cc)

-- LO or LI at the front
front_two : (bs : List ℕ) (b c : ℕ) → b < 128 → c < 128 → starts_with nat_eq bs (b ∷ c ∷ []) ≡ true
    → IsShort 11 (drop 2 bs) → IsShort 13 bs
front_two [] b c hb hc h rest = absurd (cc)
front_two (x ∷ []) b c hb hc h rest =
    let both = and_parts (b == x) _ h in absurd (false≢true both.1)
front_two (x ∷ y ∷ bs) b c hb hc h rest =
    let both : (b == x ≡ true) × ((c == y) && true ≡ true) = and_parts _ _ h in
    let first = eqb-true b x both.0 in
    let second = eqb-true c y (and_parts _ _ both.1).0 in
    one_more 12 13 x (y ∷ bs) (omega arith) (one_more 11 12 y bs (omega arith) rest (omega arith))
    (omega arith)

loan_short : (bs : List ℕ) → is_loan_shape bs ≡ true → has_loan_number bs ≡ true → IsShort 13 bs
loan_short bs shape right =
    let front : (is_out bs || starts_with nat_eq bs (codes "LI") ≡ true)
    × (are_groups 1 (groups (drop 2 bs)) ≡ true) = and_parts _ _ shape in
    let behind : IsShort 11 (drop 2 bs) = groups_short 1 (drop 2 bs) front.1 right in
    elim (or_cases (is_out bs) (starts_with nat_eq bs (codes "LI")) front.0) [
      | inl out ↦ front_two bs 76 79 (omega arith) (omega arith) out behind
      | inr loan_in ↦ front_two bs 76 73 (omega arith) (omega arith) loan_in behind
    ]

-- a thing's code has at most 27 bytes
pub thing_text : (bs : List ℕ) → thing_fault bs ≡ None → IsShort 27 bs
thing_text bs none = let is = no_fault BadNumber (is_thing_shape bs) (has_thing_numbers bs) bs none
    in thing_short bs is.0 is.1

-- a loan's code has at most 13 bytes
pub loan_text : (bs : List ℕ) → loan_fault bs ≡ None → IsShort 13 bs
loan_text bs none = let is = no_fault BadNumber (is_loan_shape bs) (has_loan_number bs) bs none in
    loan_short bs is.0 is.1
