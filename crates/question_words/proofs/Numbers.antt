-- The numbers that `parse` reads are those that a text of digits spells.
use Rattle.std.specs.Prelude.{◌≡◌, ℕ, ◌+◌, ◌-◌, ◌*◌, ◌<◌, ◌^◌, List}
use Rattle.std.specs.Prelude.{◌∷◌, Bool, None, Some, false, fold, length, nat_lt, refl, true}
use Rattle.std.specs.Borrow.{Bor}
use Rattle.std.specs.Char.{is_ascii_digit}
use Rattle.std.specs.Int.{IsInRange}
use Rattle.std.specs.List.{list_all}
use Rattle.std.specs.Str.Parse.{IsNumeral, digits_value, without_leading_plus}
use Rattle.std.proofs.Common.{ap, arith, sym, ◌∙◌}
use Rattle.std.proofs.lemmas.Bool.Decides.{nat_tests}
use Rattle.std.proofs.lemmas.Str.Parse.{FoldsDigits, IsDigitsTest, IsNumeralModel}
use Rattle.std.proofs.lemmas.Str.Parse.{numerals_by_fold}
use Rattle.codes_core.specs.Grammar.{is_digits, number_of}
use Rattle.question_words.specs.Values.{faulty_number, is_number, number_in}
use Rattle.question_words.specs.declared.fault.ValueFault.TheVariants.{Number}

head_digit : (c : ℕ) (cs : List ℕ) → list_all is_ascii_digit (c ∷ cs) ≡ true
    → IsInRange 48 57 c × (list_all is_ascii_digit cs ≡ true)
head_digit c cs h = grind (arith, nat_tests)

one_more : (c : ℕ) (cs : List ℕ) → IsInRange 48 57 c → list_all is_ascii_digit cs ≡ true
    → list_all is_ascii_digit (c ∷ cs) ≡ true
one_more c cs range h = grind (arith, nat_tests)

test : IsDigitsTest (λ ds. list_all is_ascii_digit ds ≡ true)
test = record { empty = refl; parts = head_digit; more = one_more }

abbrev with_digit : ℕ → ℕ → ℕ
with_digit n d = 10 * n + (d - 48)

folds : FoldsDigits (fold with_digit)
folds = record {
  empty = λ n. refl;
  more = λ n c cs range. ap (λ m. fold with_digit m cs) (turned n (c - 48));
}
  where
    turned : (n d : ℕ) → 10 * n + d ≡ n * 10 + d
    turned n d = omega arith

model : IsNumeralModel (λ ds. list_all is_ascii_digit ds ≡ true) number_of
model = numerals_by_fold _ test (fold with_digit) folds

digits_of : (text : List ℕ) → IsNumeral 10 text → is_digits text ≡ true
digits_of text numeral =
    let all : list_all is_ascii_digit text ≡ true = model.from text numeral.1 in
    let long = numeral.0 in
    grind (arith, nat_tests)

numeral_of : (text : List ℕ) → is_digits text ≡ true → IsNumeral 10 text
numeral_of text h =
    let parts : (0 < length text) × (list_all is_ascii_digit text ≡ true) =
    grind (arith, nat_tests) in
    (parts.0, model.to text parts.1)

-- a number that is read is the one that the text spells
pub read : (text : Bor (List ℕ)) (n : ℕ) → IsNumeral 10 (without_leading_plus text.now)
    → digits_value 10 (without_leading_plus text.now) < 2 ^ 64
    → n ≡ digits_value 10 (without_leading_plus text.now)
    → (n ≡ number_in text.now) × (faulty_number text ≡ None)
read text n numeral fits is =
    let same : number_in text.now ≡ digits_value 10 (without_leading_plus text.now) =
    model.same (without_leading_plus text.now) numeral.1 in
    let shape : is_digits (without_leading_plus text.now) ≡ true =
    digits_of (without_leading_plus text.now) numeral in
    let small : nat_lt (number_in text.now) (2 ^ 64) ≡ true = grind (arith, nat_tests) in
    (is ∙ sym same, rw (shape, small) refl)

-- a text that isn't read spells no number
pub refused : (text : Bor (List ℕ))
    → (IsNumeral 10 (without_leading_plus text.now)
    × (digits_value 10 (without_leading_plus text.now) < 2 ^ 64) → ⊥)
    → faulty_number text ≡ Some (Number text)
refused text none = by_test (is_number text.now) refl
  where
    by_test : (b : Bool) → is_number text.now ≡ b → faulty_number text ≡ Some (Number text)
    by_test false is = rw is refl
    by_test true is =
        let parts : (is_digits (without_leading_plus text.now) ≡ true)
        × (number_in text.now < 2 ^ 64) = grind (arith, nat_tests) in
        let numeral : IsNumeral 10 (without_leading_plus text.now) =
        numeral_of (without_leading_plus text.now) parts.0 in
        let same : number_in text.now ≡ digits_value 10 (without_leading_plus text.now) =
        model.same (without_leading_plus text.now) numeral.1 in
        absurd (none (numeral, (let fits = parts.1 in omega arith)))
