-- The whole number that a text begins with.
use Rattle.std.proofs.Common.{◌≡◌, ℕ, zero, suc, ◌<◌, ◌^◌, ◌==◌, nat_lt}
use Rattle.std.proofs.Common.{true, false, List, [], ◌∷◌, ◌++◌, length}
use Rattle.std.proofs.Common.{Some, refl, sym, ap, ◌∙◌, subst, arith, append-nil}
use Rattle.std.specs.Prelude.{slice_index}
use Rattle.std.specs.List.{prefix_len}
use Rattle.std.specs.Char.{is_ascii_digit}
use Rattle.std.specs.Str.{IsUtf8, IsCharBoundary}
use Rattle.std.specs.Str.Parse.{IsNumeral, digits_value}
use Rattle.std.proofs.lemmas.Bool.{and_parts, leb-true}
use Rattle.std.proofs.lemmas.Bool.Decides.{nat_tests}
use Rattle.std.proofs.lemmas.List.Sums.{prefix_len-le-length, prefix_len_passes}
use Rattle.std.proofs.lemmas.Str.{IsCharBoundary-start, IsCharBoundary-after_ascii}
use Rattle.std.proofs.lemmas.Str.Parse.{digit_from_value}
use Rattle.fast_float.specs.Text.{Parts, scan, IsWellFormed}
use Rattle.fast_float.proofs.Writing.{scan-text_of}
use Rattle.json.specs.Token.{number}
use Rattle.json.specs.Word.{ends_word}
use Rattle.json.specs.Print.{IsNumber}
use Rattle.json.specs.Lex.{token, between, lex}
use Rattle.json.proofs.Printed.Numbers.{lex-number}
use Rattle.serde_json.specs.Data.{unsigned}
use Rattle.serde_json.specs.Read.{number_of, number_from}
use Rattle.borrowed_json.specs.Steps.{Takes}
use Rattle.borrowed_json.proofs.Lexemes.{taken}

-- the parts of digits alone
abbrev digits : List ℕ → Parts
digits s = record {
  whole = s;
  point = false;
  fraction = [];
  exponent_negative = false;
  exponent = [];
  len = length s;
}

scan_digits : (s : List ℕ) → IsNumeral 10 s → scan s ≡ digits s
scan_digits s is =
    let formed : IsWellFormed (digits s) = record {
      whole_digits = is.1;
      fraction_digits = tt;
      exponent_digits = tt;
      no_point = λ e. refl;
      no_exponent = λ e. refl;
      len_is = ap length (sym (append-nil s));
    } in
    ap scan (sym (append-nil s)) ∙ scan-text_of (digits s) formed

no_minus : (s : List ℕ) → IsNumeral 10 s → (slice_index s 0 == 45) ≡ false
no_minus [] is = absurd (let none = is.0 in omega arith)
no_minus (d ∷ ds) is = let range = digit_from_value d is.1.0 in grind (arith, nat_tests)

pub digits_read : (s : List ℕ) (n : ℕ) → IsNumeral 10 s → n ≡ digits_value 10 s
    → n < 2 ^ 64
    → number_of s ≡ Some (unsigned n)
unfolding number_of
digits_read s n is value less =
    let some : nat_lt 0 (length s) ≡ true = let long = is.0 in grind (arith, nat_tests) in
    let fits : nat_lt n (2 ^ 64) ≡ true = grind (arith, nat_tests) in
    let told : digits_value 10 (s ++ []) ≡ n = ap (digits_value 10) (append-nil s)
    ∙ sym value in
    let read : number_from false (scan s) ≡ number_of s = rw (no_minus s is) refl in
    let whole : number_from false (digits s) ≡ Some (unsigned n) = rw (some, told, fits) refl in
    sym (sym whole ∙ ap (number_from false) (sym (scan_digits s is)) ∙ read)

pub takes_number : (t s rest : List ℕ) → t ≡ s ++ rest → IsNumeral 10 s → IsNumber s
    → ends_word rest ≡ true → Takes t (token (number s)) rest
takes_number t s rest parts is numbered ended =
    taken t s rest (token (number s)) parts is.0
    (ap (lex between) parts ∙ lex-number s rest numbered ended)

low : (x : ℕ) → is_ascii_digit x ≡ true → x < 128
low x h = omega (arith, leb-true x 57 (and_parts _ _ h).1)

pub digits_boundary : (t : List ℕ) → IsUtf8 t → IsCharBoundary t (prefix_len is_ascii_digit t)
digits_boundary t utf8 = at (prefix_len is_ascii_digit t) refl
  where
    at : (n : ℕ) → n ≡ prefix_len is_ascii_digit t → IsCharBoundary t n
    at zero e = IsCharBoundary-start t utf8
    at (suc n) e =
        let within = prefix_len-le-length is_ascii_digit t in
        let passes = prefix_len_passes is_ascii_digit t n 0 (omega (arith, e)) in
        subst (IsCharBoundary t) (omega arith)
        (IsCharBoundary-after_ascii t n utf8 (omega (arith, e, within)) (low _ passes))
