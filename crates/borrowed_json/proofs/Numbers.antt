-- How a number is read from a text of digits alone.
use Rattle.std.specs.Prelude.{◌≡◌, ℕ, ◌<◌, ◌^◌, ◌==◌, nat_lt, if◌then◌else◌, false, true, List, []}
use Rattle.std.specs.Prelude.{◌∷◌, ◌++◌, length, Some, None, refl, slice_index}
use Rattle.std.specs.Str.Parse.{IsNumeral, digits_value}
use Rattle.std.proofs.Common.{ap, ◌∙◌, sym, arith, append-nil}
use Rattle.std.proofs.lemmas.Bool.Decides.{nat_tests}
use Rattle.std.proofs.lemmas.Str.Parse.{digit_from_value}
use Rattle.fast_float.specs.Text.{Parts, scan, IsWellFormed}
use Rattle.fast_float.proofs.Writing.{scan-text_of}
use Rattle.serde_json.specs.Data.{unsigned}
use Rattle.serde_json.specs.Read.{number_of, number_from}

-- the parts of digits alone
abbrev digits : List ℕ → Parts
digits s = record {
  whole = s;
  point = false;
  fraction = [];
  exponent_negative = false;
  exponent = [];
  len = length s;
}

scan_digits : (s : List ℕ) → IsNumeral 10 s → scan s ≡ digits s
scan_digits s is =
    let formed : IsWellFormed (digits s) = record {
      whole_digits = is.1;
      fraction_digits = tt;
      exponent_digits = tt;
      no_point = λ e. refl;
      no_exponent = λ e. refl;
      len_is = ap length (sym (append-nil s));
    } in
    ap scan (sym (append-nil s)) ∙ scan-text_of (digits s) formed

no_minus : (s : List ℕ) → IsNumeral 10 s → (slice_index s 0 == 45) ≡ false
no_minus [] is = absurd (let none = is.0 in omega arith)
no_minus (d ∷ ds) is = let range = digit_from_value d is.1.0 in grind (arith, nat_tests)

pub digits_read : (s : List ℕ) (n : ℕ) → IsNumeral 10 s → n ≡ digits_value 10 s → n < 2 ^ 64
    → (if nat_lt n (2 ^ 64) then Some (unsigned n) else None) ≡ number_of s
unfolding number_of
digits_read s n is value less =
    let some : nat_lt 0 (length s) ≡ true = let long = is.0 in grind (arith, nat_tests) in
    let fits : nat_lt n (2 ^ 64) ≡ true = grind (arith, nat_tests) in
    let told : digits_value 10 (s ++ []) ≡ n = ap (digits_value 10) (append-nil s) ∙ sym value in
    let read : number_from false (scan s) ≡ number_of s = rw (no_minus s is) refl in
    let whole : number_from false (digits s) ≡ Some (unsigned n) = rw (some, told, fits) refl in
    rw fits (sym whole ∙ ap (number_from false) (sym (scan_digits s is)) ∙ read)
