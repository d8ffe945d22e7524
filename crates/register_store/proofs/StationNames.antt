-- The text of a station's name is ASCII, and needs no escapes.
use Rattle.std.specs.Prelude.{ℕ, ◌≡◌, ◌≤◌, ◌==◌, true, List, [], ◌∷◌, ◌++◌}
use Rattle.std.specs.Prelude.{nat_le, refl}
use Rattle.std.specs.Char.{is_ascii_digit, is_ascii_lowercase, is_ascii_uppercase}
use Rattle.std.specs.Int.{is_in_range}
use Rattle.std.specs.List.{list_all}
use Rattle.std.proofs.Common.{arith, ap₂, inl, inr}
use Rattle.std.proofs.lemmas.Bool.{and_parts, and_from, or_cases, eqb-true, lt-ltb, leb-true}
use Rattle.json.specs.Print.{escape}
use Rattle.json.proofs.Printed.Strings.{escape_byte_plain}
use Rattle.json.proofs.Printed.Utf8.{are_ascii}
use Rattle.nest_core.specs.StationName.{is_station_byte, is_station_name}

-- it is no quote, no backslash and no control byte
record IsPlain (b : ℕ) : Type 0 where
  low : 45 ≤ b
  high : b ≤ 122
  no_backslash : b ≡ 92 → ⊥

between : (lo hi b : ℕ) → is_in_range lo hi b ≡ true → (lo ≤ b) × (b ≤ hi)
between lo hi b h = let both = and_parts (nat_le lo b) (nat_le b hi) h in
    (leb-true lo b both.0, leb-true b hi both.1)

plain : (b : ℕ) → is_station_byte b ≡ true → IsPlain b
plain b h = elim (or_cases _ (b == 45) h) [
  | inl sign ↦ elim (or_cases _ (is_ascii_digit b) sign) [
    | inl letter ↦ elim (or_cases (is_ascii_uppercase b) (is_ascii_lowercase b) letter) [
      | inl upper ↦ let is = between 65 90 b upper in
          record { low = omega arith; high = omega arith; no_backslash = λ e. omega arith }
      | inr lower ↦ let is = between 97 122 b lower in
          record { low = omega arith; high = omega arith; no_backslash = λ e. omega arith }
    ]
    | inr digit ↦ let is = between 48 57 b digit in
        record { low = omega arith; high = omega arith; no_backslash = λ e. omega arith }
  ]
  | inr dash ↦ let is : b ≡ 45 = eqb-true b 45 dash in
      record { low = omega arith; high = omega arith; no_backslash = λ e. omega arith }
]

pub plain_text : (text : List ℕ) → list_all is_station_byte text ≡ true → escape text ≡ text
plain_text [] h = refl
plain_text (b ∷ bs) h =
    let both = and_parts (is_station_byte b) (list_all is_station_byte bs) h in
    let is = plain b both.0 in
    ap₂ (λ (xs ys : List ℕ). xs ++ ys)
    (escape_byte_plain b (λ e. omega (arith, is.low)) is.no_backslash (omega (arith, is.low)))
    (plain_text bs both.1)

pub ascii_text : (text : List ℕ) → list_all is_station_byte text ≡ true → are_ascii text ≡ true
ascii_text [] h = refl
ascii_text (b ∷ bs) h =
    let both = and_parts (is_station_byte b) (list_all is_station_byte bs) h in
    let is = plain b both.0 in
    and_from _ _ (lt-ltb b 128 (omega (arith, is.high))) (ascii_text bs both.1)

pub bytes_of_name : (text : List ℕ) → is_station_name text ≡ true
    → list_all is_station_byte text ≡ true
bytes_of_name text h = (and_parts _ (list_all is_station_byte text) h).1
