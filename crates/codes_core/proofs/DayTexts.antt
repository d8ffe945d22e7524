-- A day's text and its year, month and date determine each other.
use Rattle.std.specs.Prelude.{◌≡◌, ℕ, ◌+◌, ◌-◌, ◌*◌, ◌/◌, ◌%◌, ◌<◌, ◌≤◌, ◌==◌, ◌&&◌, Bool, true}
use Rattle.std.specs.Prelude.{false, List, [], ◌∷◌, ◌++◌, length, take, drop, slice_index}
use Rattle.std.specs.Prelude.{slice_range, refl}
use Rattle.std.specs.List.{list_all}
use Rattle.std.specs.Char.{is_ascii_digit}
use Rattle.std.proofs.Common.{arith, subst, ap, sym, ◌∙◌}
use Rattle.std.proofs.lemmas.Bool.{and_parts, eqb-true}
use Rattle.std.proofs.lemmas.Bool.Decides.{nat_tests}
use Rattle.std.proofs.lemmas.Slice.Eq.{text_from_reads}
use Rattle.codes_core.specs.Day.{is_day_shape, year_of, month_of, date_of, two_digits, date_text}

digit_ok : (n : ℕ) → is_ascii_digit (48 + n % 10) ≡ true
digit_ok n = let small : n % 10 < 10 = omega arith in grind (arith, nat_tests)

pub text_shape : (y m d : ℕ) → is_day_shape (date_text y m d) ≡ true
text_shape y m d = rw (
  digit_ok (y / 100 / 10),
  digit_ok (y / 100),
  digit_ok (y / 10),
  digit_ok y,
  digit_ok (m / 10),
  digit_ok m,
  digit_ok (d / 10),
  digit_ok d,
) refl

pub year_back : (y m d : ℕ) → y ≤ 9999 → year_of (date_text y m d) ≡ y
year_back y m d h = omega arith

pub month_back : (y m d : ℕ) → m ≤ 99 → month_of (date_text y m d) ≡ m
month_back y m d h = omega arith

pub date_back : (y m d : ℕ) → d ≤ 99 → date_of (date_text y m d) ≡ d
date_back y m d h = omega arith

abbrev spread : List ℕ → List ℕ
spread t = slice_index t 0 ∷ slice_index t 1 ∷ slice_index t 2 ∷ slice_index t 3 ∷ slice_index t 4
    ∷ slice_index t 5 ∷ slice_index t 6 ∷ slice_index t 7 ∷ slice_index t 8 ∷ slice_index t 9 ∷ []

spread_is : (t : List ℕ) → length t ≡ 10 → t ≡ spread t
spread_is t ten = text_from_reads t (spread t) ten
    (refl, (refl, (refl, (refl, (refl, (refl, (refl, (refl, (refl, (refl, tt))))))))))

is_digit : (b : ℕ) → is_ascii_digit b ≡ true → (48 ≤ b) × (b ≤ 57)
is_digit b h = grind (arith, nat_tests)

-- four digits, or two, follow from the number that they spell
pair_back : (a b : ℕ) → (48 ≤ a) × (a ≤ 57) → (48 ≤ b) × (b ≤ 57)
    → two_digits (10 * (10 * 0 + (a - 48)) + (b - 48)) ≡ a ∷ b ∷ []
pair_back a b ha hb =
    let tens : 48 + (10 * (10 * 0 + (a - 48)) + (b - 48)) / 10 % 10 ≡ a = omega arith in
    let ones : 48 + (10 * (10 * 0 + (a - 48)) + (b - 48)) % 10 ≡ b = omega arith in
    rw (tens, ones) refl

abbrev year_number : ℕ → ℕ → ℕ → ℕ → ℕ
year_number a b c d = 10 * (10 * (10 * (10 * 0 + (a - 48)) + (b - 48)) + (c - 48)) + (d - 48)

year_digits : (a b c d : ℕ) → (48 ≤ a) × (a ≤ 57) → (48 ≤ b) × (b ≤ 57) → (48 ≤ c) × (c ≤ 57)
    → (48 ≤ d) × (d ≤ 57) →
    two_digits (year_number a b c d / 100) ++ two_digits (year_number a b c d) ≡ a ∷ b ∷ c ∷ d ∷ []
year_digits a b c d ha hb hc hd =
    let first : 48 + year_number a b c d / 100 / 10 % 10 ≡ a = omega arith in
    let second : 48 + year_number a b c d / 100 % 10 ≡ b = omega arith in
    let third : 48 + year_number a b c d / 10 % 10 ≡ c = omega arith in
    let fourth : 48 + year_number a b c d % 10 ≡ d = omega arith in
    rw (first, second, third, fourth) refl

abbrev day_bytes : ℕ → ℕ → ℕ → ℕ → ℕ → ℕ → ℕ → ℕ → ℕ → ℕ → List ℕ
day_bytes a b c d h e f i g j = a ∷ b ∷ c ∷ d ∷ h ∷ e ∷ f ∷ i ∷ g ∷ j ∷ []

abbrev pub text_at : List ℕ → List ℕ
text_at t = date_text (year_of t) (month_of t) (date_of t)

abbrev joined : List ℕ → List ℕ → List ℕ → List ℕ
joined year month date = year ++ 45 ∷ month ++ 45 ∷ date

two_parts : (a b : ℕ) → list_all is_ascii_digit (a ∷ b ∷ []) ≡ true → ((48 ≤ a) × (a ≤ 57))
    × ((48 ≤ b) × (b ≤ 57))
two_parts a b h =
    let ha = and_parts _ _ h in
    let hb = and_parts _ _ ha.1 in
    (is_digit a ha.0, is_digit b hb.0)

-- the parts of a text with the shape of a day
pub record DayParts (t : List ℕ) : Type 0 where
  pub ten : length t ≡ 10
  pub year : list_all is_ascii_digit (take 4 t) ≡ true
  pub first_dash : slice_index t 4 ≡ 45
  pub month : list_all is_ascii_digit (slice_range t 5 7) ≡ true
  pub second_dash : slice_index t 7 ≡ 45
  pub date : list_all is_ascii_digit (drop 8 t) ≡ true

pub day_parts : (t : List ℕ) → is_day_shape t ≡ true → DayParts t
day_parts t shape =
    parts (length t == 10) (list_all is_ascii_digit (take 4 t)) (slice_index t 4 == 45)
    (list_all is_ascii_digit (slice_range t 5 7)) (slice_index t 7 == 45)
    (list_all is_ascii_digit (drop 8 t)) shape
    (λ a b c d e f. record {
      ten = eqb-true (length t) 10 a;
      year = b;
      first_dash = eqb-true (slice_index t 4) 45 c;
      month = d;
      second_dash =
          eqb-true (slice_index t 7) 45 e;
      date = f;
    })
  where
    parts : {X : Type 0} (a b c d e f : Bool) → a && b && c && d && e && f ≡ true
        → (a ≡ true → b ≡ true → c ≡ true → d ≡ true → e ≡ true → f ≡ true → X) → X
    parts {X} true true true true true f h k = k refl refl refl refl refl h
    parts {X} false b c d e f h k = absurd (cc)
    parts {X} true false c d e f h k = absurd (cc)
    parts {X} true true false d e f h k = absurd (cc)
    parts {X} true true true false e f h k = absurd (cc)
    parts {X} true true true true false f h k = absurd (cc)

four_parts : (a b c d : ℕ) → list_all is_ascii_digit (a ∷ b ∷ c ∷ d ∷ []) ≡ true
    → ((48 ≤ a) × (a ≤ 57)) × ((48 ≤ b) × (b ≤ 57)) × ((48 ≤ c) × (c ≤ 57)) × ((48 ≤ d) × (d ≤ 57))
four_parts a b c d h =
    let ha = and_parts (is_ascii_digit a) (list_all is_ascii_digit (b ∷ c ∷ d ∷ [])) h in
    let hb = and_parts (is_ascii_digit b) (list_all is_ascii_digit (c ∷ d ∷ [])) ha.1 in
    let cd = two_parts c d hb.1 in
    (is_digit a ha.0, is_digit b hb.0, cd.0, cd.1)

-- a text with the shape of a day is the text of its parts
bytes_back : (a b c d h e f i g j : ℕ) → DayParts (day_bytes a b c d h e f i g j)
    → day_bytes a b c d h e f i g j ≡ text_at (day_bytes a b c d h e f i g j)
bytes_back a b c d h e f i g j parts =
    let abcd = four_parts a b c d parts.year in
    let ef = two_parts e f parts.month in
    let gj = two_parts g j parts.date in
    ap (λ n. a ∷ b ∷ c ∷ d ∷ n ∷ e ∷ f ∷ i ∷ g ∷ j ∷ []) parts.first_dash
    ∙ ap (λ n. a ∷ b ∷ c ∷ d ∷ 45 ∷ e ∷ f ∷ n ∷ g ∷ j ∷ []) parts.second_dash
    ∙ sym (ap (λ t. joined t (two_digits (10 * (10 * 0 + (e - 48)) + (f - 48)))
    (two_digits (10 * (10 * 0 + (g - 48)) + (j - 48))))
    (year_digits a b c d abcd.0 abcd.1 abcd.2 abcd.3)
    ∙ ap (λ t. joined (a ∷ b ∷ c ∷ d ∷ []) t (two_digits (10 * (10 * 0 + (g - 48)) + (j - 48))))
    (pair_back e f ef.0 ef.1)
    ∙ ap (λ t. joined (a ∷ b ∷ c ∷ d ∷ []) (e ∷ f ∷ []) t) (pair_back g j gj.0 gj.1))

pub text_back : (t : List ℕ) → DayParts t → t ≡ text_at t
text_back t parts =
    let e = spread_is t parts.ten in
    subst (λ u. u ≡ text_at u) (sym e)
    (bytes_back (slice_index t 0) (slice_index t 1) (slice_index t 2) (slice_index t 3)
    (slice_index t 4) (slice_index t 5) (slice_index t 6) (slice_index t 7) (slice_index t 8)
    (slice_index t 9)
    (subst DayParts e parts))

few_years : (a b c d h e f i g j : ℕ) → DayParts (day_bytes a b c d h e f i g j)
    → year_of (day_bytes a b c d h e f i g j) ≤ 9999
few_years a b c d h e f i g j parts = let abcd = four_parts a b c d parts.year in omega arith

pub year_small : (t : List ℕ) → DayParts t → year_of t ≤ 9999
year_small t parts =
    let e = spread_is t parts.ten in
    subst (λ u. year_of u ≤ 9999) (sym e)
    (few_years (slice_index t 0) (slice_index t 1) (slice_index t 2) (slice_index t 3)
    (slice_index t 4) (slice_index t 5) (slice_index t 6) (slice_index t 7) (slice_index t 8)
    (slice_index t 9)
    (subst DayParts e parts))
