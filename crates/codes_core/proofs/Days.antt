-- A day of the calendar and its number determine each other, and so do its text and its number.
use Rattle.std.specs.Prelude.{◌≡◌, ℕ, ◌<◌, ◌≤◌, ◌&&◌, true, nat_lt, nat_le, List, refl, ℤ, pos}
use Rattle.std.specs.Prelude.{negsuc, ◌≤ℤ◌, unsigned_abs}
use Rattle.std.proofs.Common.{arith, rules, subst, sym, ◌∙◌, to_z, w8, w16}
use Rattle.std.proofs.lemmas.Bool.Decides.{nat_tests}
use Rattle.std.proofs.lemmas.Int.{by_lt_z, ints}
use Rattle.jiff_core.specs.declared.civil.date.Date.{Date}
use Rattle.jiff_core.specs.Calendar.{day_count, days_from_civil, days_in_month}
use Rattle.jiff_core.specs.Date.{epoch_day, IsYmd}
use Rattle.jiff_core.proofs.SignedLemmas.{signed_arith}
use Rattle.jiff_core.proofs.CalendarLemmas.{days_in_month_bounds, days_from_civil-day_count}
use Rattle.jiff_core.proofs.CalendarLemmas.{day_count-lt_year, day_count-later_year}
use Rattle.jiff_core.proofs.CalendarLemmas.{day_count-day_of_year}
use Rattle.jiff_core.proofs.MarchLemmas.{day_count-early}
use Rattle.jiff_core.proofs.DateLemmas.{civil, epoch_day_injective, epoch_day_range}
use Rattle.codes_core.specs.declared.fault.CodeFault.TheVariants.{NoSuchDay}
use Rattle.codes_core.specs.Day.{first_number, last_number, is_day_shape, year_of, month_of}
use Rattle.codes_core.specs.Day.{date_of, is_civil, day_number, SpellsDay, IsOnlySpelling}
use Rattle.codes_core.specs.Day.{date_text}
use Rattle.codes_core.proofs.Texts.{no_fault}
use Rattle.codes_core.proofs.DayTexts.{text_shape, year_back, month_back, date_back, day_parts}
use Rattle.codes_core.proofs.DayTexts.{text_back, year_small}

-- 0001-01-01
pub year_one : day_count (pos 1) 1 1 ≡ 3652791
year_one = day_count-early (pos 1) 10000 1 1 refl (omega arith) (omega arith) (omega arith)

-- a day from 0001-01-01 on is in year 1 or a later year
pub year_positive : (d : Date) → first_number ≤ℤ epoch_day d → pos 1 ≤ℤ d.year
year_positive d h =
    by_lt_z d.year (pos 1)
    (λ lt. absurd (omega (
      arith,
      signed_arith,
      days_from_civil-day_count d.year d.month d.day,
      day_count-lt_year d.year d.month d.day (pos 1) 1 1 (civil d) (omega arith) lt,
      year_one,
    )))
    (λ le. le)

-- and a day in year 1 or later isn't before 0001-01-01
pub number_low : (d : Date) → pos 1 ≤ℤ d.year → first_number ≤ℤ epoch_day d
number_low d h =
    by_lt_z (pos 1) d.year
    (λ lt. omega (
      arith,
      signed_arith,
      days_from_civil-day_count d.year d.month d.day,
      day_count-later_year (pos 1) d.year (search rules) lt,
      day_count-day_of_year d.year d.month d.day d.day_in.0,
      year_one,
    ))
    (λ le. let one : d.year ≡ pos 1 = omega (arith, signed_arith) in
    let first : day_count d.year 1 1 ≡ 3652791 = rw one year_one in
    omega (
      arith,
      signed_arith,
      days_from_civil-day_count d.year d.month d.day,
      day_count-day_of_year d.year d.month d.day d.day_in.0,
    ))

-- a day of the calendar with these parts
pub record IsMade (d : Date) (y m t : ℕ) : Type 0 where
  pub civil_is : is_civil y m t ≡ true
  pub number_is : epoch_day d ≡ days_from_civil (pos y) m t
  pub low : first_number ≤ℤ epoch_day d
  pub high : epoch_day d ≤ℤ last_number

civil_true : (y m t k : ℕ) → 0 < y → (1 ≤ m) × (m ≤ 12) → (1 ≤ t) × (t ≤ k)
    → nat_lt 0 y && nat_lt 0 m && nat_le m 12 && nat_lt 0 t && nat_le t k ≡ true
civil_true y m t k hy hm ht = grind (arith, nat_tests)

pub made : (d : Date) (y m t : ℕ) → (y ≡ 0 → ⊥) → (y ≤ 9999) × (m ≤ 99) × (t ≤ 99)
    → IsYmd (to_z w16 y) (to_z w8 m) (to_z w8 t) d → IsMade d y m t
made d y m t some few ymd =
    let year_number : to_z w16 y ≡ pos y = omega (arith, ints, few.0) in
    let month_number : to_z w8 m ≡ pos m = omega (arith, ints, few.1) in
    let date_number : to_z w8 t ≡ pos t = omega (arith, ints, few.2) in
    let year : d.year ≡ pos y = ymd.0 ∙ year_number in
    let month : pos d.month ≡ pos m = ymd.1 ∙ month_number in
    let date : pos d.day ≡ pos t = ymd.2 ∙ date_number in
    let m_is : d.month ≡ m = omega (arith, signed_arith) in
    let t_is : d.day ≡ t = omega (arith, signed_arith) in
    let month_in : (1 ≤ m) × (m ≤ 12) = omega (arith, d.month_in) in
    let same : days_in_month d.year d.month ≡ days_in_month (pos y) m = rw (year, m_is) refl in
    let date_in : (1 ≤ t) × (t ≤ days_in_month (pos y) m) = omega (arith, d.day_in, same) in
    let positive : pos 1 ≤ℤ d.year = omega (arith, signed_arith) in
    record {
      civil_is = civil_true y m t (days_in_month (pos y) m) (omega arith) month_in date_in;
      number_is = rw (year, m_is, t_is) refl;
      low = number_low d positive;
      high = (epoch_day_range d).1;
    }

-- the calendar's day with these parts
record CivilDay (y m t : ℕ) (d : Date) : Type 0 where
  year : d.year ≡ pos y
  month : d.month ≡ m
  date : d.day ≡ t

civil_parts : (y m t : ℕ) → is_civil y m t ≡ true → y ≤ 9999 → (d : Date) × CivilDay y m t d
civil_parts y m t h few =
    let in_range : (0 < y) × ((1 ≤ m) × (m ≤ 12)) × ((1 ≤ t) × (t ≤ days_in_month (pos y) m)) =
    ranges y m t (days_in_month (pos y) m) h in
    let d : Date = record {
      year = pos y;
      month = m;
      day = t;
      year_in = (omega (arith, signed_arith), omega (arith, signed_arith));
      month_in =
          in_range.1;
      day_in = in_range.2;
    } in
    (d, record { year = refl; month = refl; date = refl })
  where
    ranges : (y m t k : ℕ) → nat_lt 0 y && nat_lt 0 m && nat_le m 12 && nat_lt 0 t && nat_le t k
        ≡ true → (0 < y) × ((1 ≤ m) × (m ≤ 12)) × ((1 ≤ t) × (t ≤ k))
    ranges y m t k h = (
      grind (arith, nat_tests),
      (grind (arith, nat_tests), grind (arith, nat_tests)),
      (grind (arith, nat_tests), grind (arith, nat_tests)),
    )

text_spells : (d : Date) (y : ℕ) → d.year ≡ pos y → 0 < y
    → SpellsDay (date_text y d.month d.day) (epoch_day d)
text_spells d y year some =
    let few : y ≤ 9999 = omega (arith, signed_arith, d.year_in) in
    let same : days_in_month d.year d.month ≡ days_in_month (pos y) d.month = rw year refl in
    let month : d.month ≤ 99 = omega (arith, d.month_in) in
    let date : d.day ≤ 99 = omega (arith, d.day_in, days_in_month_bounds d.year d.month) in
    let month_in : (1 ≤ d.month) × (d.month ≤ 12) = d.month_in in
    let date_in : (1 ≤ d.day) × (d.day ≤ days_in_month (pos y) d.month) =
    omega (arith, d.day_in) in (
      rw (
        text_shape y d.month d.day,
        year_back y d.month d.day few,
        month_back y d.month d.day month,
        date_back y d.month d.day date,
        civil_true y d.month d.day (days_in_month (pos y) d.month) some month_in date_in,
      ) refl,
      rw (
        year_back y d.month d.day few,
        month_back y d.month d.day month,
        date_back y d.month d.day date,
        year,
      ) refl,
    )

same_text : (d : Date) (y : ℕ) → d.year ≡ pos y → (other : List ℕ) → SpellsDay other (epoch_day d)
    → other ≡ date_text y d.month d.day
same_text d y year other (fault, number) =
    let is = no_fault NoSuchDay (is_day_shape other)
    (is_civil (year_of other) (month_of other) (date_of other)) other fault in
    let parts = day_parts other is.0 in
    let found = civil_parts (year_of other) (month_of other) (date_of other) is.1
    (year_small other parts) in
    let at = found.1 in
    let numbered : epoch_day found.0 ≡ day_number other = rw (at.year, at.month, at.date) refl in
    let same = epoch_day_injective found.0 d (numbered ∙ number) in
    let y_is : year_of other ≡ y = pos_same (year_of other) y (sym at.year ∙ same.0 ∙ year) in
    let m_is : month_of other ≡ d.month = sym at.month ∙ same.1 in
    let t_is : date_of other ≡ d.day = sym at.date ∙ same.2 in
    text_back other parts ∙ rw (y_is, m_is, t_is) refl
  where
    pos_same : (a b : ℕ) → pos a ≡ pos b → a ≡ b
    pos_same a b h = omega (arith, signed_arith)

pos_abs : (z : ℤ) → pos 1 ≤ℤ z → (z ≡ pos (unsigned_abs z)) × (0 < unsigned_abs z)
pos_abs (pos n) h = (refl, omega (arith, signed_arith))
pos_abs (negsuc n) h = absurd (omega (arith, signed_arith))

-- the text of a day's date is its only spelling
pub only_spelling : (d : Date) (n : ℤ) → epoch_day d ≡ n → first_number ≤ℤ n
    → IsOnlySpelling (date_text (unsigned_abs d.year) d.month d.day) n
only_spelling d n same low =
    let positive : pos 1 ≤ℤ d.year =
    year_positive d (subst (λ k. first_number ≤ℤ k) (sym same) low) in
    let year = (pos_abs d.year positive).0 in
    let some = (pos_abs d.year positive).1 in
    subst (λ k. IsOnlySpelling (date_text (unsigned_abs d.year) d.month d.day) k) same
    (record {
      spells = text_spells d (unsigned_abs d.year) year some;
      only = same_text d (unsigned_abs d.year) year;
    })
