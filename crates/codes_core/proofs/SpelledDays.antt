-- The text of a day's number is the only one that spells it.
use Rattle.std.specs.Prelude.{◌≡◌, ℕ, zero, suc, ◌+◌, ◌/◌, ◌%◌, ◌<◌, ◌≤◌, true, false}
use Rattle.std.specs.Prelude.{if◌then◌else◌, nat_lt, List, [], ◌∷◌, ◌++◌, refl, ℤ, pos, negsuc}
use Rattle.std.specs.Prelude.{◌+ℤ◌, ◌-ℤ◌, ◌≤ℤ◌, unsigned_abs}
use Rattle.std.specs.Str.{IsAscii}
use Rattle.std.proofs.Common.{arith, subst, sym, ◌∙◌}
use Rattle.std.proofs.lemmas.Bool.Decides.{nat_tests}
use Rattle.std.proofs.lemmas.Str.Ascii.{IsAscii-nil, IsAscii-cons}
use Rattle.jiff_core.specs.declared.civil.date.Date.{Date}
use Rattle.jiff_core.specs.Calendar.{IsYear, days_in_month, days_from_civil}
use Rattle.jiff_core.specs.Date.{epoch_day}
use Rattle.jiff_core.proofs.SignedLemmas.{signed_arith}
use Rattle.jiff_core.proofs.CalendarLemmas.{days_in_month_bounds, days_from_civil-day_count}
use Rattle.jiff_core.proofs.DateLemmas.{days_from_civil-day, days_from_civil-next_month}
use Rattle.jiff_core.proofs.DateLemmas.{days_from_civil-next_year, days_from_civil-max}
use Rattle.codes_core.specs.Day.{first_number, last_number, IsOnlySpelling, two_digits, date_text}
use Rattle.codes_core.specs.Day.{CivilDay, day_after, day_from_first, day_text}
use Rattle.codes_core.proofs.Days.{year_one, only_spelling}

-- the calendar has the day that is this many days after 0001-01-01
record IsFromFirst (n : ℕ) (day : CivilDay) (d : Date) : Type 0 where
  year : d.year ≡ pos day.year
  month : d.month ≡ day.month
  date : d.day ≡ day.date
  number : days_from_civil (pos day.year) day.month day.date ≡ first_number +ℤ pos n

module _ (n : ℕ) (day : CivilDay) (d : Date) (few : n + 1 ≤ 3652058)
    (is : IsFromFirst n day d) where
  year_in : IsYear (pos day.year)
  year_in = subst IsYear is.year d.year_in

  month_in : (1 ≤ day.month) × (day.month ≤ 12)
  month_in = subst (λ m. (1 ≤ m) × (m ≤ 12)) is.month d.month_in

  date_in : (1 ≤ day.date) × (day.date ≤ days_in_month (pos day.year) day.month)
  date_in =
      subst (λ y. (1 ≤ day.date) × (day.date ≤ days_in_month y day.month)) is.year
      (subst (λ m. (1 ≤ day.date) × (day.date ≤ days_in_month d.year m)) is.month
      (subst (λ t. (1 ≤ t) × (t ≤ days_in_month d.year d.month)) is.date d.day_in))

  in_month : nat_lt day.date (days_in_month (pos day.year) day.month) ≡ true
      → (e : Date) × IsFromFirst (suc n)
      (record { year = day.year; month = day.month; date = day.date + 1 }) e
  in_month test =
      let less : day.date < days_in_month (pos day.year) day.month = grind (arith, nat_tests) in
      let next = days_from_civil-day (pos day.year) day.month day.date (day.date + 1) date_in.0
      (omega arith) in
      let number = is.number in (
        record {
          year = pos day.year;
          month = day.month;
          day = day.date + 1;
          year_in = year_in;
          month_in = month_in;
          day_in = (omega arith, omega arith);
        },
        record { year = refl; month = refl; date = refl; number = omega (arith, signed_arith) },
      )

  next_month : nat_lt day.date (days_in_month (pos day.year) day.month) ≡ false
      → nat_lt day.month 12 ≡ true
      → (e : Date) × IsFromFirst (suc n)
      (record { year = day.year; month = day.month + 1; date = 1 }) e
  next_month full test =
      let within = date_in in
      let most : days_in_month (pos day.year) day.month ≤ day.date = grind (arith, nat_tests) in
      let last : day.date ≡ days_in_month (pos day.year) day.month = omega arith in
      let less : day.month < 12 = grind (arith, nat_tests) in
      let long = days_in_month_bounds (pos day.year) (day.month + 1) in
      let next = days_from_civil-next_month (pos day.year) day.month day.date month_in.0 last in
      let number = is.number in (
        record {
          year = pos day.year;
          month = day.month + 1;
          day = 1;
          year_in = year_in;
          month_in = (omega arith, omega arith);
          day_in = (omega arith, omega arith);
        },
        record { year = refl; month = refl; date = refl; number = omega (arith, signed_arith) },
      )

  next_year : nat_lt day.date (days_in_month (pos day.year) day.month) ≡ false
      → nat_lt day.month 12 ≡ false
      → (e : Date) × IsFromFirst (suc n) (record { year = day.year + 1; month = 1; date = 1 }) e
  next_year full test =
      let within = date_in in
      let some = month_in in
      let years = year_in in
      let most : days_in_month (pos day.year) day.month ≤ day.date = grind (arith, nat_tests) in
      let high : 12 ≤ day.month = grind (arith, nat_tests) in
      let twelve : day.month ≡ 12 = omega arith in
      let days : days_in_month (pos day.year) day.month ≡ 31 = rw twelve refl in
      let last : day.date ≡ 31 = omega arith in
      let number : days_from_civil (pos day.year) 12 31 ≡ first_number +ℤ pos n =
      rw (sym twelve, sym last) is.number in
      let no_end : day.year ≡ 9999 → ⊥ = λ e. let max = days_from_civil-max in
      let end : days_from_civil (pos 9999) 12 31 ≡ first_number +ℤ pos n = rw (sym e) number in
      omega (arith, signed_arith) in
      let next = days_from_civil-next_year (pos day.year) (pos (day.year + 1))
      (omega (arith, signed_arith)) (omega (arith, signed_arith)) in
      let long = days_in_month_bounds (pos (day.year + 1)) 1 in (
        record {
          year = pos (day.year + 1);
          month = 1;
          day = 1;
          year_in = (omega (arith, signed_arith), omega (arith, signed_arith));
          month_in =
              (omega arith, omega arith);
          day_in = (omega arith, omega arith);
        },
        record { year = refl; month = refl; date = refl; number = omega (arith, signed_arith) },
      )

  next_day : (e : Date) × IsFromFirst (suc n) (day_after day) e
  next_day =
      elim (nat_lt day.date (days_in_month (pos day.year) day.month)) as
      (λ t. nat_lt day.date (days_in_month (pos day.year) day.month) ≡ t → (e : Date)
      × IsFromFirst (suc n) (if t then record {
        year = day.year;
        month = day.month;
        date = day.date + 1;
      }
      else (if nat_lt day.month 12 then record { year = day.year; month = day.month + 1; date = 1 }
      else record { year = day.year + 1; month = 1; date = 1 })) e) [
        | true ↦ in_month
        | false ↦ λ full. elim (nat_lt day.month 12) as (λ t. nat_lt day.month 12 ≡ t → (e : Date)
            × IsFromFirst (suc n) (if t then record {
              year = day.year;
              month = day.month + 1;
              date = 1;
            } else record { year = day.year + 1; month = 1; date = 1 }) e) [
              | true ↦ next_month full
              | false ↦ next_year full
            ] refl
      ] refl

from_first : (n : ℕ) → n ≤ 3652058 → (d : Date) × IsFromFirst n (day_from_first n) d
from_first zero few = (
  record {
    year = pos 1;
    month = 1;
    day = 1;
    year_in = (omega (arith, signed_arith), omega (arith, signed_arith));
    month_in = (omega arith, omega arith);
    day_in = (omega arith, omega arith);
  },
  record {
    year = refl;
    month = refl;
    date = refl;
    number = omega (arith, signed_arith, days_from_civil-day_count (pos 1) 1 1, year_one);
  },
)
from_first (suc n) few =
    let before = from_first n (omega arith) in
    next_day n (day_from_first n) before.0 (omega arith) before.1

abs_back : (z : ℤ) → pos 0 ≤ℤ z → pos (unsigned_abs z) ≡ z
abs_back (pos n) h = refl
abs_back (negsuc n) h = absurd (omega (arith, signed_arith))

pub text_spells_day : (n : ℤ) → first_number ≤ℤ n → n ≤ℤ last_number → IsOnlySpelling (day_text n) n
unfolding day_text
text_spells_day n low high =
    let k = unsigned_abs (n -ℤ first_number) in
    let positive : pos 0 ≤ℤ (n -ℤ first_number) = omega (arith, signed_arith) in
    let abs : pos k ≡ (n -ℤ first_number) = abs_back (n -ℤ first_number) positive in
    let whole : (first_number +ℤ (n -ℤ first_number)) ≡ n = omega (arith, signed_arith) in
    let back : (first_number +ℤ pos k) ≡ n = subst (λ z. (first_number +ℤ z) ≡ n) (sym abs) whole in
    let found = from_first k (omega (arith, signed_arith)) in
    let d = found.0 in
    let is = found.1 in
    let day = day_from_first k in
    let same : epoch_day d ≡ n = rw (is.year, is.month, is.date) (is.number ∙ back) in
    let text : date_text (unsigned_abs d.year) d.month d.day ≡ date_text day.year day.month
    day.date = rw (is.year, is.month, is.date) refl in
    subst (λ t. IsOnlySpelling t n) text (only_spelling d n same low)

low_digit : (n : ℕ) → 48 + n % 10 < 128
low_digit n = omega arith

pair_ascii : (n : ℕ) (rest : List ℕ) → IsAscii rest
    → IsAscii ((48 + n / 10 % 10) ∷ (48 + n % 10) ∷ rest)
pair_ascii n rest h =
    IsAscii-cons (48 + n / 10 % 10) ((48 + n % 10) ∷ rest) (low_digit (n / 10))
    (IsAscii-cons (48 + n % 10) rest (low_digit n) h)

date_ascii : (y m d : ℕ) → IsAscii (date_text y m d)
date_ascii y m d =
    let date = 45 ∷ two_digits d in
    let month = 45 ∷ two_digits m ++ date in
    pair_ascii (y / 100) (two_digits y ++ month)
    (pair_ascii y month (IsAscii-cons 45 (two_digits m ++ date) (omega arith)
    (pair_ascii m date (IsAscii-cons 45 (two_digits d) (omega arith)
    (pair_ascii d [] IsAscii-nil)))))

pub day_text_ascii : (n : ℤ) → IsAscii (day_text n)
unfolding day_text
day_text_ascii n = let day = day_from_first (unsigned_abs (n -ℤ first_number)) in
    date_ascii day.year day.month day.date
