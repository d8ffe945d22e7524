-- Defines days of the calendar (2024-05-01), their text, and their number: days from 1970-01-01,
-- which is 0. The calendar is the proleptic Gregorian one of ISO 8601, in the years 1 to 9999.
use Rattle.std.specs.Prelude.{ℕ, zero, suc, ℤ, pos, negsuc, ◌-ℤ◌, unsigned_abs, ◌≡◌, ◌+◌, ◌/◌, ◌%◌}
use Rattle.std.specs.Prelude.{◌&&◌, ◌==◌, if◌then◌else◌, Bool, nat_lt, nat_le, List, [], ◌∷◌, ◌++◌}
use Rattle.std.specs.Prelude.{length, take, drop, slice_index, slice_range, Option, None}
use Rattle.std.specs.Char.{is_ascii_digit}
use Rattle.std.specs.List.{list_all}
use Rattle.jiff_core.specs.Calendar.{days_in_month, days_from_civil}
use Rattle.codes_core.specs.declared.fault.CodeFault.{CodeFault}
use Rattle.codes_core.specs.declared.fault.CodeFault.TheVariants.{NoSuchDay}
use Rattle.codes_core.specs.Grammar.{number_of, code_fault}

-- YYYY-MM-DD: four digits, a dash, two digits, a dash, two digits.
abbrev pub is_day_shape : List ℕ → Bool
is_day_shape text =
    (length text == 10) && list_all is_ascii_digit (take 4 text) && (slice_index text 4 == 45)
    && list_all is_ascii_digit (slice_range text 5 7) && (slice_index text 7 == 45)
    && list_all is_ascii_digit (drop 8 text)

abbrev pub year_of : List ℕ → ℕ
year_of text = number_of (take 4 text)

abbrev pub month_of : List ℕ → ℕ
month_of text = number_of (slice_range text 5 7)

abbrev pub date_of : List ℕ → ℕ
date_of text = number_of (drop 8 text)

-- The calendar has this day, in the years 1 to 9999.
abbrev pub is_civil : ℕ → ℕ → ℕ → Bool
is_civil year month date =
    nat_lt 0 year && nat_lt 0 month && nat_le month 12 && nat_lt 0 date
    && nat_le date (days_in_month (pos year) month)

-- The first fault of a text as a day: Empty, BadShape or NoSuchDay. A text without a fault spells a
-- day.
abbrev pub day_fault : List ℕ → Option CodeFault
day_fault text =
    code_fault NoSuchDay (is_day_shape text)
    (is_civil (year_of text) (month_of text) (date_of text)) text

-- The number of the day that a text without a fault spells.
abbrev pub day_number : List ℕ → ℤ
day_number text = days_from_civil (pos (year_of text)) (month_of text) (date_of text)

-- The numbers of 0001-01-01 and of 9999-12-31, the first day and the last.
abbrev pub first_number : ℤ
first_number = negsuc 719161

abbrev pub last_number : ℤ
last_number = pos 2932896

-- The text spells the day of this number.
abbrev pub SpellsDay : List ℕ → ℤ → Type 0
SpellsDay text number = (day_fault text ≡ None) × (day_number text ≡ number)

-- The text spells the day of this number, and no other text does.
pub record IsOnlySpelling (text : List ℕ) (number : ℤ) : Type 0 where
  pub spells : SpellsDay text number
  pub only : (other : List ℕ) → SpellsDay other number → other ≡ text

-- The last two digits of a number.
abbrev pub two_digits : ℕ → List ℕ
two_digits n = (48 + n / 10 % 10) ∷ (48 + n % 10) ∷ []

-- The text of a day by its year, month and date.
abbrev pub date_text : ℕ → ℕ → ℕ → List ℕ
date_text year month date =
    two_digits (year / 100) ++ two_digits year ++ 45 ∷ two_digits month ++ 45 ∷ two_digits date

-- A day by its year, month and date.
pub record CivilDay : Type 0 where
  pub year : ℕ
  pub month : ℕ
  pub date : ℕ

-- The next day: in the same month, on the first of the next month, or on 1 January of the next
-- year.
abbrev pub day_after : CivilDay → CivilDay
day_after day =
    if nat_lt day.date (days_in_month (pos day.year) day.month)
    then record { year = day.year; month = day.month; date = day.date + 1 }
    else (if nat_lt day.month 12 then record { year = day.year; month = day.month + 1; date = 1 }
    else record { year = day.year + 1; month = 1; date = 1 })

-- The day that comes this many days after 0001-01-01.
abbrev pub day_from_first : ℕ → CivilDay
day_from_first zero = record { year = 1; month = 1; date = 1 }
day_from_first (suc n) = day_after (day_from_first n)

abbrev pub text_of_day : CivilDay → List ℕ
text_of_day day = date_text day.year day.month day.date

-- The only text that spells the day of this number. A number outside `first_number` to
-- `last_number` is no day's, and its text means nothing.
unfoldable pub day_text : ℤ → List ℕ
day_text number = text_of_day (day_from_first (unsigned_abs (number -ℤ first_number)))
