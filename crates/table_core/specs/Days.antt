-- Defines the days of a table: YYYY-MM-DD, and with an order of day and month also 1/5/2024 and
-- 01.05.2024.
use Rattle.std.specs.Prelude.{ℕ, ◌&&◌, ◌==◌, nat_lt, nat_le, Bool, true, false, List, []}
use Rattle.std.specs.Prelude.{◌∷◌, ◌++◌, length, if◌then◌else◌}
use Rattle.std.specs.Char.{is_ascii_digit}
use Rattle.std.specs.List.{list_all, before_first, after_first}
use Rattle.table_core.specs.declared.options.DateOrder.{DateOrder}
use Rattle.table_core.specs.declared.options.DateOrder.TheVariants.{YearFirst, DayFirst, MonthFirst}

-- The text before the first byte that is the mark: all of it if it has none.
abbrev pub before : ℕ → List ℕ → List ℕ
before mark text = before_first (λ b. b == mark) text

-- The text after that byte.
abbrev pub behind : ℕ → List ℕ → List ℕ
behind mark text = after_first (λ b. b == mark) text

-- One digit or two.
abbrev pub is_short_number : List ℕ → Bool
is_short_number text =
    nat_lt 0 (length text) && nat_le (length text) 2 && list_all is_ascii_digit text

-- Four digits: a year is never shortened.
abbrev pub is_year : List ℕ → Bool
is_year text = (length text == 4) && list_all is_ascii_digit text

-- A short number, another, and a year, with the mark between them.
abbrev pub is_marked_day : ℕ → List ℕ → Bool
is_marked_day mark text =
    is_short_number (before mark text) && is_short_number (before mark (behind mark text))
    && is_year (behind mark (behind mark text))

-- A short number with two digits.
abbrev pub padded : List ℕ → List ℕ
padded [] = []
padded (d ∷ []) = 48 ∷ d ∷ []
padded (d ∷ e ∷ rest) = d ∷ e ∷ rest

-- YYYY-MM-DD.
abbrev pub iso_of : List ℕ → List ℕ → List ℕ → List ℕ
iso_of year month date = year ++ 45 ∷ month ++ 45 ∷ date

-- A day with marks as YYYY-MM-DD. Its first number is the day, or the month.
abbrev pub marked_text : Bool → ℕ → List ℕ → List ℕ
marked_text is_day_first mark text =
    if is_day_first
    then iso_of (behind mark (behind mark text)) (padded (before mark (behind mark text)))
    (padded (before mark text))
    else iso_of (behind mark (behind mark text)) (padded (before mark text))
    (padded (before mark (behind mark text)))

-- A day with slashes or dots as YYYY-MM-DD. Any other text stays as it is.
abbrev pub turned_text : Bool → List ℕ → List ℕ
turned_text is_day_first text =
    if is_marked_day 47 text then marked_text is_day_first 47 text
    else (if is_marked_day 46 text then marked_text is_day_first 46 text else text)

-- The text of a day as YYYY-MM-DD, by the order of day and month in the table. A text of another
-- form stays as it is: it is not a day.
abbrev pub iso_text : DateOrder → List ℕ → List ℕ
iso_text YearFirst text = text
iso_text DayFirst text = turned_text true text
iso_text MonthFirst text = turned_text false text
