-- Defines the grammar that all codes share: how a text splits into parts, which numbers are valid,
-- and which fault comes first. Bytes are numbers from 0 to 255. Lists are counted from 0; rows,
-- lines, entries and messages from 1.
use Rattle.std.specs.Prelude.{ℕ, ◌+◌, ◌-◌, ◌*◌, fold, ◌&&◌, ◌==◌, Bool, false, nat_lt, nat_le}
use Rattle.std.specs.Prelude.{nat_eq, not, List, [], ◌∷◌, length, drop, Option, Some, None}
use Rattle.std.specs.Prelude.{if◌then◌else◌}
use Rattle.std.specs.Char.{is_ascii_digit}
use Rattle.std.specs.List.{starts_with, list_all}
use Rattle.codes_core.specs.declared.fault.CodeFault.{CodeFault}
use Rattle.codes_core.specs.declared.fault.CodeFault.TheVariants.{Empty, BadShape}

-- Adds a byte to the front of the first part.
abbrev pub in_first : ℕ → List (List ℕ) → List (List ℕ)
in_first b [] = (b ∷ []) ∷ []
in_first b (p ∷ ps) = (b ∷ p) ∷ ps

-- The parts of a text between the bytes equal to `mark`. A text without the mark is one part, and
-- the empty text is one empty part. Places split at dashes, things and loans at dots.
abbrev pub parts : ℕ → List ℕ → List (List ℕ)
parts mark [] = [] ∷ []
parts mark (b ∷ bs) = if b == mark then [] ∷ parts mark bs else in_first b (parts mark bs)

-- There are at most n parts, and each passes the test.
abbrev pub are_few : (List ℕ → Bool) → ℕ → List (List ℕ) → Bool
are_few is_one n ps = nat_le (length ps) n && list_all is_one ps

-- One or more digits and nothing more.
abbrev pub is_digits : List ℕ → Bool
is_digits text = nat_lt 0 (length text) && list_all is_ascii_digit text

-- At most six digits, the first not 0. For one digit or more, that is a number from 1 to 999,999
-- without a leading 0.
abbrev pub is_right_number : List ℕ → Bool
is_right_number digits = nat_le (length digits) 6 && not (starts_with nat_eq digits (48 ∷ []))

-- The parts between the dots.
abbrev pub groups : List ℕ → List (List ℕ)
groups text = parts 46 text

-- Four digits.
abbrev pub is_year : List ℕ → Bool
is_year digits = (length digits == 4) && is_digits digits

-- Four digits, then one to n more groups of digits.
abbrev pub are_groups : ℕ → List (List ℕ) → Bool
are_groups n [] = false
are_groups n (year ∷ numbers) =
    is_year year && (nat_lt 0 (length numbers) && are_few is_digits n numbers)

-- Each group after the year is a valid number. Because codes are split once, the same groups decide
-- the shape of a code and its numbers.
abbrev pub has_right_groups : List (List ℕ) → Bool
has_right_groups gs = list_all is_right_number (drop 1 gs)

-- None if the text does not have the shape, otherwise whether its numbers are valid.
abbrev pub numbers_of : Bool → Bool → Option Bool
numbers_of has_shape is_right = if has_shape then Some is_right else None

-- The number that the digits spell.
abbrev pub number_of : List ℕ → ℕ
number_of digits = fold (λ n d. 10 * n + (d - 48)) 0 digits

-- The first fault of a text: Empty if it has no bytes; BadShape if it does not have the shape;
-- `last` if the shape is right but the numbers in it are not. `last` is BadNumber for codes and
-- NoSuchDay for days.
abbrev pub code_fault : CodeFault → Bool → Bool → List ℕ → Option CodeFault
code_fault last has_shape is_right [] = Some Empty
code_fault last has_shape is_right (b ∷ bs) =
    if has_shape then (if is_right then None else Some last) else Some BadShape
