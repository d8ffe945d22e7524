-- Defines the values that a report's words can have, and which text is not in its value's form.
use Rattle.std.specs.Prelude.{ℕ, ◌^◌, ◌&&◌, nat_lt, Bool, List, Option, Some, None}
use Rattle.std.specs.Prelude.{if◌then◌else◌, option_map}
use Rattle.std.specs.Borrow.{Bor}
use Rattle.std.specs.Str.Parse.{without_leading_plus}
use Rattle.codes_core.specs.Day.{day_fault}
use Rattle.codes_core.specs.Grammar.{is_digits, number_of}
use Rattle.codes_core.specs.Loan.{loan_fault}
use Rattle.codes_core.specs.Place.{place_fault}
use Rattle.codes_core.specs.Thing.{thing_fault}
use Rattle.question_words.specs.declared.fault.ValueFault.{ValueFault}
use Rattle.question_words.specs.declared.fault.ValueFault.TheVariants.{Day, Loan, Number, Place}
use Rattle.question_words.specs.declared.fault.ValueFault.TheVariants.{Thing}

-- The number that a text spells: digits, or a plus and digits.
abbrev pub number_in : List ℕ → ℕ
number_in text = number_of (without_leading_plus text)

-- The text spells a number below 2^64.
abbrev pub is_number : List ℕ → Bool
is_number text = is_digits (without_leading_plus text) && nat_lt (number_in text) (2 ^ 64)

-- The fault of a text as a day, as a code, and as a number. None if it is in that form.
abbrev pub faulty_day : Bor (List ℕ) → Option ValueFault
faulty_day text = option_map (λ fault. Day fault text) (day_fault text.now)

abbrev pub faulty_thing : Bor (List ℕ) → Option ValueFault
faulty_thing text = option_map (λ fault. Thing fault text) (thing_fault text.now)

abbrev pub faulty_loan : Bor (List ℕ) → Option ValueFault
faulty_loan text = option_map (λ fault. Loan fault text) (loan_fault text.now)

abbrev pub faulty_place : Bor (List ℕ) → Option ValueFault
faulty_place text = option_map (λ fault. Place fault text) (place_fault text.now)

abbrev pub faulty_number : Bor (List ℕ) → Option ValueFault
faulty_number text = if is_number text.now then None else Some (Number text)
