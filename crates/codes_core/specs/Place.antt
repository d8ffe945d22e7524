-- Defines the codes of places: one to four segments, from the building down to the shelf (S1-A).
use Rattle.std.specs.Prelude.{ℕ, ◌&&◌, ◌||◌, ◌==◌, Bool, true, nat_lt, nat_le, List, [], ◌∷◌}
use Rattle.std.specs.Prelude.{length, Option}
use Rattle.std.specs.Char.{is_ascii_digit, is_ascii_uppercase}
use Rattle.std.specs.List.{starts_with, list_all}
use Rattle.std.specs.Str.{bytes_eq}
use Rattle.codes_core.specs.declared.fault.CodeFault.{CodeFault}
use Rattle.codes_core.specs.declared.fault.CodeFault.TheVariants.{BadNumber}
use Rattle.codes_core.specs.Grammar.{parts, are_few, code_fault}

-- The parts between the dashes.
abbrev pub segments : List ℕ → List (List ℕ)
segments text = parts 45 text

abbrev pub is_segment_byte : ℕ → Bool
is_segment_byte b = is_ascii_uppercase b || is_ascii_digit b

-- 1 to 8 of A to Z and 0 to 9.
abbrev pub is_segment : List ℕ → Bool
is_segment s = nat_lt 0 (length s) && nat_le (length s) 8 && list_all is_segment_byte s

-- One to n segments, joined by dashes.
abbrev pub is_place_shape : ℕ → List ℕ → Bool
is_place_shape n text = are_few is_segment n (segments text)

-- The first fault of a text as a place's code: Empty or BadShape, because a place has no number to
-- be wrong. A text without a fault is a place's code.
abbrev pub place_fault : List ℕ → Option CodeFault
place_fault text = code_fault BadNumber (is_place_shape 4 text) true text

-- A place lies in another if the other's segments are the first of its own: S1-A-3 lies in S1-A and
-- in itself, S10 does not lie in S1.
abbrev pub lies_in : List ℕ → List ℕ → Bool
lies_in place other = starts_with bytes_eq (segments place) (segments other)

-- The rest of a place's code after a whole segment: nothing, or a dash and more.
abbrev pub ends_segment : List ℕ → Bool
ends_segment [] = true
ends_segment (b ∷ bs) = b == 45
