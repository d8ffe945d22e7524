-- Defines the codes of things: own objects (2001.4.2a), borrowed objects (L1999.7) and containers
-- (C17).
use Rattle.std.specs.Prelude.{ℕ, ◌-◌, ◌==◌, Bool, true, false, List, [], ◌∷◌, length, take}
use Rattle.std.specs.Prelude.{slice_index, Option, if◌then◌else◌}
use Rattle.std.specs.Char.{is_ascii_lowercase}
use Rattle.codes_core.specs.declared.fault.CodeFault.{CodeFault}
use Rattle.codes_core.specs.declared.fault.CodeFault.TheVariants.{BadNumber}
use Rattle.codes_core.specs.declared.thing.ThingKind.{ThingKind}
use Rattle.codes_core.specs.declared.thing.ThingKind.TheVariants.{Own, Borrowed, Container}
use Rattle.codes_core.specs.Grammar.{groups, are_groups, has_right_groups, is_digits}
use Rattle.codes_core.specs.Grammar.{is_right_number, code_fault}

-- The kind of a thing, by the first letter of its code: C is a container, L a borrowed object, and
-- any other code an own object.
abbrev pub thing_kind : List ℕ → ThingKind
thing_kind [] = Own
thing_kind (b ∷ bs) = if b == 67 then Container else (if b == 76 then Borrowed else Own)

-- The text without the one letter a to z that may end it.
abbrev pub without_letter : List ℕ → List ℕ
without_letter text =
    if is_ascii_lowercase (slice_index text (length text - 1)) then take (length text - 1) text
    else text

-- Four digits, one to three more groups, and at most one letter: 2001.4.2a has the groups 2001, 4
-- and 2.
abbrev pub is_object_shape : List ℕ → Bool
is_object_shape text = are_groups 3 (groups (without_letter text))

abbrev pub has_object_numbers : List ℕ → Bool
has_object_numbers text = has_right_groups (groups (without_letter text))

-- C and digits; L and an object's code; or an object's code.
abbrev pub is_thing_shape : List ℕ → Bool
is_thing_shape [] = false
is_thing_shape (b ∷ bs) =
    if b == 67 then is_digits bs
    else (if b == 76 then is_object_shape bs else is_object_shape (b ∷ bs))

-- The numbers of the code are valid, if it has the shape of its kind.
abbrev pub has_thing_numbers : List ℕ → Bool
has_thing_numbers [] = true
has_thing_numbers (b ∷ bs) =
    if b == 67 then is_right_number bs
    else (if b == 76 then has_object_numbers bs else has_object_numbers (b ∷ bs))

-- The first fault of a text as a thing's code. A text without a fault is a thing's code.
abbrev pub thing_fault : List ℕ → Option CodeFault
thing_fault text = code_fault BadNumber (is_thing_shape text) (has_thing_numbers text) text
