-- Tables of valid texts, and of texts next to them that have each fault.
use Rattle.std.specs.Prelude.{◌≡◌, ◌<◌, ◌≤◌, true, false, Some, None, [], ◌∷◌, refl, codes, map}
use Rattle.std.specs.Prelude.{replicate, pos, negsuc}
use Rattle.std.proofs.Common.{arith}
use Rattle.std.specs.Str.{chars, is_utf8}
use Rattle.std.proofs.lemmas.Bool.{leb-true}
use Rattle.std.proofs.lemmas.Str.{is_utf8-from_IsUtf8}
use Rattle.std.proofs.Math.Utf8.{encode}
use Rattle.jiff_core.specs.Calendar.{days_from_civil, day_count, days_of_years, days_of_months}
use Rattle.codes_core.specs.declared.fault.CodeFault.TheVariants.{Empty, BadShape, BadNumber}
use Rattle.codes_core.specs.declared.fault.CodeFault.TheVariants.{NoSuchDay}
use Rattle.codes_core.specs.declared.thing.ThingKind.TheVariants.{Own, Borrowed, Container}
use Rattle.codes_core.specs.Thing.{thing_fault, thing_kind}
use Rattle.codes_core.specs.Loan.{loan_fault}
use Rattle.codes_core.specs.Place.{place_fault, lies_in}
use Rattle.codes_core.specs.Day.{day_fault, day_number}
use Rattle.codes_core.specs.Name.{is_name_byte, IsName}

-- valid things
right_things : map thing_fault
    (codes "2001.4.2a" ∷ codes "L1999.7" ∷ codes "C1" ∷ codes "0000.1" ∷ codes "2001.999999"
    ∷ codes "L2001.999999.999999.999999z" ∷ codes "C999999" ∷ [])
    ≡ replicate 7 None
right_things = refl

-- things of the wrong shape
things_of_no_shape : map thing_fault
    (codes "2001" ∷ codes "LO2024.1" ∷ codes "200.1" ∷ codes "20011.1" ∷ codes "2001."
    ∷ codes "2001.a" ∷ codes "2001.4..2" ∷ codes "2001.4.2.7.1" ∷ codes "2001.4.2ab"
    ∷ codes "2001.4.2A" ∷ codes "2001.04A" ∷ codes "L" ∷ codes "LC1" ∷ codes "C" ∷ codes "C1a"
    ∷ codes "c1" ∷ codes "C1 " ∷ (195 ∷ 135 ∷ 49 ∷ []) ∷ [])
    ≡ replicate 18 (Some BadShape)
things_of_no_shape = refl

-- things with a wrong number
things_of_no_number : map thing_fault
    (codes "2001.04" ∷ codes "2001.0" ∷ codes "2001.1000000" ∷ codes "L1999.7.0" ∷ codes "C0"
    ∷ codes "C01" ∷ codes "C1000000" ∷ [])
    ≡ replicate 7 (Some BadNumber)
things_of_no_number = refl

-- valid loans
right_loans : map loan_fault
    (codes "LO2024.1" ∷ codes "LI2024.1" ∷ codes "LO0000.999999" ∷ [])
    ≡ replicate 3 None
right_loans = refl

-- loans of the wrong shape
loans_of_no_shape : map loan_fault
    (codes "L" ∷ codes "L2024.1" ∷ codes "LX2024.1" ∷ codes "Li2024.1" ∷ codes "LO202.1"
    ∷ codes "LO20241.1" ∷ codes "LO2024" ∷ codes "LO2024." ∷ codes "LO2024.1a"
    ∷ codes "LO2024.1.1" ∷ codes "LO202.01" ∷ [])
    ≡ replicate 11 (Some BadShape)
loans_of_no_shape = refl

-- loans with a wrong number
loans_of_no_number : map loan_fault
    (codes "LO2024.0" ∷ codes "LO2024.01" ∷ codes "LI2024.1000000" ∷ [])
    ≡ replicate 3 (Some BadNumber)
loans_of_no_number = refl

-- valid places
right_places : map place_fault
    (codes "S1" ∷ codes "A-B-C-D" ∷ codes "MUSEUM-X"
    ∷ codes "ABCDEFGH-12345678-A0Z9A0Z9-ABCDEFGH" ∷ [])
    ≡ replicate 4 None
right_places = refl

-- places of the wrong shape
places_of_no_shape : map place_fault
    (codes "s1" ∷ codes "A-B-C-D-E" ∷ codes "123456789" ∷ codes "A-123456789" ∷ codes "-"
    ∷ codes "-A" ∷ codes "A-" ∷ codes "A--B" ∷ codes "S 1" ∷ codes "S1\n" ∷ (195 ∷ 137 ∷ []) ∷ [])
    ≡ replicate 11 (Some BadShape)
places_of_no_shape = refl

-- valid days
right_days : map day_fault
    (codes "2024-05-01" ∷ codes "2024-02-29" ∷ codes "1970-01-01" ∷ codes "1969-12-31"
    ∷ codes "0001-01-01" ∷ codes "9999-12-31" ∷ codes "2000-02-29" ∷ codes "1900-02-28"
    ∷ codes "2024-04-30" ∷ [])
    ≡ replicate 9 None
right_days = refl

-- days of the wrong shape
days_of_no_shape : map day_fault
    (codes "2024-5-01" ∷ codes "2024-05-1" ∷ codes "20240-05-01" ∷ codes "2024/05-01"
    ∷ codes "2024-05/01" ∷ codes "-024-05-01" ∷ codes "2024-05-0a" ∷ codes "2024-13-0a"
    ∷ codes "2024-05-01 " ∷ [])
    ≡ replicate 9 (Some BadShape)
days_of_no_shape = refl

-- days that no calendar has
days_of_no_day : map day_fault
    (codes "2023-02-29" ∷ codes "0000-01-01" ∷ codes "1900-02-29" ∷ codes "2024-04-31"
    ∷ codes "2024-13-01" ∷ codes "2024-00-01" ∷ codes "2024-01-00" ∷ [])
    ≡ replicate 7 (Some NoSuchDay)
days_of_no_day = refl

-- the numbers of the valid days, as computed by Python's datetime
day_numbers : map day_number
    (codes "2024-05-01" ∷ codes "2024-02-29" ∷ codes "1970-01-01" ∷ codes "1969-12-31"
    ∷ codes "0001-01-01" ∷ codes "9999-12-31" ∷ codes "2000-02-29" ∷ codes "1900-02-28"
    ∷ codes "2024-04-30" ∷ [])
    ≡ pos 19844 ∷ pos 19782 ∷ pos 0 ∷ negsuc 0 ∷ negsuc 719161 ∷ pos 2932896 ∷ pos 11016
    ∷ negsuc 25508 ∷ pos 19843 ∷ []
unfolding days_from_civil day_count days_of_years days_of_months
day_numbers = refl

-- the places in S1, of S1-A, S1, S10, S2-A and A-S1
in_a_room : map (λ place. lies_in place (codes "S1"))
    (codes "S1-A" ∷ codes "S1" ∷ codes "S10" ∷ codes "S2-A" ∷ codes "A-S1" ∷ [])
    ≡ true ∷ true ∷ false ∷ false ∷ false ∷ []
in_a_room = refl

in_a_bay : map (λ place. lies_in place (codes "S1-A"))
    (codes "S1-A-B" ∷ codes "S1" ∷ codes "S1-AB" ∷ [])
    ≡ true ∷ false ∷ false ∷ []
in_a_bay = refl

-- the last control byte below a blank, a blank, a tilde, the control byte above it, the first byte
-- of é
name_bytes : map is_name_byte (31 ∷ 32 ∷ 126 ∷ 127 ∷ 195 ∷ [])
    ≡ false ∷ true ∷ true ∷ false ∷ true ∷ []
name_bytes = refl

-- the empty text is no code and no day
no_bytes : thing_fault [] ∷ loan_fault [] ∷ place_fault [] ∷ day_fault [] ∷ []
    ≡ replicate 4 (Some Empty)
no_bytes = refl

-- the kinds of the longest codes
longest_kinds : map thing_kind
    (codes "2001.999999.999999.999999z" ∷ codes "L2001.999999.999999.999999z"
    ∷ codes "C999999" ∷ [])
    ≡ Own ∷ Borrowed ∷ Container ∷ []
longest_kinds = refl

-- a name has up to 60 bytes
longest_name : IsName (replicate 60 97)
unfolding encode
longest_name = record {
  utf8 = (replicate 60 97, (refl, refl));
  some = leb-true 1 60 refl;
  few = leb-true 60 60 refl;
  plain = refl;
}

too_long_a_name : ¬ IsName (replicate 61 97)
too_long_a_name name = let few : 61 ≤ 60 = name.few in omega arith

empty_name : ¬ IsName []
empty_name name = let some : 0 < 0 = name.some in omega arith

-- bytes that are not UTF-8
name_of_no_text : ¬ IsName (255 ∷ [])
unfolding is_utf8 chars
name_of_no_text name = let text : is_utf8 (255 ∷ []) ≡ true =
    is_utf8-from_IsUtf8 (255 ∷ []) name.utf8 in cc
