-- The definitions computed on worked texts: each code beside its nearest wrong neighbours.
use Rattle.std.specs.Prelude.{◌≡◌, true, false, Some, None, [], ◌∷◌, refl, codes}
use Rattle.codes_core.specs.declared.TheConstants.{LONGEST_NAME}
use Rattle.codes_core.specs.declared.fault.CodeFault.TheVariants.{Empty, BadShape, BadNumber}
use Rattle.codes_core.specs.declared.fault.CodeFault.TheVariants.{NoSuchDay}
use Rattle.codes_core.specs.declared.thing.ThingKind.TheVariants.{Own, Borrowed, Container}
use Rattle.codes_core.specs.Grammar.{groups, numbers_of}
use Rattle.codes_core.specs.Thing.{thing_kind, without_letter, thing_fault}
use Rattle.codes_core.specs.Loan.{is_out, loan_fault}
use Rattle.codes_core.specs.Place.{place_fault, lies_in}
use Rattle.codes_core.specs.Day.{day_fault}

-- the groups of a code, without the letter at its end
own_groups : groups (without_letter (codes "2001.4.2a")) ≡ codes "2001" ∷ codes "4" ∷ codes "2" ∷ []
own_groups = refl

-- without the shape there is no result for the numbers
wrong_number : numbers_of true false ≡ Some false
wrong_number = refl

untold : numbers_of false true ≡ None
untold = refl

pub own : thing_fault (codes "2001.4.2a") ≡ None
own = refl

pub own_kind : thing_kind (codes "2001.4.2a") ≡ Own
own_kind = refl

pub year_alone : thing_fault (codes "2001") ≡ Some BadShape
year_alone = refl

three_numbers : thing_fault (codes "2001.4.2.999999") ≡ None
three_numbers = refl

four_numbers : thing_fault (codes "2001.4.2.1.1") ≡ Some BadShape
four_numbers = refl

two_letters : thing_fault (codes "2001.4ab") ≡ Some BadShape
two_letters = refl

letter_for_a_number : thing_fault (codes "2001.a") ≡ Some BadShape
letter_for_a_number = refl

three_digits : thing_fault (codes "201.4") ≡ Some BadShape
three_digits = refl

loan_for_a_thing : thing_fault (codes "LO2024.1") ≡ Some BadShape
loan_for_a_thing = refl

pub leading_zero : thing_fault (codes "2001.04") ≡ Some BadNumber
leading_zero = refl

pub seven_digits : thing_fault (codes "2001.1000000") ≡ Some BadNumber
seven_digits = refl

pub borrowed : thing_fault (codes "L1999.7") ≡ None
borrowed = refl

pub borrowed_kind : thing_kind (codes "L1999.7") ≡ Borrowed
borrowed_kind = refl

pub container : thing_fault (codes "C17") ≡ None
container = refl

pub container_kind : thing_kind (codes "C17") ≡ Container
container_kind = refl

pub container_zero : thing_fault (codes "C0") ≡ Some BadNumber
container_zero = refl

pub nothing : thing_fault [] ≡ Some Empty
nothing = refl

pub loan_out : loan_fault (codes "LO2024.1") ≡ None
loan_out = refl

pub loan_out_is_out : is_out (codes "LO2024.1") ≡ true
loan_out_is_out = refl

pub loan_in_is_not : is_out (codes "LI2024.1") ≡ false
loan_in_is_not = refl

pub loan_zero : loan_fault (codes "LO2024.01") ≡ Some BadNumber
loan_zero = refl

pub loan_letter : loan_fault (codes "LO2024.1a") ≡ Some BadShape
loan_letter = refl

pub four_segments : place_fault (codes "A-B-C-D") ≡ None
four_segments = refl

loan_of_two_groups : loan_fault (codes "LO2024.1.1") ≡ Some BadShape
loan_of_two_groups = refl

pub five_segments : place_fault (codes "A-B-C-D-E") ≡ Some BadShape
five_segments = refl

-- a place lies in a place by segments, not by bytes
pub shelf_in_store : lies_in (codes "S1-A") (codes "S1") ≡ true
shelf_in_store = refl

pub ten_not_in_one : lies_in (codes "S10") (codes "S1") ≡ false
ten_not_in_one = refl

pub a_day : day_fault (codes "2024-05-01") ≡ None
a_day = refl

pub no_leap_day : day_fault (codes "2023-02-29") ≡ Some NoSuchDay
no_leap_day = refl

pub short_month : day_fault (codes "2024-5-01") ≡ Some BadShape
short_month = refl

longest_name : LONGEST_NAME ≡ 60
longest_name = refl
