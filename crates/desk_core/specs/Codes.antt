-- Defines why a word is rejected where a code, a day or a name is wanted. `forced` lets codes pass
-- that aren't in the setup.
use Rattle.std.specs.Prelude.{ℕ, ◌&&◌, ◌||◌, ◌∷◌, [], Bool, false, true, List, Option, None, Some}
use Rattle.std.specs.Prelude.{if◌then◌else◌, is_none, length, map, nat_le, nat_lt, not}
use Rattle.std.specs.Char.{to_ascii_lowercase, to_ascii_uppercase}
use Rattle.std.specs.List.{list_all}
use Rattle.std.specs.Str.{is_utf8}
use Rattle.codes_core.specs.declared.TheConstants.{LONGEST_NAME}
use Rattle.codes_core.specs.Day.{day_fault}
use Rattle.codes_core.specs.Loan.{loan_fault}
use Rattle.codes_core.specs.Name.{is_name_byte}
use Rattle.codes_core.specs.Place.{place_fault}
use Rattle.codes_core.specs.Thing.{thing_fault}
use Rattle.nest_core.specs.Museum.{Museum}
use Rattle.posting_core.specs.declared.TheConstants.{MOST_OBJECTS}
use Rattle.posting_core.specs.Verdicts.{is_container_code, is_known, is_known_place}
use Rattle.desk_core.specs.declared.said.Code.TheVariants.{Place, Thing}
use Rattle.desk_core.specs.declared.said.Rejection.{Rejection}
use Rattle.desk_core.specs.declared.said.Rejection.TheVariants.{NotListed, NotUnderstood}
use Rattle.desk_core.specs.declared.said.Rejection.TheVariants.{OtherCase}
use Rattle.desk_core.specs.Desks.{first_rejection}

abbrev pub is_place : List ℕ → Bool
is_place text = is_none (place_fault text)

abbrev pub is_thing : List ℕ → Bool
is_thing text = is_none (thing_fault text)

-- The byte in upper case, or in lower case.
abbrev pub cased : Bool → ℕ → ℕ
cased upper b = if upper then to_ascii_uppercase b else to_ascii_lowercase b

-- The text as places are written: in upper case.
abbrev pub as_place : List ℕ → List ℕ
as_place text = map (cased true) text

abbrev pub capitalised : List ℕ → List ℕ
capitalised [] = []
capitalised (b ∷ bs) = to_ascii_uppercase b ∷ bs

-- The text as things are written: the first letter in upper case, the others in lower case.
abbrev pub as_thing : List ℕ → List ℕ
as_thing text = capitalised (map (cased false) text)

-- The text is the code of a place of the setup.
abbrev pub lists_place : Museum → List ℕ → Bool
lists_place S text = is_place text && is_known_place S text

-- The text is the code of a thing of the setup.
abbrev pub lists_thing : Museum → List ℕ → Bool
lists_thing S text = is_thing text && is_known S text

-- Why the word isn't the code of a place. A code passes if the setup lists it. A word that would be
-- a listed code in the right case is rejected with that code.
unfoldable pub place_rejection : Museum → Bool → List ℕ → Option Rejection
place_rejection S forced word =
    if is_place word
    then (if forced || is_known_place S word then None else Some (NotListed (Place word)))
    else (if lists_place S (as_place word) then Some (OtherCase (Place (as_place word)))
    else Some NotUnderstood)

-- Why the word isn't the code of a thing.
unfoldable pub thing_rejection : Museum → Bool → List ℕ → Option Rejection
thing_rejection S forced word =
    if is_thing word
    then (if forced || is_known S word then None else Some (NotListed (Thing word)))
    else (if lists_thing S (as_thing word) then Some (OtherCase (Thing (as_thing word)))
    else Some NotUnderstood)

-- Why the word isn't the code of a container.
unfoldable pub container_rejection : Museum → Bool → List ℕ → Option Rejection
container_rejection S forced word =
    if is_thing word && not (is_container_code word) then Some NotUnderstood
    else thing_rejection S forced word

-- Why the word isn't the code of a loan. The setup lists no loans.
unfoldable pub loan_rejection : List ℕ → Option Rejection
loan_rejection word = if is_none (loan_fault word) then None else Some NotUnderstood

unfoldable pub day_rejection : List ℕ → Option Rejection
day_rejection word = if is_none (day_fault word) then None else Some NotUnderstood

-- UTF-8 of 1 to 60 bytes, none of them a control byte.
abbrev pub is_name : List ℕ → Bool
is_name text =
    is_utf8 text && nat_lt 0 (length text) && nat_le (length text) LONGEST_NAME
    && list_all is_name_byte text

unfoldable pub name_rejection : List ℕ → Option Rejection
name_rejection text = if is_name text then None else Some NotUnderstood

-- Why one of the words isn't the code of a thing. The first counts.
unfoldable pub things_rejection : Museum → Bool → List (List ℕ) → Option Rejection
things_rejection S forced words = first_rejection (map (thing_rejection S forced) words)

-- A loan needs an object, and can't have more than 256 (`MOST_OBJECTS`).
abbrev pub count_rejection : ℕ → Option Rejection
count_rejection count =
    if nat_lt 0 count && nat_le count MOST_OBJECTS then None else Some NotUnderstood

-- Why the words aren't the objects of a loan: the first that isn't the code of a thing, or their
-- number.
unfoldable pub objects_rejection : Museum → Bool → List (List ℕ) → Option Rejection
objects_rejection S forced words =
    first_rejection (things_rejection S forced words ∷ count_rejection (length words) ∷ [])
