-- Defines the keys of a JSON message as printed, and which texts are valid at them.
use Rattle.std.specs.Prelude.{ℕ, ◌&&◌, nat_lt, nat_le, Bool, List, length, is_none, codes}
use Rattle.std.specs.List.{list_all}
use Rattle.std.specs.Str.{is_utf8}
use Rattle.codes_core.specs.Thing.{thing_fault}
use Rattle.codes_core.specs.Place.{place_fault}
use Rattle.codes_core.specs.Loan.{loan_fault}
use Rattle.codes_core.specs.Day.{day_fault}
use Rattle.codes_core.specs.Name.{is_name_byte}
use Rattle.codes_core.specs.declared.TheConstants.{LONGEST_NAME}
use Rattle.register_store.specs.declared.key.Key.{Key}
use Rattle.register_store.specs.declared.key.Key.TheVariants.{Kind, Thing, Place, Container, Day}
use Rattle.register_store.specs.declared.key.Key.TheVariants.{By, Loan, Partner, Objects, First}
use Rattle.register_store.specs.declared.key.Key.TheVariants.{Last, Station, N, Message, Ask}

abbrev pub key_name : Key → List ℕ
key_name Kind = codes "kind"
key_name Thing = codes "thing"
key_name Place = codes "place"
key_name Container = codes "container"
key_name Day = codes "day"
key_name By = codes "by"
key_name Loan = codes "loan"
key_name Partner = codes "partner"
key_name Objects = codes "objects"
key_name First = codes "first"
key_name Last = codes "last"
key_name Station = codes "station"
key_name N = codes "n"
key_name Message = codes "message"
key_name Ask = codes "ask"

-- The text is a thing's code.
abbrev pub is_thing : List ℕ → Bool
is_thing text = is_none (thing_fault text)

-- The text is a place's code.
abbrev pub is_place : List ℕ → Bool
is_place text = is_none (place_fault text)

-- The text is a loan's code.
abbrev pub is_loan : List ℕ → Bool
is_loan text = is_none (loan_fault text)

-- The text is a day of the calendar.
abbrev pub is_day : List ℕ → Bool
is_day text = is_none (day_fault text)

-- The text is a name: UTF-8 of 1 to 60 bytes, none of them a control byte.
abbrev pub is_name : List ℕ → Bool
is_name text =
    is_utf8 text && nat_lt 0 (length text) && nat_le (length text) LONGEST_NAME
    && list_all is_name_byte text
