-- Defines the table of message kinds, and the message or the first fault of a JSON value by that
-- table.
use Rattle.std.specs.Prelude.{ℕ, ℤ, ◌&&◌, nat_le, Bool, false, List, [], ◌∷◌, length, map, Option}
use Rattle.std.specs.Prelude.{Some, None, is_some, option_and_then, unwrap_or, Result, Ok, Err}
use Rattle.std.specs.Prelude.{if◌then◌else◌, codes}
use Rattle.std.specs.Option.{option_map_or}
use Rattle.std.specs.List.{list_all}
use Rattle.std.specs.Str.{bytes_eq, is_utf8}
use Rattle.serde_json.specs.Data.{Data, null, boolean, number, string, array, object, Items}
use Rattle.serde_json.specs.Data.{no_items, item}
use Rattle.serde_json.specs.Find.{get, as_str, as_array}
use Rattle.serde_json.specs.Read.{read}
use Rattle.codes_core.specs.Day.{day_number}
use Rattle.posting_core.specs.declared.TheConstants.{MOST_OBJECTS}
use Rattle.posting_core.specs.declared.message.Message as message
use Rattle.posting_core.specs.declared.message.Message.TheVariants.{Move, Pack, Agree, Authorise}
use Rattle.posting_core.specs.declared.message.Message.TheVariants.{Exit, Return, Receive, SignOff}
use Rattle.posting_core.specs.declared.message.Message.TheVariants.{Extend}
use Rattle.register_store.specs.declared.fault.ReadFault.{ReadFault}
use Rattle.register_store.specs.declared.fault.ReadFault.TheVariants.{NotJson, Missing, BadKind}
use Rattle.register_store.specs.declared.fault.ReadFault.TheVariants.{BadField}
use Rattle.register_store.specs.declared.key.Key.{Key}
use Rattle.register_store.specs.declared.key.Key.TheVariants.{Kind, Thing, Place, Container, Day}
use Rattle.register_store.specs.declared.key.Key.TheVariants.{By, Loan, Partner, Objects, First}
use Rattle.register_store.specs.declared.key.Key.TheVariants.{Last}
use Rattle.register_store.specs.Spelling.{key_name, is_thing, is_place, is_loan, is_day, is_name}

-- A key of a kind, and which values are valid there.
pub record Field : Type 0 where
  pub key : Key
  pub fits : Data → Bool

-- A string that passes the test.
abbrev pub is_string : (List ℕ → Bool) → Data → Bool
is_string test value = option_map_or test (as_str value) false

infixl 10 ◌spells◌
-- A key with a string that passes the test.
abbrev pub ◌spells◌ : Key → (List ℕ → Bool) → Field
key spells test = record { key = key; fits = is_string test }

-- The items of an array, as a list.
abbrev pub items_list : Items → List Data
items_list no_items = []
items_list (item d ds) = d ∷ items_list ds

-- At most 256 strings (`MOST_OBJECTS`) that all pass the test.
abbrev pub are_strings : (List ℕ → Bool) → Items → Bool
are_strings test ds =
    nat_le (length (items_list ds)) MOST_OBJECTS && list_all (is_string test) (items_list ds)

infixl 10 ◌lists◌
-- A key with an array of strings that pass the test. These are the objects of a loan.
abbrev pub ◌lists◌ : Key → (List ℕ → Bool) → Field
key lists test =
    record { key = key; fits = λ value. option_map_or (are_strings test) (as_array value) false }

-- The text of a string. Empty for any other value.
abbrev pub text_of : Option Data → List ℕ
text_of value = unwrap_or (option_and_then as_str value) []

-- The text of the string at a key.
abbrev pub text_at : Data → Key → List ℕ
text_at d key = text_of (get (key_name key) d)

-- The texts of the strings in the array at a key.
abbrev pub texts_at : Data → Key → List (List ℕ)
texts_at d key =
    option_map_or (λ ds. map (λ value. text_of (Some value)) (items_list ds))
    (option_and_then as_array (get (key_name key) d)) []

-- The number of the day at a key.
abbrev pub day_at : Data → Key → ℤ
day_at d key = day_number (text_at d key)

-- A kind: its name, its keys in the order in which they are checked, and the message of an object
-- with a valid value at each key. Other keys of the object are ignored.
pub record Row : Type 0 where
  pub name : List ℕ
  pub fields : List Field
  pub message : Data → message.Message

abbrev pub move_row : Row
move_row = record {
  name = codes "move";
  fields = (Thing spells is_thing) ∷ (Place spells is_place) ∷ (Day spells is_day) ∷ [];
  message = λ d. Move (day_at d Day) (text_at d Thing) (text_at d Place);
}

abbrev pub pack_row : Row
pack_row = record {
  name = codes "pack";
  fields = (Thing spells is_thing) ∷ (Container spells is_thing) ∷ (Day spells is_day) ∷ [];
  message = λ d. Pack (day_at d Day) (text_at d Thing) (text_at d Container);
}

abbrev pub agree_row : Row
agree_row = record {
  name = codes "agree";
  fields = (Loan spells is_loan) ∷ (Partner spells is_place) ∷ (Objects lists is_thing)
      ∷ (First spells is_day) ∷ (Last spells is_day) ∷ [];
  message = λ d.
      Agree (day_at d First) (day_at d Last) (text_at d Loan) (text_at d Partner)
      (texts_at d Objects);
}

abbrev pub authorise_row : Row
authorise_row = record {
  name = codes "authorise";
  fields = (Loan spells is_loan) ∷ (By spells is_name) ∷ [];
  message = λ d. Authorise (text_at d By) (text_at d Loan);
}

abbrev pub exit_row : Row
exit_row = record {
  name = codes "exit";
  fields = (Thing spells is_thing) ∷ (Loan spells is_loan) ∷ (Day spells is_day) ∷ [];
  message = λ d. Exit (day_at d Day) (text_at d Thing) (text_at d Loan);
}

abbrev pub return_row : Row
return_row = record {
  name = codes "return";
  fields = (Thing spells is_thing) ∷ (Loan spells is_loan) ∷ (Place spells is_place)
      ∷ (Day spells is_day) ∷ [];
  message = λ d. Return (day_at d Day) (text_at d Thing) (text_at d Loan) (text_at d Place);
}

abbrev pub receive_row : Row
receive_row = record {
  name = codes "receive";
  fields = (Thing spells is_thing) ∷ (Loan spells is_loan) ∷ (Place spells is_place)
      ∷ (Day spells is_day) ∷ [];
  message = λ d. Receive (day_at d Day) (text_at d Thing) (text_at d Loan) (text_at d Place);
}

abbrev pub sign_off_row : Row
sign_off_row = record {
  name = codes "signoff";
  fields = (By spells is_name) ∷ [];
  message = λ d. SignOff (text_at d By);
}

abbrev pub extend_row : Row
extend_row = record {
  name = codes "extend";
  fields = (Loan spells is_loan) ∷ (Last spells is_day) ∷ [];
  message = λ d. Extend (day_at d Last) (text_at d Loan);
}

-- The kinds that name a loan.
abbrev pub loan_kinds : List Row
loan_kinds = agree_row ∷ authorise_row ∷ exit_row ∷ return_row ∷ receive_row ∷ extend_row ∷ []

-- All kinds.
abbrev pub kinds : List Row
kinds = move_row ∷ pack_row ∷ sign_off_row ∷ loan_kinds

-- The kinds whose messages keep a name or a list of objects, so that reading one allocates memory.
abbrev pub kinds_that_grow : List Row
kinds_that_grow = agree_row ∷ authorise_row ∷ sign_off_row ∷ []

-- The kind of this name.
abbrev pub kind_named : List Row → List ℕ → Option Row
kind_named [] name = None
kind_named (row ∷ rows) name = if bytes_eq name row.name then Some row else kind_named rows name

-- Missing if there is no value, BadField if it isn't valid.
abbrev pub value_fault : Field → Option Data → Option ReadFault
value_fault field None = Some (Missing field.key)
value_fault field (Some value) = if field.fits value then None else Some (BadField field.key)

-- The fault of an object at a key.
abbrev pub fault_at : Data → Field → Option ReadFault
fault_at d field = value_fault field (get (key_name field.key) d)

-- The fault, if there is one, otherwise the answer.
abbrev pub unless_fault : Option ReadFault → Result message.Message ReadFault
    → Result message.Message ReadFault
unless_fault None answer = answer
unless_fault (Some fault) answer = Err fault

-- The first fault in the order of the fields, otherwise the message.
abbrev pub of_fields : Data → List Field → message.Message → Result message.Message ReadFault
of_fields d [] m = Ok m
of_fields d (field ∷ fields) m = unless_fault (fault_at d field) (of_fields d fields m)

-- The message of an object of this kind, or its first fault.
abbrev pub of_row : Data → Row → Result message.Message ReadFault
of_row d row = of_fields d row.fields (row.message d)

-- BadKind if no kind has the name.
abbrev pub of_named : Data → Option Row → Result message.Message ReadFault
of_named d None = Err BadKind
of_named d (Some row) = of_row d row

-- The value is of a kind whose messages take memory.
abbrev pub takes_memory : Data → Bool
takes_memory d =
    is_some (option_and_then (kind_named kinds_that_grow)
    (option_and_then as_str (get (key_name Kind) d)))

-- The message by the value at `kind`: Missing if there is none, BadKind if it isn't the name of a
-- kind.
abbrev pub of_kind : Data → Option Data → Result message.Message ReadFault
of_kind d None = Err (Missing Kind)
of_kind d (Some kind) = of_named d (option_and_then (kind_named kinds) (as_str kind))

-- The message that a value spells, or its first fault: NotJson if it isn't an object, then those of
-- its kind, then those of its keys in their order.
abbrev pub of_json : Data → Result message.Message ReadFault
of_json null = Err NotJson
of_json (boolean b) = Err NotJson
of_json (number n) = Err NotJson
of_json (string s) = Err NotJson
of_json (array ds) = Err NotJson
of_json (object ms) = of_kind (object ms) (get (key_name Kind) (object ms))

-- NotJson if the bytes weren't JSON.
abbrev pub of_read : Option Data → Result message.Message ReadFault
of_read None = Err NotJson
of_read (Some d) = of_json d

-- The message that bytes spell, or their first fault: NotJson if they are not UTF-8 or not JSON.
abbrev pub of_bytes : List ℕ → Result message.Message ReadFault
of_bytes bytes = if is_utf8 bytes then of_read (read bytes) else Err NotJson
