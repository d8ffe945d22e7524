-- Defines the cells of a row, and their text: as a word of a plain line, and as JSON.
use Rattle.std.specs.Prelude.{◌∷◌, ◌++◌, [], ℕ, ℤ, Bool, List, None, Option, Some, codes, decimal}
use Rattle.std.specs.Prelude.{false, if◌then◌else◌, string_bytes, true, unwrap_or}
use Rattle.std.specs.List.{filter, join_by}
use Rattle.std.specs.Option.{option_map}
use Rattle.codes_core.specs.Day.{day_text}
use Rattle.serde_json.specs.Data.{string}
use Rattle.serde_json.specs.Written.{compact_text}
use Rattle.reports.specs.declared.field.Field.{Field}
use Rattle.reports.specs.declared.field.Field.TheVariants as field

-- A cell of a row: a value, or no value.
pub data Cell : Type 0 where
  nothing : Cell
  number : ℕ → Cell
  flag : Bool → Cell
  text : List ℕ → Cell
  texts : List (List ℕ) → Cell
  json : List ℕ → Cell

-- The cell of a field.
abbrev pub cell_of : Field → Cell
cell_of field.Nothing = nothing
cell_of (field.Number n) = number n
cell_of (field.Flag b) = flag b
cell_of (field.Word t) = text t.now
cell_of (field.Day d) = text (day_text d)
cell_of (field.Thing c) = text c
cell_of (field.Place c) = text c
cell_of (field.Loan c) = text c
cell_of (field.Things cs) = texts cs.items
cell_of (field.Text t) = text (string_bytes t)
cell_of (field.Json t) = json (string_bytes t)

abbrev pub number_if : Option ℕ → Cell
number_if None = nothing
number_if (Some n) = number n

abbrev pub text_if : Option (List ℕ) → Cell
text_if None = nothing
text_if (Some t) = text t

abbrev pub day_if : Option ℤ → Cell
day_if d = text_if (option_map day_text d)

-- The text, or a dash if there is none.
abbrev pub or_dash : Option (List ℕ) → Cell
or_dash t = text (unwrap_or t (codes "-"))

-- The word that goes before these codes, if there are any.
abbrev pub in_if : List (List ℕ) → Cell
in_if [] = nothing
in_if (t ∷ ts) = text (codes "in")

abbrev pub flag_text : Bool → List ℕ
flag_text b = if b then codes "true" else codes "false"

-- The cell as plain text. No value is an empty text; several texts have spaces between them.
abbrev pub plain_text : Cell → List ℕ
plain_text nothing = []
plain_text (number n) = decimal n
plain_text (flag b) = flag_text b
plain_text (text t) = t
plain_text (texts ts) = join_by (λ t. t) (codes " ") ts
plain_text (json t) = t

-- The cell is a word of a plain line: it is neither nothing nor an empty list of texts.
abbrev pub is_shown : Cell → Bool
is_shown nothing = false
is_shown (texts []) = false
is_shown _ = true

-- The words with spaces between them.
abbrev pub joined_words : List Cell → List ℕ
joined_words words = join_by plain_text (codes " ") (filter is_shown words)

-- A plain line: the words with spaces between them, and a line feed.
abbrev pub words_line : List Cell → List ℕ
words_line words = joined_words words ++ codes "\n"

-- The text as a JSON string.
abbrev pub quoted : List ℕ → List ℕ
quoted t = compact_text (string t)

-- The cell as JSON. No value is null.
abbrev pub json_text : Cell → List ℕ
json_text nothing = codes "null"
json_text (number n) = decimal n
json_text (flag b) = flag_text b
json_text (text t) = quoted t
json_text (texts ts) = codes "[" ++ (join_by quoted (codes ",") ts ++ codes "]")
json_text (json t) = t

-- A member of a JSON object.
abbrev pub member : List ℕ → Cell → List ℕ
member name value = quoted name ++ (codes ":" ++ json_text value)

abbrev pub members : List (List ℕ) → List Cell → List (List ℕ)
members [] values = []
members (name ∷ names) [] = []
members (name ∷ names) (value ∷ values) = member name value ∷ members names values

-- A JSON object with a member for each name, in their order, and a line feed.
abbrev pub object_line : List (List ℕ) → List Cell → List ℕ
object_line names values =
    codes "{" ++ (join_by (λ m. m) (codes ",") (members names values) ++ codes "}\n")
