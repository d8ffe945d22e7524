-- Defines the line that a station sends for a message, and when bytes read as a station's line.
use Rattle.std.specs.Prelude.{ℕ, ◌≡◌, ◌++◌, List, [], ◌∷◌, IsTrue, None, Some, is_some, Ok}
use Rattle.std.specs.Prelude.{codes}
use Rattle.std.specs.Prelude.{decimal}
use Rattle.std.specs.Str.{is_utf8}
use Rattle.json.specs.Token.{Token}
use Rattle.serde_json.specs.Data.{Data, string, number, unsigned}
use Rattle.serde_json.specs.Find.{get, as_object}
use Rattle.serde_json.specs.Read.{read}
use Rattle.posting_core.specs.declared.message.Message as message
use Rattle.register_store.specs.declared.key.Key.TheVariants.{Station, N, Message, Ask}
use Rattle.register_store.specs.Spelling.{key_name}
use Rattle.register_store.specs.Kinds.{of_json}
use Rattle.register_store.specs.MessageText.{body_of}
use Rattle.register_store.specs.MessageTokens.{tokens_of}

-- The line of message m under number n, without its line feed. A station's name needs no escapes.
abbrev pub sent_line : List ℕ → ℕ → message.Message → List ℕ
sent_line station n m =
    codes "{\"station\":\"" ++ station ++ codes "\",\"n\":" ++ decimal n ++ codes ",\"message\":"
    ++ body_of m ++ codes "}"

-- The tokens of the line before its message.
abbrev pub head_tokens : List ℕ → ℕ → List Token
head_tokens station n =
    Token.begin_object ∷ Token.key (codes "station") ∷ Token.string station
    ∷ Token.key (codes "n") ∷ Token.number (decimal n) ∷ Token.key (codes "message") ∷ []

-- The tokens of the line.
abbrev pub line_tokens : List ℕ → ℕ → message.Message → List Token
line_tokens station n m = head_tokens station n ++ (tokens_of m ++ Token.end_object ∷ [])

-- The value is an object that spells message m.
pub record SpellsMessage (m : message.Message) (value : Data) : Type 0 where
  pub is_object : IsTrue (is_some (as_object value))
  pub spells : of_json value ≡ Ok m

-- The value is an object with this station, this number and this message, and no question.
pub record IsLine (station : List ℕ) (n : ℕ) (m : message.Message) (value : Data) : Type 0 where
  pub is_object : IsTrue (is_some (as_object value))
  pub has_station : get (key_name Station) value ≡ Some (string station)
  pub no_question : get (key_name Ask) value ≡ None
  pub has_number : get (key_name N) value ≡ Some (number (unsigned n))
  pub body : Data
  pub has_message : get (key_name Message) value ≡ Some body
  pub is_message : SpellsMessage m body

-- A replay reads the bytes as this station's message m under number n.
pub record ReadsAs (station : List ℕ) (n : ℕ) (m : message.Message) (bytes : List ℕ)
    : Type 0 where
  pub utf8 : IsTrue (is_utf8 bytes)
  pub value : Data
  pub json : read bytes ≡ Some value
  pub is_line : IsLine station n m value
