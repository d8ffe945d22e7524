-- Defines the JSON tokens of a message's text.
use Rattle.std.specs.Prelude.{ℕ, ◌≡◌, List, [], ◌∷◌, ◌++◌, map, Result, OnOk}
use Rattle.json.specs.Token.{Token}
use Rattle.json.specs.Tree.{json_tokens}
use Rattle.json.specs.Written.{Written}
use Rattle.serde_json.specs.Written.{outline}
use Rattle.posting_core.specs.declared.message.Message as message
use Rattle.register_store.specs.declared.key.Key.{Key}
use Rattle.register_store.specs.Spelling.{key_name}
use Rattle.register_store.specs.MessageText.{json}

-- The tokens of a message's text.
abbrev pub tokens_of : message.Message → List Token
tokens_of m = json_tokens (outline (json m))

-- A key and a string.
abbrev pub text_tokens : Key → List ℕ → List Token
text_tokens key text = Token.key (key_name key) ∷ Token.string text ∷ []

-- Strings.
abbrev pub string_tokens : List (List ℕ) → List Token
string_tokens = map Token.string

-- A key and an array of strings.
abbrev pub list_tokens : Key → List (List ℕ) → List Token
list_tokens key texts =
    Token.key (key_name key) ∷ Token.begin_array ∷ (string_tokens texts ++ Token.end_array ∷ [])

-- The new writer has these tokens behind those of the old one.
pub record Grows (old new : Written) (ts : List Token) : Type 0 where
  pub before : new.before ≡ old.before
  pub tokens : new.tokens ≡ old.tokens ++ ts

-- After `Ok` the writer has these tokens behind its earlier ones.
abbrev pub Appends : {E : Type 0} → Result (Unit {0}) E → Written → Written → List Token → Type 0
Appends r old new ts = OnOk r (Grows old new ts)
