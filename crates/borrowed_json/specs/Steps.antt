-- Defines how a lexeme, a name or a value is taken off the front of a text, for private clauses.
use Rattle.std.specs.Prelude.{ℕ, ◌≡◌, ◌≢◌, ◌<◌, ◌≤◌, Bool, true, false}
use Rattle.std.specs.Prelude.{List, ◌∷◌, length, Some}
use Rattle.std.specs.Prelude.{None, if◌then◌else◌}
use Rattle.json.specs.Token.{Token, string}
use Rattle.json.specs.Json.{items, members, value}
use Rattle.json.specs.Lex.{Lexeme, token, comma, colon, between, lex, Place, fresh, after_value}
use Rattle.json.specs.Lex.{may_begin, may_close, punctuate}
use Rattle.serde_json.specs.Data.{Data, Items, Members, no_members}
use Rattle.serde_json.specs.Read.{of_json, of_items, of_members, converted}
use Rattle.borrowed_json.specs.Plain.{IsPlain}

-- The text begins with this lexeme, and the rest follows it.
pub record Takes (text : List ℕ) (l : Lexeme) (rest : List ℕ) : Type 0 where
  pub lexeme : lex between text ≡ l ∷ lex between rest
  pub plain : IsPlain text → IsPlain rest
  pub shorter : length rest < length text

-- The text doesn't begin with this lexeme.
abbrev pub Lacks : List ℕ → Lexeme → Type 0
Lacks text l = (ls : List Lexeme) → lex between text ≢ l ∷ ls

-- The text begins with this name and its colon, and the rest follows them.
pub record TakesName (text name rest : List ℕ) : Type 0 where
  pub lexemes : lex between text ≡ token (string name) ∷ colon ∷ lex between rest
  pub plain : IsPlain text → IsPlain rest
  pub shorter : length rest < length text

-- The text doesn't begin with a name and its colon.
abbrev pub LacksName : List ℕ → Type 0
LacksName text = (name : List ℕ) (ls : List Lexeme)
    → lex between text ≢ token (string name) ∷ colon ∷ ls

-- The tokens of the text inside an array or an object, at its start or later, after an item.
abbrev pub tokens_at : Bool → List ℕ → List Token
tokens_at later text = punctuate (if later then after_value else fresh) (lex between text)

-- The next item or member, if there is one, begins at the rest.
pub record Begins (later : Bool) (text rest : List ℕ) : Type 0 where
  pub place : Place
  pub begins : may_begin place ≡ true
  pub tokens : tokens_at later text ≡ punctuate place (lex between rest)
  pub closes : may_close place ≡ true → rest ≡ text
  pub plain : IsPlain text → IsPlain rest
  pub no_longer : length rest ≤ length text

-- No item or member follows: there is no comma.
pub record Lasts (later : Bool) (text : List ℕ) : Type 0 where
  pub later_is : later ≡ true
  pub no_comma : Lacks text comma

-- The text begins with a value of these data, wherever a value may begin, and the rest follows it.
pub record Reads (depth : ℕ) (text : List ℕ) (d : Data) (rest : List ℕ) : Type 0 where
  pub reads : (p : Place) → may_begin p ≡ true
      → converted of_json (value depth (punctuate p (lex between text)))
      ≡ Some (d, punctuate after_value (lex between rest))
  pub plain : IsPlain text → IsPlain rest
  pub shorter : length rest < length text

-- The text inside an array begins with these items and the closing bracket.
pub record ReadsItems (depth : ℕ) (text : List ℕ) (ds : Items) (rest : List ℕ) : Type 0 where
  pub reads : converted of_items
      (items (value depth) (length (tokens_at false text)) (tokens_at false text))
      ≡ Some (ds, tokens_at true rest)
  pub plain : IsPlain text → IsPlain rest
  pub no_longer : length rest ≤ length text

-- The text inside an object begins with these members and the closing brace.
pub record ReadsMembers (depth : ℕ) (text : List ℕ) (ms : Members) (rest : List ℕ)
    : Type 0 where
  pub reads : converted (λ js. of_members js no_members)
      (members (value depth) (length (tokens_at false text)) (tokens_at false text))
      ≡ Some (ms, tokens_at true rest)
  pub plain : IsPlain text → IsPlain rest
  pub no_longer : length rest ≤ length text

-- The text begins with no value.
abbrev pub HasNone : ℕ → List ℕ → Type 0
HasNone depth text = (p : Place) → may_begin p ≡ true
    → converted of_json (value depth (punctuate p (lex between text))) ≡ None

-- The text inside an array doesn't begin with items and the closing bracket.
abbrev pub HasNoItems : ℕ → List ℕ → Type 0
HasNoItems depth text =
    converted of_items (items (value depth) (length (tokens_at false text)) (tokens_at false text))
    ≡ None

-- The text inside an object doesn't begin with members and the closing brace.
abbrev pub HasNoMembers : ℕ → List ℕ → Type 0
HasNoMembers depth text = converted (λ js. of_members js no_members)
    (members (value depth) (length (tokens_at false text)) (tokens_at false text)) ≡ None
