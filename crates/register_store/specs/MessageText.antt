-- Defines the one text of a message: the compact JSON of an object with its kind and the keys of
-- that kind.
use Rattle.std.specs.Prelude.{ℕ, ℤ, ◌≡◌, ◌≤◌, true, List, [], ◌∷◌, length, map, None, codes}
use Rattle.std.specs.List.{list_all}
use Rattle.serde_json.specs.Data.{Data, string, array, object, Members, no_members, put}
use Rattle.serde_json.specs.View.{items_of}
use Rattle.serde_json.specs.Written.{compact_text}
use Rattle.codes_core.specs.Day.{day_text, IsOnlySpelling}
use Rattle.codes_core.specs.Loan.{loan_fault}
use Rattle.codes_core.specs.Name.{IsName}
use Rattle.codes_core.specs.Place.{place_fault}
use Rattle.codes_core.specs.Thing.{thing_fault}
use Rattle.posting_core.specs.declared.TheConstants.{MOST_OBJECTS}
use Rattle.posting_core.specs.declared.message.Message as message
use Rattle.posting_core.specs.declared.message.Message.TheVariants.{Move, Pack, Agree, Authorise}
use Rattle.posting_core.specs.declared.message.Message.TheVariants.{Exit, Return, Receive, SignOff}
use Rattle.posting_core.specs.declared.message.Message.TheVariants.{Extend}
use Rattle.register_store.specs.declared.key.Key.{Key}
use Rattle.register_store.specs.declared.key.Key.TheVariants.{Kind, Thing, Place, Container, Day}
use Rattle.register_store.specs.declared.key.Key.TheVariants.{By, Loan, Partner, Objects, First}
use Rattle.register_store.specs.declared.key.Key.TheVariants.{Last}
use Rattle.register_store.specs.Spelling.{key_name, is_thing}

-- A key and its value.
pub record Member : Type 0 where
  pub key : Key
  pub value : Data

infixl 10 ◌is◌
-- A key with a string.
abbrev pub ◌is◌ : Key → List ℕ → Member
key is text = record { key = key; value = string text }

infixl 10 ◌on◌
-- A key with a day, as the only text that spells it.
abbrev pub ◌on◌ : Key → ℤ → Member
key on day = record { key = key; value = string (day_text day) }

infixl 10 ◌are◌
-- A key with an array of strings.
abbrev pub ◌are◌ : Key → List (List ℕ) → Member
key are texts = record { key = key; value = array (items_of (map string texts)) }

-- The members of an object, in ascending order of the bytes of their keys.
abbrev pub members_of : List Member → Members
members_of [] = no_members
members_of (m ∷ ms) = put (key_name m.key) m.value (members_of ms)

-- The members of a message. The order here is that of the table of kinds; the text sorts them.
abbrev pub members : message.Message → List Member
members (Move day x p) = (Kind is codes "move") ∷ (Thing is x) ∷ (Place is p) ∷ (Day on day) ∷ []
members (Pack day x c) =
    (Kind is codes "pack") ∷ (Thing is x) ∷ (Container is c) ∷ (Day on day) ∷ []
members (Agree first last loan partner objects) =
    (Kind is codes "agree") ∷ (Loan is loan) ∷ (Partner is partner) ∷ (Objects are objects)
    ∷ (First on first) ∷ (Last on last) ∷ []
members (Authorise name loan) = (Kind is codes "authorise") ∷ (Loan is loan) ∷ (By is name) ∷ []
members (Exit day x loan) =
    (Kind is codes "exit") ∷ (Thing is x) ∷ (Loan is loan) ∷ (Day on day) ∷ []
members (Return day x loan p) =
    (Kind is codes "return") ∷ (Thing is x) ∷ (Loan is loan) ∷ (Place is p) ∷ (Day on day) ∷ []
members (Receive day x loan p) =
    (Kind is codes "receive") ∷ (Thing is x) ∷ (Loan is loan) ∷ (Place is p) ∷ (Day on day) ∷ []
members (SignOff name) = (Kind is codes "signoff") ∷ (By is name) ∷ []
members (Extend last loan) = (Kind is codes "extend") ∷ (Loan is loan) ∷ (Last on last) ∷ []

-- The object of a message.
abbrev pub json : message.Message → Data
json m = object (members_of (members m))

-- The one text of a message. By law (`laws::one_text`) no other text is kept for it.
abbrev pub body_of : message.Message → List ℕ
body_of m = compact_text (json m)

-- The text is that of the message.
abbrev pub IsTextOf : message.Message → List ℕ → Type 0
IsTextOf m text = text ≡ body_of m

-- One text spells the day, and no other does.
abbrev pub IsDay : ℤ → Type 0
IsDay day = IsOnlySpelling (day_text day) day

-- Codes of things, at most as many as a loan can list.
pub record AreThings (objects : List (List ℕ)) : Type 0 where
  pub things : list_all is_thing objects ≡ true
  pub few : length objects ≤ MOST_OBJECTS

-- The texts in a message are codes, names and days. This is the invariant of every message.
abbrev pub IsSpelled : message.Message → Type 0
IsSpelled (Move day x p) = (thing_fault x ≡ None) × (place_fault p ≡ None) × IsDay day
IsSpelled (Pack day x c) = (thing_fault x ≡ None) × (thing_fault c ≡ None) × IsDay day
IsSpelled (Agree first last loan partner objects) =
    (loan_fault loan ≡ None) × (place_fault partner ≡ None) × AreThings objects × IsDay first
    × IsDay last
IsSpelled (Authorise name loan) = (loan_fault loan ≡ None) × IsName name
IsSpelled (Exit day x loan) = (thing_fault x ≡ None) × (loan_fault loan ≡ None) × IsDay day
IsSpelled (Return day x loan p) =
    (thing_fault x ≡ None) × (loan_fault loan ≡ None) × (place_fault p ≡ None) × IsDay day
IsSpelled (Receive day x loan p) =
    (thing_fault x ≡ None) × (loan_fault loan ≡ None) × (place_fault p ≡ None) × IsDay day
IsSpelled (SignOff name) = IsName name
IsSpelled (Extend last loan) = (loan_fault loan ≡ None) × IsDay last
