-- Defines the data that a borrowed JSON value stands for, as `serde_json` has it.
use Rattle.std.specs.Prelude.{ℕ, List, [], ◌∷◌, map}
use Rattle.std.specs.Borrow.{Bor}
use Rattle.serde_json.specs.Data.{Data, null, boolean, number, string, array, object}
use Rattle.serde_json.specs.Data.{Items, Members, no_members, put}
use Rattle.serde_json.specs.View.{number_view, items_of}
use Rattle.borrowed_json.specs.declared.value.Value.{Value, fold-Value}
use Rattle.borrowed_json.specs.declared.value.Value.TheOpen.{Value-F}

-- Members go in one after another, so that the last value of a repeated key counts.
abbrev pub put_all : List (Bor (List ℕ) × Data) → Members → Members
put_all [] found = found
put_all (m ∷ ms) found = put_all ms (put m.0.now m.1 found)

-- One level of a value, with the values inside already replaced by their data.
abbrev pub view_step : Value-F Data → Data
view_step Value-F.Null = null
view_step (Value-F.Bool b) = boolean b
view_step (Value-F.Number x) = number (number_view x)
view_step (Value-F.String s) = string s.now
view_step (Value-F.Array v) = array (items_of v.now)
view_step (Value-F.Object v) = object (put_all v.now no_members)

-- The data of a value.
abbrev pub view : Value → Data
view = fold-Value Data view_step

-- The data of an array's items.
abbrev pub items_view : List Value → Items
items_view vs = items_of (map view vs)

-- The data of an object's members.
abbrev pub members_view : List (Bor (List ℕ) × Value) → Members
members_view ms = put_all (map (λ m. (m.0, view m.1)) ms) no_members
