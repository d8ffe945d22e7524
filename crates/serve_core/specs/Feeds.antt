-- Defines the items of a station's feed text.
use Rattle.std.specs.Prelude.{ℕ, ◌+◌, ◌≤◌, List, [], ◌∷◌, ◌++◌, length, drop, Result, Ok, Err}
use Rattle.std.specs.Prelude.{if◌then◌else◌}
use Rattle.register_store.specs.declared.fault.ReadFault.{ReadFault}
use Rattle.hub_core.specs.declared.line.request.Request.{Request}
use Rattle.hub_core.specs.declared.line.request.Request.TheVariants as asks
use Rattle.hub_core.specs.Lines.{is_empty, lines}
use Rattle.hub_core.specs.LineText.{is_too_long}
use Rattle.hub_core.specs.Requests.{request_in}
use Rattle.serve_core.specs.declared.item.Item.{Item}
use Rattle.serve_core.specs.declared.item.Item.TheVariants.{Scan, Ask, Bad}
use Rattle.serve_core.specs.declared.item.LineFault.TheVariants.{TooLong, Read}
use Rattle.serve_core.specs.declared.text_feed.Place.{Place}

-- The item of a request.
abbrev pub request_item : Request → Item
request_item (asks.Scan n message) = Scan n message
request_item (asks.Ask code) = Ask code

-- The item of line `number`: its request, or its fault with that number.
abbrev pub asked_item : ℕ → Result Request ReadFault → Item
asked_item number (Ok request) = request_item request
asked_item number (Err fault) = Bad number (Read fault)

-- The item of line `number`. TooLong for more than 16,384 bytes; an empty line has none.
abbrev pub line_items : ℕ → List ℕ → List Item
line_items number line =
    if is_empty line then []
    else (if is_too_long line then Bad number TooLong else asked_item number (request_in line)) ∷ []

-- The items of lines. The first line has this number.
abbrev pub items_from : ℕ → List (List ℕ) → List Item
items_from number [] = []
items_from number (line ∷ rest) = line_items number line ++ items_from (number + 1) rest

-- The items of a feed text, its lines counted from 1.
abbrev pub text_items : List ℕ → List Item
text_items bytes = items_from 1 (lines bytes)

-- The items from a position in the text on.
abbrev pub items_left : List ℕ → Place → List Item
items_left bytes p = items_from p.number (lines (drop p.at bytes))

-- A position in the text and the number of the line there. Each line before it has at least one
-- byte, so the number is bounded.
abbrev pub IsPlaceIn : List ℕ → Place → Type 0
IsPlaceIn bytes p = (p.at ≤ length bytes) × (p.number ≤ p.at + 1)
