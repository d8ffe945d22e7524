-- Defines a page as pieces: markup that the page itself has, and texts that come from outside.
use Rattle.std.specs.Prelude.{ℕ, [], List, decimal}
use Rattle.std.specs.List.{filter, flat_map}
use Rattle.page_core.specs.Escapes.{escaped, is_mark}

-- A piece of a page: markup, a text from outside, or a number.
pub data Piece : Type 0 where
  markup : List ℕ → Piece
  text : List ℕ → Piece
  number : ℕ → Piece

-- A piece as it is written in the page.
abbrev pub piece_text : Piece → List ℕ
piece_text (markup m) = m
piece_text (text t) = escaped t
piece_text (number n) = decimal n

-- The text of a page.
abbrev pub page_text : List Piece → List ℕ
page_text pieces = flat_map piece_text pieces

-- The bytes of a text that can begin or end a tag or an attribute, in their order.
abbrev pub marks : List ℕ → List ℕ
marks bytes = filter is_mark bytes

-- Those of the markup alone.
abbrev pub own_marks : Piece → List ℕ
own_marks (markup m) = marks m
own_marks (text t) = []
own_marks (number n) = []
