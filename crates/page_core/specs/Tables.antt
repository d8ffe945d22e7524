-- Defines a row of a table of HTML.
use Rattle.std.specs.Prelude.{ℕ, ◌∷◌, ◌++◌, [], List, codes}
use Rattle.std.specs.List.{flat_map}
use Rattle.page_core.specs.Pieces.{Piece}
use Rattle.page_core.specs.Pieces.Piece.{markup, text}

-- A cell with a text from outside: <td>LO2024.1</td>
abbrev pub cell : List ℕ → List Piece
cell t = markup (codes "<td>") ∷ text t ∷ markup (codes "</td>") ∷ []

-- A row with a cell for each text.
abbrev pub table_row : List (List ℕ) → List Piece
table_row texts =
    markup (codes "<tr>") ∷ (flat_map cell texts ++ markup (codes "</tr>\n") ∷ [])
