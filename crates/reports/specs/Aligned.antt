-- Defines a table: aligned columns below a heading.
use Rattle.std.specs.Prelude.{◌∷◌, ◌++◌, ◌-◌, [], ℕ, List, chars, codes, false}
use Rattle.std.specs.Prelude.{if◌then◌else◌, map, max}
use Rattle.std.specs.List.{join_by, repeat}
use Rattle.unicode_width.specs.Width.{str_width}
use Rattle.reports.specs.Cells.{Cell, is_shown, plain_text}

-- The columns of a terminal that a text takes.
abbrev pub width : List ℕ → ℕ
width t = str_width false (chars t)

-- The text of a cell: its plain text, or a dash if it has no value.
abbrev pub cell_text : Cell → List ℕ
cell_text cell = if is_shown cell then plain_text cell else codes "-"

abbrev pub row_texts : List Cell → List (List ℕ)
row_texts row = map cell_text row

-- For each column, the wider of two widths.
abbrev pub wider : List ℕ → List ℕ → List ℕ
wider [] ws = ws
wider (v ∷ vs) [] = v ∷ vs
wider (v ∷ vs) (w ∷ ws) = max v w ∷ wider vs ws

-- A column is as wide as its widest text in these lines.
abbrev pub column_widths : List (List (List ℕ)) → List ℕ
column_widths [] = []
column_widths (line ∷ lines) = wider (map width line) (column_widths lines)

-- The text, with spaces after it up to this width.
abbrev pub filled : ℕ → List ℕ → List ℕ
filled w t = t ++ repeat (w - width t) (codes " ")

-- The texts of a line. Each but the last is filled to its column's width.
abbrev pub filled_texts : List ℕ → List (List ℕ) → List (List ℕ)
filled_texts (w ∷ ws) (t ∷ next ∷ ts) = filled w t ∷ filled_texts ws (next ∷ ts)
filled_texts _ ts = ts

-- A line: two spaces between its columns, and a line feed.
abbrev pub aligned_line : List ℕ → List (List ℕ) → List ℕ
aligned_line widths texts = join_by (λ t. t) (codes "  ") (filled_texts widths texts) ++ codes "\n"
