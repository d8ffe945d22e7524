-- Defines the values of a row.
use Rattle.std.specs.Prelude.{ℕ, ◌∷◌, [], List, codes}
use Rattle.std.specs.List.{join_by}
use Rattle.codes_core.specs.Day.{day_text}
use Rattle.nest_core.specs.Museum.{Museum}
use Rattle.reports.specs.Cells.{Cell, nothing, number, text}
use Rattle.reports.specs.Texts.{thing_text}
use Rattle.reports.specs.declared.sections.values.Value.{Value}
use Rattle.reports.specs.declared.sections.values.Value.TheVariants as value

-- The cell of a report for a value.
abbrev pub value_of : Value → Cell
value_of value.Nothing = nothing
value_of (value.Number n) = number n
value_of (value.Word t) = text t.now
value_of (value.Day d) = text (day_text d)
value_of (value.Thing c) = text c
value_of (value.Place c) = text c
value_of (value.Loan c) = text c

-- The text. No value if it is empty.
abbrev pub word_if : List ℕ → Cell
word_if [] = nothing
word_if (b ∷ bs) = text (b ∷ bs)

-- C2 C1: the codes of these things, with spaces between them.
abbrev pub codes_text : Museum → List ℕ → List ℕ
codes_text S things = join_by (thing_text S) (codes " ") things
