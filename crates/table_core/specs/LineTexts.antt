-- Defines the lines that a station sends for the messages of a table.
use Rattle.std.specs.Prelude.{ℕ, ◌++◌, List, codes}
use Rattle.std.specs.List.{AllByRecursion, flat_map}
use Rattle.register_store.specs.SentLines.{ReadsAs, sent_line}
use Rattle.table_core.specs.declared.row.TableLine.{TableLine}

-- The line of a message with its line feed.
abbrev pub sent_text : List ℕ → TableLine → List ℕ
sent_text station line = sent_line station line.number line.message ++ codes "\n"

-- All lines, in their order.
abbrev pub lines_text : List ℕ → List TableLine → List ℕ
lines_text station lines = flat_map (sent_text station) lines

-- A replay reads the line as the station's message under its number.
abbrev pub ReadsAsItself : List ℕ → TableLine → Type 0
ReadsAsItself station line =
    ReadsAs station line.number line.message (sent_line station line.number line.message)

abbrev pub EachReadsAs : List ℕ → List TableLine → Type 0
EachReadsAs station lines = AllByRecursion (ReadsAsItself station) lines
