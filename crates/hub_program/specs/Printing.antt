-- Defines what the commands print that help with a station's messages. `o` and `o'` are the bytes
-- that the output holds before and after.
use Rattle.std.specs.Prelude.{ℕ, ℤ, ◌≡◌, ◌++◌, [], Bool, IsTrue, List, None, Ok, Option, Some}
use Rattle.std.specs.Prelude.{unwrap_or}
use Rattle.std.specs.Borrow.{Bor}
use Rattle.std.specs.Io.KnownBytes.{Appends}
use Rattle.command_words.specs.Words.{text_of}
use Rattle.command_words.specs.declared.command.TableWords.{TableWords}
use Rattle.count_core.specs.declared.count_row.CountRow.{CountRow}
use Rattle.hub_program.specs.declared.tables.GivenTable.{GivenTable}
use Rattle.line_files.specs.AuditLines.{audit_lines}
use Rattle.line_files.specs.Texts.{are_fine, resend_help, resend_text}
use Rattle.line_files.specs.Notes.{notes}
use Rattle.nest_core.specs.Museum.{Museum, find_station, station_name_of}
use Rattle.posting_core.specs.Book.{Book}
use Rattle.line_files.specs.Gaps.{gap_in, next_number}
use Rattle.table_core.specs.declared.options.TableOptions.{TableOptions}
use Rattle.table_core.specs.LineTexts.{lines_text}
use Rattle.table_core.specs.SheetLines.{IsLines}
use Rattle.table_core.specs.declared.printed.sheet_lines.SheetLines.{SheetLines}

-- The number of the first message of a file: the given one, or the next that the station has to
-- send.
abbrev pub IsFirst : Book → ℕ → Option ℕ → ℕ → Type 0
IsFirst L station (Some given) n = n ≡ given
IsFirst L station None n = next_number L station ≡ Ok n

-- The line that fills the next number of the station of this name.
pub record PrintsGap (L : Book) (name by : List ℕ) (o o' : Option (List ℕ)) : Type 0 where
  pub station : ℕ
  pub listed : find_station L.museum name ≡ Some station
  pub line : List ℕ
  pub filled : gap_in L station by ≡ Ok line
  pub printed : Appends o o' line

-- The lines of the moves that a count list asks for, sent by the station of this name.
pub record PrintsAudit (L : Book) (name : List ℕ) (day : ℤ) (first : Option ℕ) (sealed : Bool)
    (rows : List CountRow) (o o' : Option (List ℕ)) : Type 0 where
  pub station : ℕ
  pub listed : find_station L.museum name ≡ Some station
  pub number : ℕ
  pub is_first : IsFirst L station first number
  pub printed : Appends o o' (audit_lines L
      (record { station = station; day = day; first = number; sealed = sealed }) rows)

-- How each line of a file stands to the record, for the station of this name, and a note if there
-- is help. The result is whether each line is posted, or would be.
pub record PrintsComparison (L : Book) (name bytes : List ℕ) (o o' : Option (List ℕ))
    (notes notes' : List ℕ) (fine : Bool) : Type 0 where
  pub station : ℕ
  pub listed : find_station L.museum name ≡ Some station
  pub printed : Appends o o' (resend_text L station bytes)
  pub noted : notes' ≡ notes ++ resend_help L station bytes
  pub is_fine : fine ≡ are_fine L station bytes

-- The text of an option. Empty if it is not given.
abbrev pub text_or : Option (Bor (List ℕ)) → List ℕ
text_or text = unwrap_or (text_of text) []

-- How the rows of a table are read: the texts for empty cells, and the number of the first message.
abbrev pub options_of : TableWords → GivenTable → ℕ → TableOptions
options_of words table first = record {
  kind = text_or words.kind;
  day = text_or words.day;
  place = text_or words.place;
  loan = text_or words.loan;
  by = text_or words.by;
  dates = table.dates;
  first = first;
}

-- The lines of a table's messages, the first with this number, sent by the station of the words.
pub record PrintsLines (S : Museum) (words : TableWords) (table : GivenTable) (first : ℕ)
    (lines : SheetLines) (o o' : Option (List ℕ)) : Type 0 where
  pub station : ℕ
  pub listed : find_station S words.station.now ≡ Some station
  pub name : List ℕ
  pub named : station_name_of S station ≡ Some name
  pub read : IsLines (options_of words table first) table.labels table.bytes.items lines
  pub printed : Appends o o' (lines_text name lines.table.lines.items)

-- The same over a record, which each message was tried on. If the words are strict, each would be
-- applied.
pub record PrintsTried (L : Book) (words : TableWords) (table : GivenTable)
    (o o' : Option (List ℕ)) : Type 0 where
  pub first : ℕ
  pub lines : SheetLines
  pub prints : PrintsLines L.museum words table first lines o o'
  pub is_first : IsFirst L prints.station table.first first
  pub strict : IsTrue words.strict → notes L prints.station lines.table.lines.items ≡ []
