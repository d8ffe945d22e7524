-- Defines the rows of the entries: each message, what it moved, and how far it brought loans.
use Rattle.std.specs.Prelude.{ℕ, ◌+◌, ◌∷◌, ◌++◌, [], List, None, Option, Some, codes, decimal}
use Rattle.std.specs.Prelude.{map, option_map, reverse, slice_get}
use Rattle.std.specs.List.{flat_map, range_with_len}
use Rattle.std.specs.Option.{option_map_or}
use Rattle.codes_core.specs.Day.{day_text}
use Rattle.nest_core.specs.Museum.{Museum}
use Rattle.posting_core.specs.declared.entry.Changes.{Changes}
use Rattle.posting_core.specs.declared.entry.Entry.{Entry}
use Rattle.posting_core.specs.declared.entry.NewLine.{NewLine}
use Rattle.posting_core.specs.declared.entry.NewSpot.{NewSpot}
use Rattle.posting_core.specs.declared.stage.LineStage.{LineStage}
use Rattle.posting_core.specs.declared.stage.LineStage.TheVariants.{Awaiting, Away, Back, Here}
use Rattle.posting_core.specs.declared.stage.LineStage.TheVariants.{GivenBack}
use Rattle.posting_core.specs.Book.{Book, chain_in, changes_of}
use Rattle.posting_core.specs.Named.{kind_name}
use Rattle.posting_core.specs.Past.{upto}
use Rattle.posting_core.specs.VerdictNames.{verdict_name}
use Rattle.register_store.specs.MessageText.{body_of}
use Rattle.reports.specs.Causes.{sentence}
use Rattle.reports.specs.Cells.{Cell, joined_words, number, text, text_if}
use Rattle.reports.specs.Texts.{place_text, station_text, thing_text}
use Rattle.reports.specs.Values.{word_if}
use Rattle.export_core.specs.Literals.{quoted}
use Rattle.export_core.specs.Statements.{row}

-- 12 PACKING 7 move Applied: an entry of this station, with its cause and its message.
abbrev pub values_with : ℕ → List ℕ → Entry → List ℕ → List ℕ → List ℕ → List Cell
values_with number_of_entry station e kind cause message =
    number number_of_entry
    ∷ text station
    ∷ number e.n
    ∷ text kind
    ∷ text (verdict_name e.verdict)
    ∷ word_if cause
    ∷ text message ∷ []

-- The cause is what the report `why` says of the entry, by the record before it.
abbrev pub message_values : Book → ℕ → Entry → List Cell
message_values B number_of_entry e = values_with number_of_entry
    (station_text B.museum e.station) e (kind_name e.message)
    (joined_words (sentence B e.message e.verdict)) (body_of e.message)

-- The row of the message of an entry, by the record before it.
abbrev pub message_row : Book → ℕ → Entry → List ℕ
message_row B number_of_entry e = row (message_values B number_of_entry e)

-- 12 2024-05-01 2001.4.1 S2 C2 PACKING 7: a new location of a thing that is in this container.
abbrev pub movement_values : Museum → Entry → NewSpot → Option ℕ → List Cell
movement_values S e s container =
    number s.spot.entry
    ∷ text (day_text s.spot.day)
    ∷ text (thing_text S s.thing)
    ∷ text (place_text S s.spot.place)
    ∷ text_if (option_map (thing_text S) container)
    ∷ text (station_text S e.station)
    ∷ number e.n ∷ []

-- The container is the one that the thing is in right after the entry. The record is that after the
-- entry.
abbrev pub movement_row : Book → Entry → NewSpot → List ℕ
movement_row B e s = row (movement_values B.museum e s (slice_get (chain_in B s.thing) 0))

-- The column for the entry that brings an object to this stage of its loan.
abbrev pub entry_column : LineStage → Option (List ℕ)
entry_column Awaiting = None
entry_column Away = Some (codes "out_entry")
entry_column Back = Some (codes "back_entry")
entry_column Here = Some (codes "out_entry")
entry_column GivenBack = Some (codes "back_entry")

-- UPDATE loan_object SET out_entry=12 WHERE loan='LO2024.1' AND thing='2001.4.1';
abbrev pub crossing_text : Museum → ℕ → NewLine → List ℕ → List ℕ
crossing_text S entry line column =
    codes "UPDATE loan_object SET "
    ++ (column
    ++ (codes "="
    ++ (decimal entry
    ++ (codes " WHERE loan="
    ++ (quoted line.loan
    ++ (codes " AND thing="
    ++ (quoted (thing_text S line.object)
    ++ codes ";\n")))))))

-- The entry at which an object left or arrived under its loan, or went back.
abbrev pub line_text : Museum → ℕ → NewLine → List ℕ
line_text S entry line =
    option_map_or (crossing_text S entry line) (entry_column line.stage) []

-- What an entry moved. The record is that after the entry.
abbrev pub movement_rows : Book → Entry → Changes → List (List ℕ)
movement_rows B e changes = map (movement_row B e) changes.spots

-- How far an entry brought loans.
abbrev pub line_texts : Museum → Changes → List ℕ
line_texts S changes = flat_map (line_text S changes.entry) changes.lines

-- The same for the entry at index i, from 0.
abbrev pub message_at : Book → ℕ → List (List ℕ)
message_at B i =
    option_map_or (λ e. message_row (upto B i) (i + 1) e ∷ []) (slice_get (reverse B.posted) i) []

abbrev pub movements_at : Book → ℕ → List (List ℕ)
movements_at B i =
    option_map_or
    (λ e. movement_rows (upto B (i + 1)) e (changes_of (upto B i) e.message))
    (slice_get (reverse B.posted) i) []

abbrev pub lines_at : Book → ℕ → List ℕ
lines_at B i =
    option_map_or
    (λ e. line_texts (upto B (i + 1)).museum (changes_of (upto B i) e.message))
    (slice_get (reverse B.posted) i) []

-- The same for the first n entries, oldest first.
abbrev pub messages_upto : Book → ℕ → List (List ℕ)
messages_upto B n = flat_map (message_at B) (range_with_len 0 n)

abbrev pub movements_upto : Book → ℕ → List (List ℕ)
movements_upto B n = flat_map (movements_at B) (range_with_len 0 n)

abbrev pub lines_upto : Book → ℕ → List ℕ
lines_upto B n = flat_map (lines_at B) (range_with_len 0 n)
