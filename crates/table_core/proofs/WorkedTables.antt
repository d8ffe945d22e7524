-- The definitions of tables computed on worked rows.
use Rattle.std.specs.Prelude.{ℕ, ◌≡◌, List, Some, None, [], ◌∷◌, map, refl, codes}
use Rattle.codes_core.specs.declared.fault.CodeFault.TheVariants as code_faults
use Rattle.codes_core.specs.Day.{day_number}
use Rattle.posting_core.specs.declared.message.Message.{Message}
use Rattle.posting_core.specs.declared.message.Message.TheVariants as message
use Rattle.strsim.specs.Edits.{cost_at, next_row, rows}
use Rattle.table_core.specs.declared.column.Column.TheVariants.{Kind, Thing, Place, Day, N}
use Rattle.table_core.specs.declared.fault.CellFault.TheVariants.{Empty, NotAKind, BadCode, NotADay}
use Rattle.table_core.specs.declared.fault.CellFault.TheVariants.{NumberOutside}
use Rattle.table_core.specs.declared.fault.HeadingFault.TheVariants.{NoHeading, NearHeading}
use Rattle.table_core.specs.declared.fault.HeadingFault.TheVariants.{TwiceHeading}
use Rattle.table_core.specs.declared.options.DateOrder.TheVariants.{YearFirst}
use Rattle.table_core.specs.declared.options.TableOptions.{TableOptions}
use Rattle.table_core.specs.Columns.{word_of}
use Rattle.table_core.specs.Tables.{heading_fault, table_faults, table_messages, unknown_fields}

abbrev none : TableOptions
none = record {
  kind = [];
  day = [];
  place = [];
  loan = [];
  by = [];
  dates = YearFirst;
  first = 6;
}

abbrev moves : TableOptions
moves = record {
  kind = codes "move";
  day = codes "2024-05-01";
  place = codes "S1";
  loan = [];
  by = [];
  dates = YearFirst;
  first = 6;
}

-- capitals and spaces don't count in a heading
words : map word_of (codes "Thing" ∷ codes "  PLACE " ∷ codes "old place" ∷ [])
    ≡ codes "thing" ∷ codes "place" ∷ codes "old place" ∷ []
words = refl

near : heading_fault ((codes "thing" ∷ codes "plaice" ∷ []) ∷ []) ≡ Some (NearHeading 2 Place)
unfolding rows next_row cost_at
near = refl

twice : heading_fault ((codes "thing" ∷ codes "day" ∷ codes "Thing" ∷ []) ∷ [])
    ≡ Some (TwiceHeading 3 Thing)
twice = refl

no_rows : heading_fault [] ≡ Some NoHeading
no_rows = refl

others : heading_fault ((codes "thing" ∷ codes "remarks" ∷ [] ∷ []) ∷ []) ≡ None
unfolding rows next_row cost_at
others = refl

unknown : unknown_fields ((codes "thing" ∷ codes "remarks" ∷ [] ∷ codes "N" ∷ []) ∷ [])
    ≡ 2 ∷ []
unknown = refl

-- a move, a blank row, a row with its own place, a row with its own number, and one behind that
three : List (List (List ℕ))
three = ((codes "thing" ∷ codes "place" ∷ codes "n" ∷ []) ∷ (codes "1987.12.1" ∷ [])
    ∷ (codes " " ∷ [] ∷ []) ∷ (codes "C1" ∷ codes "A-1" ∷ [])
    ∷ (codes "C2" ∷ [] ∷ codes "17" ∷ []) ∷ (codes "C3" ∷ []) ∷ [])

abbrev moved : List ℕ → List ℕ → Message
moved thing place = message.Move (day_number (codes "2024-05-01")) thing place

three_messages : table_messages moves three
    ≡ record { row = 2; number = 6; message = moved (codes "1987.12.1") (codes "S1") }
    ∷ record { row = 4; number = 7; message = moved (codes "C1") (codes "A-1") }
    ∷ record { row = 5; number = 17; message = moved (codes "C2") (codes "S1") }
    ∷ record { row = 6; number = 18; message = moved (codes "C3") (codes "S1") }
    ∷ []
unfolding three
three_messages = refl

three_faults : table_faults moves three ≡ []
unfolding three
three_faults = refl

-- all faults of a row in the order of its kind's columns, and those of the row behind it
faulty : table_faults none
    ((codes "kind" ∷ codes "day" ∷ codes "thing" ∷ codes "place" ∷ [])
    ∷ (codes "move" ∷ codes "1/5/2024" ∷ codes "1987" ∷ [])
    ∷ (codes "moved" ∷ [] ∷ [] ∷ [] ∷ []) ∷ [])
    ≡ record { row = 2; column = Thing; text = codes "1987"; fault = BadCode code_faults.BadShape }
    ∷ record { row = 2; column = Place; text = []; fault = Empty }
    ∷ record { row = 2; column = Day; text = codes "1/5/2024"; fault = NotADay }
    ∷ record { row = 3; column = Kind; text = codes "moved"; fault = NotAKind } ∷ []
faulty = refl

-- a cell of a column that the kind doesn't have may have any text
ignored : table_faults none
    ((codes "kind" ∷ codes "by" ∷ codes "place" ∷ [])
    ∷ (codes "signoff" ∷ codes "Ann" ∷ codes "?" ∷ []) ∷ []) ≡ []
ignored = refl

-- behind the last number there is none, and a faulty row has a number, too
no_number : table_faults moves
    ((codes "thing" ∷ codes "n" ∷ []) ∷ (codes "C1" ∷ codes "999999" ∷ [])
    ∷ (codes "C2" ∷ []) ∷ [])
    ≡ record { row = 3; column = N; text = []; fault = NumberOutside } ∷ []
no_number = refl
