-- Defines the table of the objects that are away from their normal locations.
use Rattle.std.specs.Prelude.{List, map, ℕ}
use Rattle.nest_core.specs.Museum.{Museum}
use Rattle.posting_core.specs.Book.{Book}
use Rattle.count_core.specs.Reports.{away}
use Rattle.count_core.specs.declared.answer.AwayObject.{AwayObject}
use Rattle.reports.specs.declared.form.Form.TheVariants.{Csv}
use Rattle.reports.specs.Things.{away_row as away_values}
use Rattle.page_core.specs.Pieces.{Piece, page_text}
use Rattle.page_core.specs.Values.{values_row}

-- 2001.4.1 S2 S1-A: the object, its current and its normal location, as in the report `away`.
abbrev pub away_row : Museum → AwayObject → List Piece
away_row S object = values_row (away_values S Csv object)

abbrev pub away_text : Museum → AwayObject → List ℕ
away_text S object = page_text (away_row S object)

-- The rows of all objects that are away, in the setup's order.
abbrev pub away_rows : Book → List (List Piece)
away_rows B = map (away_row B.museum) (away B)
