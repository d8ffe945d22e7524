-- Defines the things that a count list found elsewhere, the rows that move nothing, and the
-- container of a thing.
use Rattle.std.specs.Prelude.{ℕ, List, Option, None, Some, option_map, slice_get}
use Rattle.std.specs.List.{filter_map, zip}
use Rattle.std.specs.Option.{option_and_then}
use Rattle.nest_core.specs.Museum.{find_thing}
use Rattle.posting_core.specs.Book.{Book, chain_in}
use Rattle.count_core.specs.declared.answer.CountAnswer.{CountAnswer}
use Rattle.count_core.specs.declared.answer.CountAnswer.TheVariants.{UnknownPlace, Counted}
use Rattle.count_core.specs.declared.answer.CountAnswer.TheVariants.{UnknownObject, Again, Unplaced}
use Rattle.count_core.specs.declared.answer.CountAnswer.TheVariants.{Found, Elsewhere}
use Rattle.count_core.specs.declared.count_row.CountRow.{CountRow}
use Rattle.count_core.specs.Counts.{answers}
use Rattle.line_files.specs.declared.audits.sightings.Sighting.{Sighting}
use Rattle.line_files.specs.declared.audits.unmoved.Unmoved.{Unmoved}

-- The row saw this thing at its place.
abbrev pub seen_by : CountRow → List ℕ → Sighting
seen_by row thing = record { thing = thing; place = row.place }

-- The thing and the place of the row, if the answer to it is Elsewhere.
abbrev pub sighting_of : CountRow → CountAnswer → Option Sighting
sighting_of row (Elsewhere p) = option_map (seen_by row) row.object
sighting_of row _ = None

-- The same for rows and their answers, in the order of the rows.
abbrev pub seen_in : List CountRow → List CountAnswer → List Sighting
seen_in rows found = filter_map (λ (row, answer). sighting_of row answer) (zip rows found)

-- The things that the list found elsewhere, by the answers of the count's report.
abbrev pub seen_elsewhere : Book → List CountRow → List Sighting
seen_elsewhere B rows = seen_in rows (answers B rows)

abbrev pub answered : CountRow → CountAnswer → Unmoved
answered row answer = record { row = row; answer = answer }

-- A row that neither agrees with the record nor moves a thing, with its answer.
abbrev pub unmoved_of : CountRow → CountAnswer → Option Unmoved
unmoved_of row UnknownPlace = Some (answered row UnknownPlace)
unmoved_of row UnknownObject = Some (answered row UnknownObject)
unmoved_of row Again = Some (answered row Again)
unmoved_of row Unplaced = Some (answered row Unplaced)
unmoved_of row Counted = None
unmoved_of row Found = None
unmoved_of row (Elsewhere p) = None

-- These of the rows with their answers, in the order of the rows.
abbrev pub unmoved_in : List CountRow → List CountAnswer → List Unmoved
unmoved_in rows found = filter_map (λ (row, answer). unmoved_of row answer) (zip rows found)

abbrev pub unmoved : Book → List CountRow → List Unmoved
unmoved B rows = unmoved_in rows (answers B rows)

-- The container that thing x lies in directly.
abbrev pub container_of : Book → ℕ → Option ℕ
container_of B x = slice_get (chain_in B x) 0

-- The container that the thing with this code lies in directly.
abbrev pub container_holding : Book → List ℕ → Option ℕ
container_holding B code = option_and_then (container_of B) (find_thing B.museum code)
