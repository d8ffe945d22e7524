-- Defines the notes of an audit.
use Rattle.std.specs.Prelude.{ℕ, Bool, List, [], ◌++◌, codes, flat_map, unwrap_or}
use Rattle.std.specs.Option.{option_map_or}
use Rattle.nest_core.specs.Museum.{Museum, place_code_of, thing_code_of}
use Rattle.posting_core.specs.Book.{Book, place_in}
use Rattle.count_core.specs.declared.answer.CountAnswer.{CountAnswer}
use Rattle.count_core.specs.declared.answer.CountAnswer.TheVariants.{UnknownPlace, Counted}
use Rattle.count_core.specs.declared.answer.CountAnswer.TheVariants.{UnknownObject, Again, Unplaced}
use Rattle.count_core.specs.declared.answer.CountAnswer.TheVariants.{Found, Elsewhere}
use Rattle.count_core.specs.declared.answer.MissingObject.{MissingObject}
use Rattle.count_core.specs.declared.count_row.CountRow.{CountRow}
use Rattle.count_core.specs.Sealed.{missing_unless_sealed}
use Rattle.line_files.specs.declared.audits.sightings.Sighting.{Sighting}
use Rattle.line_files.specs.declared.audits.unmoved.Unmoved.{Unmoved}
use Rattle.line_files.specs.Sightings.{container_holding, container_of, seen_elsewhere, unmoved}

abbrev pub thing_text : Museum → ℕ → List ℕ
thing_text S x = unwrap_or (thing_code_of S x) []

abbrev pub place_text : Museum → ℕ → List ℕ
place_text S p = unwrap_or (place_code_of S p) []

-- note: 2001.4.2 was seen at S2 but lies in C1 on record: move it yourself if it was taken out
abbrev pub inside_note : Sighting → List ℕ → List ℕ
inside_note seen container =
    codes "note: " ++ seen.thing ++ codes " was seen at " ++ seen.place ++ codes " but lies in "
    ++ container ++ codes " on record: move it yourself if it was taken out\n"

-- The note on a thing that was found elsewhere, if it lies in a container.
abbrev pub inside_notes : Book → Sighting → List ℕ
inside_notes B seen =
    option_map_or (λ c. inside_note seen (thing_text B.museum c)) (container_holding B seen.thing)
    []

abbrev pub who_text : CountRow → List ℕ
who_text row = unwrap_or row.object []

abbrev pub where_text : CountRow → List ℕ
where_text row = option_map_or (λ _. codes " was seen at ") row.object (codes "the list names ")

-- The end of the note on a row with this answer. Counted, Found and Elsewhere have none.
abbrev pub why_text : CountAnswer → List ℕ
why_text UnknownPlace = codes ", which is not in the setup\n"
why_text UnknownObject = codes " but is not in the setup: add it there first\n"
why_text Again = codes ", too: its first row counts\n"
why_text Unplaced = codes " but has no place on record: move it there yourself\n"
why_text Counted = codes "\n"
why_text Found = codes "\n"
why_text (Elsewhere p) = codes "\n"

-- note: 2001.4.9 was seen at S2 but is not in the setup: add it there first
abbrev pub unmoved_note : Unmoved → List ℕ
unmoved_note seen =
    codes "note: " ++ who_text seen.row ++ where_text seen.row ++ seen.row.place
    ++ why_text seen.answer

abbrev pub in_words : Book → ℕ → List ℕ
in_words B x = option_map_or (λ c. codes " in " ++ thing_text B.museum c) (container_of B x) []

abbrev pub at_words : Book → ℕ → List ℕ
at_words B x = option_map_or (λ p. codes " at " ++ place_text B.museum p) (place_in B x) []

-- missing: 2001.4.1 in C1 at S1-A on record
abbrev pub missing_note : Book → MissingObject → List ℕ
missing_note B missed =
    codes "missing: " ++ thing_text B.museum missed.object ++ in_words B missed.object
    ++ at_words B missed.object ++ codes " on record\n"

-- The notes on these sightings, these rows and these missing objects.
abbrev pub notes_on : Book → List Sighting → List Unmoved → List MissingObject → List ℕ
notes_on B seen unmoved missed =
    flat_map (inside_notes B) seen ++ flat_map unmoved_note unmoved
    ++ flat_map (missing_note B) missed

-- The notes of an audit: on each thing that was found elsewhere but lies in a container, on each
-- row that moves nothing and does not agree with the record, and on each missing object, by whether
-- containers count as sealed.
abbrev pub audit_notes : Book → Bool → List CountRow → List ℕ
audit_notes B sealed rows =
    notes_on B (seen_elsewhere B rows) (unmoved B rows) (missing_unless_sealed B sealed rows)
