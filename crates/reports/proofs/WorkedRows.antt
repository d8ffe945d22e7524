-- The definitions computed on worked rows; the lines are as in docs/FORMATS.md and in cases/.
use Rattle.std.specs.Prelude.{◌≡◌, ◌∷◌, [], ℕ, List, None, Some, codes, false, map, pos}
use Rattle.std.specs.Prelude.{refl, true}
use Rattle.std.specs.Fmt.{digits}
use Rattle.std.specs.List.{slice_get}
use Rattle.csv.specs.Writing.{default_writer, escaped, fields_text, is_blank, row_text}
use Rattle.serde_json.proofs.OnLiterals.{serde_json_on_literals}
use Rattle.codes_core.specs.Day.{day_text}
use Rattle.posting_core.specs.declared.message.Message.TheVariants.{Agree, Pack, SignOff}
use Rattle.posting_core.specs.declared.entry.Entry.{Entry}
use Rattle.posting_core.proofs.WorkedRows.{book, gal, may, moved, museum, pack, run}
use Rattle.count_core.specs.declared.answer.CountAnswer.TheVariants.{Counted, Elsewhere, Found}
use Rattle.count_core.specs.declared.count_row.CountRow.{CountRow}
use Rattle.reports.specs.declared.form.Form.TheVariants.{Csv, Json, Plain}
use Rattle.reports.specs.declared.field.Field.TheVariants as field
use Rattle.reports.specs.declared.question.Question.TheVariants as question
use Rattle.reports.specs.Cells.{Cell, cell_of, flag, flag_text, in_if, is_shown, json, json_text}
use Rattle.reports.specs.Cells.{member, members, nothing, number, number_if, object_line, or_dash}
use Rattle.reports.specs.Cells.{plain_text, quoted, text, text_if, texts, words_line}
use Rattle.reports.specs.CountRows.{answer_row, count_rows, missing_row}
use Rattle.reports.specs.Forms.{heading, line_text}
use Rattle.reports.specs.Loans.{unknown_row}
use Rattle.reports.specs.Reports.{plain_rows, rows}
use Rattle.reports.specs.Stations.{next_words, standing_row}
use Rattle.reports.specs.Things.{place_row, spot_row}

-- ---- cells

nothing-cell : cell_of field.Nothing ≡ nothing
nothing-cell = refl

number-cell : cell_of (field.Number 4) ≡ number 4
number-cell = refl

flag-cell : cell_of (field.Flag true) ≡ flag true
flag-cell = refl

next : number_if (Some 6) ≡ number 6
next = refl

no_next : number_if None ≡ nothing
no_next = refl

partner : text_if (Some (codes "MUSEUM-X")) ≡ text (codes "MUSEUM-X")
partner = refl

no_partner : text_if None ≡ nothing
no_partner = refl

signed_off : flag_text true ≡ codes "true"
signed_off = refl

not_signed_off : flag_text false ≡ codes "false"
not_signed_off = refl

abbrev chain : Cell
chain = texts (codes "C2" ∷ codes "C1" ∷ [])

chain-plain : plain_text chain ≡ codes "C2 C1"
chain-plain = refl

chain-json : json_text chain ≡ codes "[\"C2\",\"C1\"]"
unfolding serde_json_on_literals
chain-json = refl

no_chain-json : json_text (texts []) ≡ codes "[]"
no_chain-json = refl

-- a missing value is no word; an empty text is one
nothing-no_word : is_shown nothing ≡ false
nothing-no_word = refl

no_chain-no_word : is_shown (texts []) ≡ false
no_chain-no_word = refl

chain-word : is_shown chain ≡ true
chain-word = refl

empty_text-word : is_shown (text []) ≡ true
empty_text-word = refl

name-quoted : quoted (codes "Ann \"A.\", Keeper") ≡ codes "\"Ann \\\"A.\\\", Keeper\""
unfolding serde_json_on_literals
name-quoted = refl

place-member : member (codes "place") nothing ≡ codes "\"place\":null"
unfolding serde_json_on_literals
place-member = refl

dash : or_dash None ≡ text (codes "-")
dash = refl

no_dash : or_dash (Some (codes "S2")) ≡ text (codes "S2")
no_dash = refl

in_chain : in_if (codes "C2" ∷ codes "C1" ∷ []) ≡ text (codes "in")
in_chain = refl

in_none : in_if [] ≡ nothing
in_none = refl

-- ---- lines as comma-separated values and as JSON

abbrev away_names : List (List ℕ)
away_names = codes "object" ∷ codes "place" ∷ codes "normal" ∷ []

abbrev away_values : List Cell
away_values = text (codes "2001.4.2") ∷ nothing ∷ text (codes "S1-A") ∷ []

away-heading : heading Csv away_names [] ≡ codes "object,place,normal\n"
unfolding fields_text is_blank
away-heading = refl

away-no_heading : heading Json away_names [] ≡ []
away-no_heading = refl

away-members : slice_get (members away_names away_values) 2 ≡ Some (codes "\"normal\":\"S1-A\"")
unfolding serde_json_on_literals
away-members = refl

away-csv : line_text Csv away_names [] away_values ≡ codes "2001.4.2,,S1-A\n"
unfolding fields_text is_blank
away-csv = refl

away-json : line_text Json away_names [] away_values
    ≡ codes "{\"object\":\"2001.4.2\",\"place\":null,\"normal\":\"S1-A\"}\n"
unfolding serde_json_on_literals
away-json = refl

abbrev station_names : List (List ℕ)
station_names = codes "station" ∷ codes "next" ∷ codes "signed_off" ∷ []

abbrev station_values : List Cell
station_values = standing_row Csv (codes "PACK") (Some 6) false

station-csv : line_text Csv station_names [] station_values ≡ codes "PACK,6,false\n"
unfolding digits fields_text is_blank
station-csv = refl

station-json : object_line station_names station_values
    ≡ codes "{\"station\":\"PACK\",\"next\":6,\"signed_off\":false}\n"
unfolding digits serde_json_on_literals
station-json = refl

-- a full station has no next number: empty, or null

full-csv : line_text Csv station_names [] (standing_row Csv (codes "PACK") None false)
    ≡ codes "PACK,,false\n"
unfolding fields_text is_blank
full-csv = refl

full-json : line_text Json station_names [] (standing_row Json (codes "PACK") None false)
    ≡ codes "{\"station\":\"PACK\",\"next\":null,\"signed_off\":false}\n"
unfolding serde_json_on_literals
full-json = refl

-- a message is an object inside the object; among comma-separated values it is a text with quotes

abbrev posted_names : List (List ℕ)
posted_names = codes "entry" ∷ codes "message" ∷ []

abbrev posted_values : List Cell
posted_values = number 6 ∷ json (codes "{\"by\":\"Ann\",\"kind\":\"signoff\"}") ∷ []

posted-csv : row_text default_writer (map plain_text posted_values)
    ≡ codes "6,\"{\"\"by\"\":\"\"Ann\"\",\"\"kind\"\":\"\"signoff\"\"}\"\n"
unfolding digits escaped fields_text is_blank
posted-csv = refl

posted-json : object_line posted_names posted_values
    ≡ codes "{\"entry\":6,\"message\":{\"by\":\"Ann\",\"kind\":\"signoff\"}}\n"
unfolding digits serde_json_on_literals
posted-json = refl

-- ---- plain lines

next-line : words_line (standing_row Plain (codes "PACK") (Some 6) false)
    ≡ codes "PACK next 6\n"
unfolding digits
next-line = refl

signed_off-line : words_line (next_words None true) ≡ codes "signed off\n"
signed_off-line = refl

full-line : words_line (standing_row Plain (codes "PACK") None false) ≡ codes "PACK full\n"
full-line = refl

where-line : words_line
    (place_row Plain (codes "2001.4.1") (codes "at") (Some (codes "S2"))
    (codes "C2" ∷ codes "C1" ∷ []))
    ≡ codes "2001.4.1 at S2 in C2 C1\n"
where-line = refl

spot-cells : spot_row museum (record { entry = 5; place = 2; day = may })
    ≡ number 5 ∷ text (day_text may) ∷ text (codes "S2") ∷ []
spot-cells = refl

elsewhere-line : words_line
    (answer_row museum Plain 2
    (record { place = codes "S1"; object = Some (codes "2001.4.1") }) (Elsewhere 2))
    ≡ codes "row 2 Elsewhere S2\n"
unfolding digits
elsewhere-line = refl

counted-line : words_line
    (answer_row museum Plain 7 (record { place = codes "S2"; object = None }) Counted)
    ≡ codes "row 7 Counted\n"
unfolding digits
counted-line = refl

missing-line : words_line
    (missing_row (book []) Plain (record { place = 2; object = 2 }))
    ≡ codes "missing S2 2001.4.1\n"
missing-line = refl

not_agreed-line : words_line (unknown_row Plain (codes "LO2024.1")) ≡ codes "LO2024.1 unknown\n"
not_agreed-line = refl

-- ---- the rows of reports on a small record: C1 goes to S2 with an object in it, PACK signs off

abbrev small : List Entry
small = run [] (
    (gal, moved (codes "2001.4.1") (codes "S1"))
    ∷ (gal, moved (codes "C1") (codes "S1"))
    ∷ (gal, Pack may (codes "2001.4.1") (codes "C1"))
    ∷ (gal, moved (codes "C1") (codes "S2"))
    ∷ (pack, SignOff (codes "Ada"))
    ∷ [])

-- the list has the crate and not the object in it

abbrev crate_seen : CountRow
crate_seen = record { place = codes "S2"; object = Some (codes "C1") }

small-count : count_rows (book small) Plain false (crate_seen ∷ [])
    ≡ answer_row museum Plain 1 crate_seen Found
    ∷ missing_row (book small) Plain (record { place = 2; object = 2 }) ∷ []
small-count = refl

small-count_sealed : count_rows (book small) Plain true (crate_seen ∷ [])
    ≡ answer_row museum Plain 1 crate_seen Found ∷ []
small-count_sealed = refl

small-where : plain_rows (book small) (question.Where (codes "2001.4.1"))
    ≡ place_row Plain (codes "2001.4.1") (codes "at") (Some (codes "S2")) (codes "C1" ∷ []) ∷ []
small-where = refl

small-unplaced : plain_rows (book small) (question.Where (codes "2001.4.2"))
    ≡ place_row Plain (codes "2001.4.2") (codes "unplaced") None [] ∷ []
small-unplaced = refl

small-unknown : rows (book small) (question.Where (codes "2009.1"))
    ≡ (text (codes "2009.1") ∷ text (codes "unknown") ∷ nothing ∷ texts [] ∷ []) ∷ []
small-unknown = refl

small-contents : rows (book small) (question.Contents (codes "C1"))
    ≡ (text (codes "2001.4.1") ∷ text (codes "in") ∷ texts (codes "C1" ∷ []) ∷ []) ∷ []
small-contents = refl

small-history : rows (book small) (question.History (codes "2001.4.1"))
    ≡ spot_row museum (record { entry = 1; place = 0; day = may })
    ∷ spot_row museum (record { entry = 4; place = 2; day = may }) ∷ []
small-history = refl

small-at : rows (book small) (question.At (codes "S2"))
    ≡ (text (codes "C1") ∷ text (codes "S2") ∷ [])
    ∷ (text (codes "2001.4.1") ∷ text (codes "S2") ∷ []) ∷ []
small-at = refl

small-away : rows (book small) question.Away
    ≡ (text (codes "2001.4.1") ∷ text (codes "S2") ∷ text (codes "S1-A") ∷ [])
    ∷ (text (codes "2001.4.2") ∷ nothing ∷ text (codes "S1-A") ∷ [])
    ∷ (text (codes "2001.4.3") ∷ nothing ∷ text (codes "S1-A") ∷ []) ∷ []
small-away = refl

small-stations : plain_rows (book small) question.Stations
    ≡ standing_row Plain (codes "PACK") None true
    ∷ standing_row Plain (codes "GAL") (Some 5) false ∷ []
small-stations = refl

small-no_loan : rows (book small) (question.Loan (codes "LO2024.1"))
    ≡ unknown_row Csv (codes "LO2024.1") ∷ []
small-no_loan = refl

-- a loan that is agreed until 2024-05-31
abbrev agreed : List Entry
agreed = run [] (
    (gal, Agree may (pos 19874) (codes "LO2024.1") (codes "MUSEUM-X") (codes "2001.4.1" ∷ []))
    ∷ [])

agreed-loan : plain_rows (book agreed) (question.Loan (codes "LO2024.1"))
    ≡ (text (codes "LO2024.1") ∷ text (codes "Draft") ∷ text (codes "with")
    ∷ text (codes "MUSEUM-X") ∷ text (codes "from") ∷ text (day_text may) ∷ text (codes "to")
    ∷ text (day_text (pos 19874)) ∷ [])
    ∷ (text (codes "2001.4.1") ∷ text (codes "Awaiting") ∷ []) ∷ []
agreed-loan = refl

agreed-overdue : map words_line (plain_rows (book agreed) (question.Overdue (pos 19900))) ≡ []
agreed-overdue = refl
