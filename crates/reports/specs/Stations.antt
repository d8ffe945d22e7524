-- Defines the rows of the reports on stations and on entries. An example of the plain line is
-- above each.
use Rattle.std.specs.Prelude.{◌∷◌, ◌+◌, ◌||◌, [], ℕ, Bool, List, None, Option, Some, codes}
use Rattle.std.specs.Prelude.{if◌then◌else◌, length, map, nat_le, reverse, slice_get}
use Rattle.std.specs.List.{range_with_len}
use Rattle.std.specs.Option.{option_map_or}
use Rattle.nest_core.specs.Museum.{Museum}
use Rattle.posting_core.specs.declared.TheConstants.{LAST_NUMBER}
use Rattle.posting_core.specs.declared.entry.Entry.{Entry}
use Rattle.posting_core.specs.Book.{Book}
use Rattle.posting_core.specs.Lawful.{count_at, is_signed_off}
use Rattle.posting_core.specs.VerdictNames.{verdict_name}
use Rattle.register_store.specs.MessageText.{body_of}
use Rattle.reports.specs.declared.form.Form.{Form}
use Rattle.reports.specs.Forms.{by_form}
use Rattle.reports.specs.Cells.{Cell, flag, json, number, number_if, text}
use Rattle.reports.specs.Texts.{station_text}

-- The station's sign-off is posted.
abbrev pub has_signed_off : Book → ℕ → Bool
has_signed_off B s = is_signed_off s B.posted

-- The number that a station has to send next. There is none after its sign-off, and none after the
-- last number that a message may have.
abbrev pub next_number : Book → ℕ → Option ℕ
next_number B s =
    if has_signed_off B s || nat_le LAST_NUMBER (count_at s B.posted) then None
    else Some (count_at s B.posted + 1)

-- next 4; or, if there is no next number, signed off or full
abbrev pub next_words : Option ℕ → Bool → List Cell
next_words (Some n) signed = text (codes "next") ∷ number n ∷ []
next_words None signed =
    if signed then (text (codes "signed") ∷ text (codes "off") ∷ [])
    else (text (codes "full") ∷ [])

-- GAL next 4
abbrev pub standing_row : Form → List ℕ → Option ℕ → Bool → List Cell
standing_row form name next signed = by_form form
    (text name ∷ next_words next signed)
    (text name ∷ number_if next ∷ flag signed ∷ [])

abbrev pub station_row : Book → Form → ℕ → List Cell
station_row B form s =
    standing_row form (station_text B.museum s) (next_number B s) (has_signed_off B s)

-- The stations, in the setup's order.
abbrev pub station_rows : Book → Form → List (List Cell)
station_rows B form =
    map (station_row B form) (range_with_len 0 (length B.museum.stations))

-- 12 GAL 7 Applied {..}
abbrev pub entry_row : Museum → ℕ → Entry → List Cell
entry_row S n e = number n
    ∷ text (station_text S e.station)
    ∷ number e.n
    ∷ text (verdict_name e.verdict)
    ∷ json (body_of e.message) ∷ []

-- The row of the entry at index i, from 0.
abbrev pub entry_row_at : Book → ℕ → List Cell
entry_row_at B i = option_map_or (entry_row B.museum (i + 1)) (slice_get (reverse B.posted) i) []
