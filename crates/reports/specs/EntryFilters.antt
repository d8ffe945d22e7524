-- Defines which entries the list of posted entries has.
use Rattle.std.specs.Prelude.{◌+◌, ◌&&◌, ◌||◌, ℕ, Bool, List, false, filter, if◌then◌else◌, length}
use Rattle.std.specs.Prelude.{map}
use Rattle.std.specs.Prelude.{nat_le, not, reverse, slice_get, string_bytes, true}
use Rattle.std.specs.List.{list_any, range_with_len}
use Rattle.std.specs.Option.{option_map_or}
use Rattle.std.specs.Str.{bytes_eq}
use Rattle.nest_core.specs.Museum.{Museum}
use Rattle.posting_core.specs.declared.entry.Entry.{Entry}
use Rattle.posting_core.specs.declared.message.Message.{Message}
use Rattle.posting_core.specs.declared.message.Message.TheVariants.{Agree, Authorise, Exit, Extend}
use Rattle.posting_core.specs.declared.message.Message.TheVariants.{Move, Pack, Receive, Return}
use Rattle.posting_core.specs.declared.message.Message.TheVariants.{SignOff}
use Rattle.posting_core.specs.Book.{Book}
use Rattle.posting_core.specs.VerdictNames.{is_applied}
use Rattle.reports.specs.declared.question.EntryFilter.{EntryFilter}
use Rattle.reports.specs.Cells.{Cell}
use Rattle.reports.specs.Stations.{entry_row_at}
use Rattle.reports.specs.Texts.{station_text}

-- The message names the thing: as what it puts, as the container, or as an object of a loan.
abbrev pub names_thing : Message → List ℕ → Bool
names_thing (Move day x p) code = bytes_eq x code
names_thing (Pack day x c) code = bytes_eq x code || bytes_eq c code
names_thing (Agree first last loan partner objects) code =
    list_any (λ o. bytes_eq o code) objects
names_thing (Authorise name loan) code = false
names_thing (Exit day x loan) code = bytes_eq x code
names_thing (Return day x loan p) code = bytes_eq x code
names_thing (Receive day x loan p) code = bytes_eq x code
names_thing (SignOff name) code = false
names_thing (Extend last loan) code = false

-- The message names the loan.
abbrev pub names_loan : Message → List ℕ → Bool
names_loan (Move day x p) code = false
names_loan (Pack day x c) code = false
names_loan (Agree first last loan partner objects) code = bytes_eq loan code
names_loan (Authorise name loan) code = bytes_eq loan code
names_loan (Exit day x loan) code = bytes_eq loan code
names_loan (Return day x loan p) code = bytes_eq loan code
names_loan (Receive day x loan p) code = bytes_eq loan code
names_loan (SignOff name) code = false
names_loan (Extend last loan) code = bytes_eq loan code

-- The number is in the range that is asked for.
abbrev pub is_in_range : EntryFilter → ℕ → Bool
is_in_range f n = nat_le f.from n && option_map_or (λ to. nat_le n to) f.to true

-- The station is the one that is asked for.
abbrev pub is_from : Museum → EntryFilter → ℕ → Bool
is_from S f station =
    option_map_or (λ name. bytes_eq (station_text S station) (string_bytes name)) f.station true

-- The message names the thing and the loan that are asked for.
abbrev pub is_about : EntryFilter → Message → Bool
is_about f m =
    option_map_or (λ code. names_thing m code) f.thing true
    && option_map_or (λ code. names_loan m code) f.loan true

-- The list has this entry: all that is asked holds for it.
abbrev pub is_wanted : Museum → EntryFilter → ℕ → Entry → Bool
is_wanted S f n e =
    is_in_range f n
    && (is_from S f e.station
    && ((if f.refused then not (is_applied e.verdict) else true)
    && is_about f e.message))

-- The list has the entry at index i, from 0.
abbrev pub is_wanted_at : Book → EntryFilter → ℕ → Bool
is_wanted_at B f i =
    option_map_or (is_wanted B.museum f (i + 1)) (slice_get (reverse B.posted) i) false

-- The indexes of the entries that the list has, ascending.
abbrev pub wanted : Book → EntryFilter → List ℕ
wanted B f = filter (is_wanted_at B f) (range_with_len 0 (length B.posted))

abbrev pub posted_rows : Book → EntryFilter → List (List Cell)
posted_rows B f = map (entry_row_at B) (wanted B f)
