-- The definitions computed on worked rows: setup files read row by row, and puts.
use Rattle.std.specs.Prelude.{◌≡◌, ◌≤◌, ◌+◌, ◌*◌, List, ℕ, [], ◌∷◌, length, map, true, false, None}
use Rattle.std.specs.Prelude.{Some, codes, ◌++◌, refl}
use Rattle.std.proofs.Common.{arith}
use Rattle.csv.specs.Machine.{next_record}
use Rattle.csv.specs.Reading.{records_from, strip_bom}
use Rattle.nest_core.specs.declared.TheConstants.{MOST_STATIONS, MOST_PLACES, MOST_THINGS}
use Rattle.nest_core.specs.Museum.{Museum, no_museum}
use Rattle.nest_core.specs.InOrder.{◌if◌, first_or}
use Rattle.nest_core.specs.SetupRows.{first_fault, museum_of, rows_of, station_fault}
use Rattle.nest_core.specs.SetupTexts.{setup_rows}
use Rattle.nest_core.specs.declared.put.Put.{Put}
use Rattle.nest_core.specs.declared.put.Target.TheVariants.{At, Within}
use Rattle.nest_core.specs.declared.nest.PackBar.TheVariants.{Cycle, TooDeep}
use Rattle.nest_core.specs.Puts.{last, chain, place, carried, contents, holds_things}
use Rattle.nest_core.specs.Nest.{pack_bar, moved_by, leaves}
use Rattle.nest_core.specs.declared.setup_fault.SetupFault.TheVariants.{BadCode, BadFields, BadKind}
use Rattle.nest_core.specs.declared.setup_fault.SetupFault.TheVariants.{NoStation, Repeated}
use Rattle.nest_core.specs.declared.setup_fault.SetupFault.TheVariants.{UnknownNormal}

abbrev file : List ℕ
file = codes "station,GAL\nplace,S1,inside\nplace,MUSEUM-X,elsewhere\nbox,C1\n"
    ++ codes "own,2001.4.1,S1\nlent,L1999.7\n"

abbrev museum : Museum
museum = record {
  stations = codes "GAL" ∷ [];
  places = (codes "S1", true) ∷ (codes "MUSEUM-X", false) ∷ [];
  things = (codes "C1", None) ∷ (codes "2001.4.1", Some 0) ∷ (codes "L1999.7", None) ∷ [];
  growths = [];
}

most_stations : MOST_STATIONS ≡ 64
most_stations = refl

most_places : MOST_PLACES ≡ 10000
most_places = refl

most_things : MOST_THINGS ≡ 100000
most_things = refl

pub a_museum : museum_of (rows_of file) ≡ museum
unfolding next_record records_from strip_bom
a_museum = refl

pub a_museum-right : first_fault [] (rows_of file) ≡ None
unfolding next_record records_from strip_bom
a_museum-right = refl

-- its rows are those of the file
pub a_museum-rows : setup_rows museum ≡ codes "station,GAL" ∷ codes "place,S1,inside"
    ∷ codes "place,MUSEUM-X,elsewhere" ∷ codes "box,C1" ∷ codes "own,2001.4.1,S1"
    ∷ codes "lent,L1999.7" ∷ []
a_museum-rows = refl

pub shelf : first_fault [] (rows_of (codes "shelf,S1")) ≡ Some (BadKind 1)
unfolding next_record records_from strip_bom
shelf = refl

pub place_here : first_fault [] (rows_of (codes "station,GAL\nplace,S1,here")) ≡ Some (BadFields 2)
unfolding next_record records_from strip_bom
place_here = refl

pub box_zero : first_fault [] (rows_of (codes "box,C01")) ≡ Some (BadCode 1)
unfolding next_record records_from strip_bom
box_zero = refl

pub box_twice : first_fault [] (rows_of (codes "box,C1\nbox,C1")) ≡ Some (Repeated 2)
unfolding next_record records_from strip_bom
box_twice = refl

pub own_alone : first_fault [] (rows_of (codes "own,2001.4.1,S1")) ≡ Some (UnknownNormal 1)
unfolding next_record records_from strip_bom
own_alone = refl

-- a skipped row is counted too
pub skipped : first_fault [] (rows_of (codes "station,GAL\n,,\nbox,C01")) ≡ Some (BadCode 3)
unfolding next_record records_from strip_bom
skipped = refl

-- one byte order mark is dropped, and empty fields at a row's end don't count
pub marked : first_fault [] (rows_of (0xEF ∷ 0xBB ∷ 0xBF ∷ codes "station,GAL,,\r\nbox,C1,,\r\n"))
    ≡ None
unfolding next_record records_from strip_bom
marked = refl

pub marked_twice : first_fault []
    (rows_of (0xEF ∷ 0xBB ∷ 0xBF ∷ 0xEF ∷ 0xBB ∷ 0xBF ∷ codes "station,GAL")) ≡ Some (BadKind 1)
unfolding next_record records_from strip_bom
marked_twice = refl

-- a museum needs a station, and nothing more
pub no_station : station_fault no_museum ≡ Some NoStation
no_station = refl

pub station_alone : station_fault (record no_museum { stations = codes "GAL" ∷ [] }) ≡ None
station_alone = refl

-- an empty file lists no station
pub empty_file : station_fault (museum_of (rows_of [])) ≡ Some NoStation
unfolding next_record records_from strip_bom
empty_file = refl

-- the first row that holds has the result; if none holds, it is `other`
first_of_two : first_or (codes "other")
    ((codes "one" if false) ∷ (codes "two" if true) ∷ (codes "three" if true) ∷ []) ≡ codes "two"
first_of_two = refl

none_holds : first_or (codes "other") ((codes "one" if false) ∷ (codes "two" if false) ∷ [])
    ≡ codes "other"
none_holds = refl

-- Puts alone; each list has the newest first. There are six things; 0 and 1 are crates.

abbrev at : ℕ → ℕ → Put
at x p = record { thing = x; to = At p }

abbrev into : ℕ → ℕ → Put
into x c = record { thing = x; to = Within c }

-- contents_in_order: the content list of crate 0 after each put, and the things whose place the put
-- changes

abbrev one_put : List Put
one_put = at 0 0 ∷ []

contents_in_order-1 : (moved_by 6 [] (at 0 0) ≡ 0 ∷ []) × (contents one_put 0 ≡ [])
    × (holds_things one_put 0 ≡ false)
contents_in_order-1 = (refl, refl, refl)

abbrev two_puts : List Put
two_puts = into 2 0 ∷ one_put

contents_in_order-2 : (moved_by 6 one_put (into 2 0) ≡ 2 ∷ []) × (contents two_puts 0 ≡ 2 ∷ [])
    × (holds_things two_puts 0 ≡ true)
contents_in_order-2 = (refl, refl, refl)

abbrev three_puts : List Put
three_puts = into 3 0 ∷ two_puts

contents_in_order-3 : (moved_by 6 two_puts (into 3 0) ≡ 3 ∷ [])
    × (contents three_puts 0 ≡ 2 ∷ 3 ∷ [])
contents_in_order-3 = (refl, refl)

-- packed again, a thing goes to the end of the list and doesn't move
abbrev four_puts : List Put
four_puts = into 2 0 ∷ three_puts

contents_in_order-4 : (moved_by 6 three_puts (into 2 0) ≡ []) × (contents four_puts 0 ≡ 3 ∷ 2 ∷ [])
contents_in_order-4 = (refl, refl)

-- taken out at the place of the crate, it doesn't move either
abbrev five_puts : List Put
five_puts = at 3 0 ∷ four_puts

contents_in_order-5 : (moved_by 6 four_puts (at 3 0) ≡ []) × (contents five_puts 0 ≡ 2 ∷ [])
contents_in_order-5 = (refl, refl)

-- the crate's contents move with it; a thing taken out of it stays
abbrev six_puts : List Put
six_puts = at 0 2 ∷ five_puts

contents_in_order-6 : (moved_by 6 five_puts (at 0 2) ≡ 0 ∷ 2 ∷ []) × (contents six_puts 0 ≡ 2 ∷ [])
contents_in_order-6 = (refl, refl)

contents_in_order-carried : carried 6 six_puts 0 ≡ 0 ∷ 2 ∷ []
contents_in_order-carried = refl

contents_in_order-places : map (place 6 six_puts) (0 ∷ 1 ∷ 2 ∷ 3 ∷ []) ≡ Some 2 ∷ None ∷ Some 2
    ∷ Some 0 ∷ []
contents_in_order-places = refl

-- crate_in_crate: crate 1 in crate 0, and thing 2 in crate 1

abbrev crate_in_crate : List Put
crate_in_crate = into 2 1 ∷ into 1 0 ∷ at 1 0 ∷ at 0 0 ∷ []

crate_in_crate-chain : chain 6 crate_in_crate 2 ≡ 1 ∷ 0 ∷ []
crate_in_crate-chain = refl

crate_in_crate-carried : carried 6 crate_in_crate 0 ≡ 0 ∷ 1 ∷ 2 ∷ []
crate_in_crate-carried = refl

crate_in_crate-moved : moved_by 6 crate_in_crate (at 0 2) ≡ 0 ∷ 1 ∷ 2 ∷ []
crate_in_crate-moved = refl

-- cycle: crate 1 is in crate 0; neither 1 nor 0 itself can take 0, and 0 put where it is moves
-- nothing

abbrev cycle : List Put
cycle = into 1 0 ∷ at 1 0 ∷ at 0 0 ∷ []

cycle-before : pack_bar (last (at 1 0 ∷ at 0 0 ∷ [])) 6 8 1 0 ≡ None
cycle-before = refl

cycle-around : pack_bar (last cycle) 6 8 0 1 ≡ Some Cycle
cycle-around = refl

cycle-itself : pack_bar (last cycle) 6 8 0 0 ≡ Some Cycle
cycle-itself = refl

cycle-moved : moved_by 6 cycle (at 0 0) ≡ []
cycle-moved = refl

-- too_deep: crates 0 to 8, each in the one before, and thing 9 in the last but one; crate 11 is
-- elsewhere

abbrev eight_crates : List Put
eight_crates = into 9 7 ∷ into 7 6 ∷ into 6 5 ∷ into 5 4 ∷ into 4 3 ∷ into 3 2 ∷ into 2 1 ∷ into 1 0
    ∷ at 0 0 ∷ []

-- eight containers above a thing are allowed
too_deep-last : pack_bar (last eight_crates) 12 8 8 7 ≡ None
too_deep-last = refl

abbrev nine_crates : List Put
nine_crates = at 11 2 ∷ into 8 7 ∷ eight_crates

too_deep-chain : chain 12 nine_crates 8 ≡ 7 ∷ 6 ∷ 5 ∷ 4 ∷ 3 ∷ 2 ∷ 1 ∷ 0 ∷ []
too_deep-chain = refl

too_deep-thing : pack_bar (last nine_crates) 12 8 10 8 ≡ Some TooDeep
too_deep-thing = refl

-- the things deep inside the packed crate count too
too_deep-inside : pack_bar (last nine_crates) 12 8 0 11 ≡ Some TooDeep
too_deep-inside = refl

-- under the limit of new stores both packs are allowed
too_deep-limit : (pack_bar (last nine_crates) 12 12 10 8 ≡ None)
    × (pack_bar (last nine_crates) 12 12 0 11 ≡ None)
too_deep-limit = (refl, refl)

-- The bound alone rules out a put that rewrites every place, one step each: for seventeen things
-- without a place.
bound-alone : (before : ℕ) → before + 17 ≤ before + 8 *
    (length (carried 17 [] 0) + length (leaves [] 0) + 1) → ⊥
bound-alone before h = let low : before + 17 ≤ before + 16 = h in omega arith
