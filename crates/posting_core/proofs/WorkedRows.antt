-- The definitions computed on worked rows that a reader can follow by hand. Each is proved by
-- computing.
use Rattle.std.specs.Prelude.{ℕ, ℤ, pos, ◌+◌, ◌*◌, ◌≡◌, ◌<◌, ◌≤◌, true, false, List, [], ◌∷◌}
use Rattle.std.specs.Prelude.{Option, Some, None, map, reverse, refl, codes}
use Rattle.std.proofs.Common.{arith, sym}
use Rattle.nest_core.specs.declared.put.Target.TheVariants.{At}
use Rattle.nest_core.specs.declared.put.Put.{Put}
use Rattle.nest_core.specs.Museum.{Museum}
use Rattle.posting_core.specs.declared.TheConstants.{LAST_NUMBER, MOST_ENTRIES, MOST_OBJECTS}
use Rattle.posting_core.specs.declared.message.Message.{Message}
use Rattle.posting_core.specs.declared.message.Message.TheVariants.{Move, SignOff}
use Rattle.posting_core.specs.declared.verdict.Verdict.{Verdict}
use Rattle.posting_core.specs.declared.verdict.Verdict.TheVariants.{Applied, UnknownThing}
use Rattle.posting_core.specs.declared.verdict.Verdict.TheVariants.{UnknownPlace, ElsewherePlace}
use Rattle.posting_core.specs.declared.verdict.Verdict.TheVariants.{NotHere}
use Rattle.posting_core.specs.declared.entry.Entry.{Entry}
use Rattle.posting_core.specs.declared.entry.Spot.{Spot}
use Rattle.posting_core.specs.History.{puts, chain_at, carried_at, spots}
use Rattle.posting_core.specs.Verdicts.{verdict}
use Rattle.posting_core.specs.Lawful.{Follows, IsLawful, count_at, is_signed_off}
use Rattle.posting_core.specs.Book.{Book, place_in, changes_of}

-- two stations, three places of the museum's own and two partners' places, two crates, three own
-- objects and a borrowed one
abbrev pub museum : Museum
museum = record {
  stations = codes "PACK" ∷ codes "GAL" ∷ [];
  places = (codes "S1", true) ∷ (codes "S1-A", true) ∷ (codes "S2", true)
      ∷ (codes "MUSEUM-X", false) ∷ (codes "LENDER-Y", false) ∷ [];
  things = (codes "C1", None) ∷ (codes "C2", None) ∷ (codes "2001.4.1", Some 1)
      ∷ (codes "2001.4.2", Some 1) ∷ (codes "2001.4.3", Some 1) ∷ (codes "L1999.7", None) ∷ [];
  growths = [];
}

-- numbers in it
abbrev pub pack : ℕ
pack = 0

abbrev pub gal : ℕ
gal = 1

abbrev pub s1 : ℕ
s1 = 0

abbrev pub s1_a : ℕ
s1_a = 1

abbrev pub s2 : ℕ
s2 = 2

abbrev pub museum_x : ℕ
museum_x = 3

abbrev pub lender_y : ℕ
lender_y = 4

abbrev pub crate_1 : ℕ
crate_1 = 0

abbrev pub crate_2 : ℕ
crate_2 = 1

abbrev pub object_1 : ℕ
object_1 = 2

abbrev pub object_2 : ℕ
object_2 = 3

abbrev pub object_3 : ℕ
object_3 = 4

abbrev pub borrowed : ℕ
borrowed = 5

-- 2024-05-01
abbrev pub may : ℤ
may = pos 19844

abbrev pub moved : List ℕ → List ℕ → Message
moved x p = Move may x p

abbrev signed_off : Message
signed_off = SignOff (codes "Ada")

-- one more entry: the station's next number, and the verdict of the rules
abbrev entry_in : Museum → List Entry → ℕ → Message → Entry
entry_in S P station m = record {
  station = station;
  n = count_at station P + 1;
  message = m;
  verdict = verdict S 8 P m;
}

-- the entries of these stations' messages, in this order, after P
abbrev pub run_in : Museum → List Entry → List (ℕ × Message) → List Entry
run_in S P [] = P
run_in S P ((station, m) ∷ told) = run_in S (entry_in S P station m ∷ P) told

abbrev entry_of : List Entry → ℕ → Message → Entry
entry_of P station m = entry_in museum P station m

abbrev pub run : List Entry → List (ℕ × Message) → List Entry
run P told = run_in museum P told

abbrev pub verdicts : List Entry → List Verdict
verdicts P = reverse (map (λ e. e.verdict) P)

abbrev pub book : List Entry → Book
book P = record { museum = museum; depth = 8; posted = P }

-- a spot of that day
abbrev pub spot : ℕ → ℕ → Spot
spot number p = record { entry = number; place = p; day = may }

-- a thing put at a place
abbrev pub put_at : ℕ → ℕ → Option Put
put_at x p = Some (record { thing = x; to = At p })

-- held_then_posted: GAL's messages, in the order of their numbers

abbrev held_then_posted : List Entry
held_then_posted = run [] (
    (gal, moved (codes "2001.4.1") (codes "S1"))
    ∷ (gal, moved (codes "2001.4.2") (codes "S2"))
    ∷ (gal, moved (codes "2001.4.1") (codes "S1-A"))
    ∷ [])

held_then_posted-verdicts : verdicts held_then_posted ≡ Applied ∷ Applied ∷ Applied ∷ []
held_then_posted-verdicts = refl

held_then_posted-numbers : reverse (map (λ e. e.n) held_then_posted) ≡ 1 ∷ 2 ∷ 3 ∷ []
held_then_posted-numbers = refl

held_then_posted-spots : spots museum held_then_posted object_1 ≡ spot 1 s1 ∷ spot 3 s1_a ∷ []
held_then_posted-spots = refl

held_then_posted-other : spots museum held_then_posted object_2 ≡ spot 2 s2 ∷ []
held_then_posted-other = refl

held_then_posted-places : map (place_in (book held_then_posted))
    (object_1 ∷ object_2 ∷ borrowed ∷ []) ≡ Some s1_a ∷ Some s2 ∷ None ∷ []
held_then_posted-places = refl

held_then_posted-puts : puts museum held_then_posted ≡
    record { thing = object_1; to = At s1_a } ∷ record { thing = object_2; to = At s2 }
    ∷ record { thing = object_1; to = At s1 } ∷ []
held_then_posted-puts = refl

-- the changes that one more message would make: a spot with the next number in its thing's list
held_then_posted-change : changes_of (book held_then_posted)
    (moved (codes "2001.4.1") (codes "S2")) ≡
    record {
      entry = 4;
      verdict = Applied;
      put = put_at object_1 s2;
      carried = object_1 ∷ [];
      spots = record { thing = object_1; k = 3; spot = spot 4 s2 } ∷ [];
      loan = None;
      lines = [];
    }
held_then_posted-change = refl

-- a first placement has the number 1
held_then_posted-first : changes_of (book held_then_posted)
    (moved (codes "2001.4.3") (codes "S2")) ≡
    record {
      entry = 4;
      verdict = Applied;
      put = put_at object_3 s2;
      carried = object_3 ∷ [];
      spots = record { thing = object_3; k = 1; spot = spot 4 s2 } ∷ [];
      loan = None;
      lines = [];
    }
held_then_posted-first = refl

-- a Move to the thing's own place puts it there again, and writes nothing but the entry
held_then_posted-same : changes_of (book held_then_posted)
    (moved (codes "2001.4.1") (codes "S1-A")) ≡
    record {
      entry = 4;
      verdict = Applied;
      put = put_at object_1 s1_a;
      carried = object_1 ∷ [];
      spots = [];
      loan = None;
      lines = [];
    }
held_then_posted-same = refl

-- a sign-off puts nothing, and neither does a refused Move
held_then_posted-sign_off : changes_of (book held_then_posted) signed_off
    ≡ record {
      entry = 4;
      verdict = Applied;
      put = None;
      carried = [];
      spots = [];
      loan = None;
      lines = [];
    }
held_then_posted-sign_off = refl

held_then_posted-refused : changes_of (book held_then_posted)
    (moved (codes "2001.4.1") (codes "MUSEUM-X")) ≡
    record {
      entry = 4;
      verdict = ElsewherePlace;
      put = None;
      carried = [];
      spots = [];
      loan = None;
      lines = [];
    }
held_then_posted-refused = refl

-- tour_of_verdicts: refused Moves keep their numbers and place nothing

abbrev pub tour : List Entry
tour = run held_then_posted (
    (pack, moved (codes "2001.4.1") (codes "MUSEUM-X"))
    ∷ (pack, moved (codes "2001.4.1") (codes "S9"))
    ∷ (pack, moved (codes "2009.1") (codes "S1"))
    ∷ (pack, moved (codes "L1999.7") (codes "S1"))
    ∷ (pack, moved (codes "2001.4.1") (codes "S2"))
    ∷ [])

tour-verdicts : verdicts tour ≡ Applied ∷ Applied ∷ Applied ∷ ElsewherePlace ∷ UnknownPlace
    ∷ UnknownThing ∷ NotHere ∷ Applied ∷ []
tour-verdicts = refl

tour-numbers : reverse (map (λ e. e.n) tour) ≡ 1 ∷ 2 ∷ 3 ∷ 1 ∷ 2 ∷ 3 ∷ 4 ∷ 5 ∷ []
tour-numbers = refl

tour-spots : spots museum tour object_1 ≡ spot 1 s1 ∷ spot 3 s1_a ∷ spot 8 s2 ∷ []
tour-spots = refl

tour-borrowed : spots museum tour borrowed ≡ []
tour-borrowed = refl

-- the first row that holds: the thing, then the place, then the kind of place, then where the thing
-- is

order-thing : verdict museum 8 [] (moved (codes "2009.1") (codes "S9")) ≡ UnknownThing
order-thing = refl

order-place : verdict museum 8 [] (moved (codes "L1999.7") (codes "S9")) ≡ UnknownPlace
order-place = refl

order-elsewhere : verdict museum 8 [] (moved (codes "L1999.7") (codes "LENDER-Y")) ≡ ElsewherePlace
order-elsewhere = refl

-- a borrowed object without a place isn't here; an own one or a crate without a place may be moved
not_here : verdict museum 8 [] (moved (codes "L1999.7") (codes "S1")) ≡ NotHere
not_here = refl

here-own : verdict museum 8 [] (moved (codes "2001.4.1") (codes "S1")) ≡ Applied
here-own = refl

-- crates are moved like any other thing

abbrev crates : List Entry
crates = run [] (
    (pack, moved (codes "C1") (codes "S1"))
    ∷ (pack, moved (codes "C2") (codes "S1"))
    ∷ (pack, moved (codes "C1") (codes "S1"))
    ∷ (pack, moved (codes "C1") (codes "S2"))
    ∷ [])

crates-verdicts : verdicts crates ≡ Applied ∷ Applied ∷ Applied ∷ Applied ∷ []
crates-verdicts = refl

-- the third entry leaves C1 where it is, and writes no spot
crates-spots : map (spots museum crates) (crate_1 ∷ crate_2 ∷ []) ≡ (spot 1 s1 ∷ spot 4 s2 ∷ [])
    ∷ (spot 2 s1 ∷ []) ∷ []
crates-spots = refl

crates-chain : chain_at museum crates crate_2 ≡ []
crates-chain = refl

crates-carried : carried_at museum crates crate_1 ≡ crate_1 ∷ []
crates-carried = refl

-- sign_off: GAL's messages up to its sign-off, and then PACK's

abbrev sign_off : List Entry
sign_off = run [] (
    (gal, moved (codes "2001.4.1") (codes "S1-A"))
    ∷ (gal, moved (codes "2001.4.2") (codes "S2"))
    ∷ (gal, signed_off)
    ∷ (pack, moved (codes "2001.4.1") (codes "S1"))
    ∷ [])

sign_off-verdicts : verdicts sign_off ≡ Applied ∷ Applied ∷ Applied ∷ Applied ∷ []
sign_off-verdicts = refl

sign_off-numbers : reverse (map (λ e. e.n) sign_off) ≡ 1 ∷ 2 ∷ 3 ∷ 1 ∷ []
sign_off-numbers = refl

sign_off-spots : spots museum sign_off object_1 ≡ spot 1 s1_a ∷ spot 4 s1 ∷ []
sign_off-spots = refl

sign_off-signed : map (λ station. is_signed_off station sign_off) (pack ∷ gal ∷ [])
    ≡ false ∷ true ∷ []
sign_off-signed = refl

most_objects : MOST_OBJECTS ≡ 256
most_objects = refl

-- 64 stations, each up to its last number
most_entries : MOST_ENTRIES ≡ 64 * LAST_NUMBER
most_entries = refl

-- the lists that the rules allow

-- the next entry of a station that has not signed off may follow
follows : (P : List Entry) (station : ℕ) (m : Message) → station < 2 → count_at station P < 999999
    → is_signed_off station P ≡ false → Follows museum 8 P (entry_of P station m)
follows P station m known few unsigned =
    record { known = known; next = refl; few = omega arith; unsigned = unsigned; judged = refl }

-- applied and refused entries, of both stations
lawful-tour : IsLawful museum 8
    (run [] ((pack, moved (codes "2001.4.1") (codes "S9")) ∷ (gal, signed_off)
    ∷ (pack, moved (codes "2001.4.1") (codes "S1")) ∷ []))
lawful-tour =
    let P1 = entry_of [] pack (moved (codes "2001.4.1") (codes "S9")) ∷ [] in
    let P2 = entry_of P1 gal signed_off ∷ P1 in (
      follows P2 pack (moved (codes "2001.4.1") (codes "S1")) (omega arith) (omega arith) refl,
      (
        follows P1 gal signed_off (omega arith) (omega arith) refl,
        (
          follows [] pack (moved (codes "2001.4.1") (codes "S9")) (omega arith)
              (omega arith) refl,
          tt,
        ),
      ),
    )

-- an entry with a sign-off
abbrev told : ℕ → ℕ → Verdict → Entry
told station n v = record { station = station; n = n; message = signed_off; verdict = v }

differ : (a b : ℕ) → a < b → a ≡ b → ⊥
differ a b less same = omega arith

-- a lawful list has no entry of a station that the setup doesn't have
unlawful-station : IsLawful museum 8 (told 2 1 Applied ∷ []) → ⊥
unlawful-station h = let known : 2 < 2 = h.0.known in omega arith

-- nor one that skips a number
unlawful-passed : IsLawful museum 8 (told gal 2 Applied ∷ []) → ⊥
unlawful-passed h = differ 1 2 (omega arith) (sym h.0.next)

-- nor a number twice
unlawful-double : IsLawful museum 8 (told pack 1 Applied ∷ told pack 1 Applied ∷ []) → ⊥
unlawful-double h = differ 1 2 (omega arith) h.0.next

-- nor a number above 999,999, whatever comes before it
unlawful-number : (P : List Entry) → IsLawful museum 8 (told gal 1000000 Applied ∷ P) → ⊥
unlawful-number P h = let few : 1000000 ≤ 999999 = h.0.few in omega arith

-- nor an entry of a station that has signed off
unlawful-signed : IsLawful museum 8 (told gal 2 Applied ∷ told gal 1 Applied ∷ []) → ⊥
unlawful-signed h = let unsigned : true ≡ false = h.0.unsigned in cc

-- nor one with another verdict than that of the rules
unlawful-verdict : IsLawful museum 8 (told gal 1 NotHere ∷ []) → ⊥
unlawful-verdict h = let judged : NotHere ≡ Applied = h.0.judged in cc
