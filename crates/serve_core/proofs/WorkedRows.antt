-- The definitions computed on worked rows: the items of a feed text, and logs of two stations.
use Rattle.std.specs.Prelude.{ℕ, ◌≡◌, ◌-◌, ◌^◌, ◌<◌, ◌≤◌, nat_lt, List, [], ◌∷◌, length, map}
use Rattle.std.specs.Prelude.{reverse, Ok, Err, if◌then◌else◌, refl, codes}
use Rattle.std.specs.Fmt.{digits}
use Rattle.std.proofs.Common.{arith, ap, suc, zero}
use Rattle.std.proofs.lemmas.List.Elements.{All-nil, All-cons, All-head}
use Rattle.posting_core.specs.declared.entry.Entry.{Entry}
use Rattle.posting_core.proofs.WorkedRows.{museum, pack, gal, s1, s2, moved}
use Rattle.station_core.specs.Series.{window}
use Rattle.register_store.specs.declared.fault.ReadFault.TheVariants.{NotJson}
use Rattle.hub_core.specs.declared.hub.answer.Arrival.{Arrival}
use Rattle.hub_core.specs.declared.hub.answer.Answer.TheVariants.{Posted}
use Rattle.hub_core.specs.declared.hub.answer.Where.TheVariants.{Unplaced, At}
use Rattle.hub_core.specs.declared.hub.answer.HubFault.TheVariants as hub
use Rattle.hub_core.specs.declared.line.reply.TheConstants.{LONGEST_LINE}
use Rattle.hub_core.specs.declared.line.request.Request.TheVariants as asks
use Rattle.hub_core.specs.Points.{posted}
use Rattle.hub_core.specs.Requests.{request_in}
use Rattle.serve_core.specs.declared.item.Item.{Item}
use Rattle.serve_core.specs.declared.item.Item.TheVariants.{Scan, Ask, Bad}
use Rattle.serve_core.specs.declared.item.LineFault.TheVariants.{TooLong, Read}
use Rattle.serve_core.specs.declared.item.Reply.{Reply}
use Rattle.serve_core.specs.declared.item.Reply.TheVariants.{Answered, Found, Unread}
use Rattle.serve_core.specs.declared.item.LogLine.{LogLine}
use Rattle.serve_core.specs.declared.serve_fault.ServeFault.TheVariants.{NoMemory, Store}
use Rattle.serve_core.specs.declared.serve_fault.ServeFault.TheVariants.{Unfinished}
use Rattle.serve_core.specs.Feeds.{asked_item, line_items, text_items}
use Rattle.serve_core.specs.Lanes.{Begins}
use Rattle.serve_core.specs.Logs.{sent_item, item_reply, log_arrivals, items_of, AreOfStations}
use Rattle.serve_core.specs.Logs.{Ascends, IsAnswered, dropped}
use Rattle.serve_core.specs.Wording.{logged_text}
use Rattle.serve_core.specs.Sending.{serve_fault, CountsServe, IsOneOf, items_at, IsMerge}
use Rattle.serve_core.specs.Sending.{AreFronts}

-- ---- feed texts

-- two lines, each of them empty
empty_lines : text_items (codes "\n\r\n") ≡ []
empty_lines = refl

-- the request of a line is its item; a fault has the line's number
question_asked : asked_item 2 (Ok (asks.Ask (codes "2001.4.1"))) ≡ Ask (codes "2001.4.1")
question_asked = refl

message_asked : asked_item 2 (Ok (asks.Scan 7 (moved (codes "2001.4.1") (codes "S1"))))
    ≡ Scan 7 (moved (codes "2001.4.1") (codes "S1"))
message_asked = refl

faulty_line : asked_item 2 (Err NotJson) ≡ Bad 2 (Read NotJson)
faulty_line = refl

-- a line of 16,385 bytes isn't read, whatever its bytes
line_too_long : (b : ℕ) (rest : List ℕ) → length rest ≡ 16384
    → line_items 3 (b ∷ rest) ≡ Bad 3 TooLong ∷ []
line_too_long b rest long =
    ap (λ (n : ℕ). (if nat_lt LONGEST_LINE (suc n) then Bad 3 TooLong else asked_item 3
    (request_in (b ∷ rest))) ∷ []) long

-- ---- two_feeds: PACK and GAL each send a move, and then a question about their object

abbrev move_1 : Item
move_1 = Scan 1 (moved (codes "2001.4.1") (codes "S1"))

abbrev ask_1 : Item
ask_1 = Ask (codes "2001.4.1")

abbrev move_2 : Item
move_2 = Scan 1 (moved (codes "2001.4.2") (codes "S2"))

abbrev ask_2 : Item
ask_2 = Ask (codes "2001.4.2")

abbrev feeds : List (List Item)
feeds = (move_1 ∷ ask_1 ∷ []) ∷ (move_2 ∷ ask_2 ∷ []) ∷ []

abbrev line : ℕ → Item → Reply → LogLine
line s item reply = record { station = s; item = item; reply = reply }

abbrev pack_moved : LogLine
pack_moved = line pack move_1 (Answered (Posted 1 1))

abbrev gal_moved : LogLine
gal_moved = line gal move_2 (Answered (Posted 2 2))

abbrev gal_asked : LogLine
gal_asked = line gal ask_2 (Found (At s2 []))

abbrev pack_asked : LogLine
pack_asked = line pack ask_1 (Found (At s1 []))

-- the log of one of the possible orders
abbrev both : List LogLine
both = pack_moved ∷ gal_moved ∷ gal_asked ∷ pack_asked ∷ []

two_feeds-pack : items_of pack both ≡ move_1 ∷ ask_1 ∷ []
two_feeds-pack = refl

two_feeds-gal : items_of gal both ≡ move_2 ∷ ask_2 ∷ []
two_feeds-gal = refl

two_feeds-no_feed : items_at feeds 2 ≡ []
two_feeds-no_feed = refl

abbrev arrived_of : ℕ → List ℕ → List ℕ → Arrival
arrived_of s x p = record { station = s; n = 1; message = moved x p }

-- questions are no arrivals
two_feeds-arrivals : log_arrivals both ≡ arrived_of pack (codes "2001.4.1") (codes "S1")
    ∷ arrived_of gal (codes "2001.4.2") (codes "S2") ∷ []
two_feeds-arrivals = refl

two_feeds-answered : IsAnswered museum 12 [] [] both
unfolding window
two_feeds-answered = (refl, (refl, (refl, (refl, tt))))

-- a faulty line sends nothing and isn't answered
faulty-sends : sent_item gal (Bad 3 TooLong) ≡ []
faulty-sends = refl

faulty-unread : item_reply museum 12 [] [] gal (Bad 3 TooLong) ≡ Unread
faulty-unread = refl

-- a question after the move isn't answered as if before it
answered_at_the_opening : IsAnswered museum 12 [] []
    (pack_moved ∷ line pack ask_1 (Found Unplaced) ∷ []) → ⊥
unfolding window
answered_at_the_opening h = let e : Found Unplaced ≡ Found (At s1 []) = h.1.0 in cc

-- nor one before it as if after it
answered_at_the_end : IsAnswered museum 12 [] [] (pack_asked ∷ pack_moved ∷ []) → ⊥
unfolding window
answered_at_the_end h = let e : Found (At s1 []) ≡ Found Unplaced = h.0 in cc

pack_of_two : 0 < 2
pack_of_two = omega arith

gal_of_two : 1 < 2
gal_of_two = omega arith

of_two : AreOfStations 2 both
of_two =
    All-cons (λ (l : LogLine). l.station < 2) pack_moved
    (gal_moved ∷ gal_asked ∷ pack_asked ∷ []) pack_of_two
    (All-cons (λ (l : LogLine). l.station < 2) gal_moved (gal_asked ∷ pack_asked ∷ []) gal_of_two
    (All-cons (λ (l : LogLine). l.station < 2) gal_asked (pack_asked ∷ []) gal_of_two
    (All-cons (λ (l : LogLine). l.station < 2) pack_asked [] pack_of_two
    (All-nil (λ (l : LogLine). l.station < 2)))))

whole_of_two : (s : ℕ) → s < 2 → items_of s both ≡ items_at feeds s
whole_of_two zero lt = refl
whole_of_two (suc zero) lt = refl
whole_of_two (suc (suc s)) lt = absurd (omega (arith, lt))

two_feeds-merge : IsMerge feeds both
two_feeds-merge = record { stations = of_two; whole = whole_of_two }

-- a merge loses no item
lost : IsMerge feeds (pack_moved ∷ gal_moved ∷ gal_asked ∷ []) → ⊥
lost h = let e : move_1 ∷ [] ≡ move_1 ∷ ask_1 ∷ [] = h.whole 0 pack_of_two in cc

-- nor repeats one
twice : IsMerge feeds (pack_moved ∷ both) → ⊥
twice h = let e : move_1 ∷ move_1 ∷ ask_1 ∷ [] ≡ move_1 ∷ ask_1 ∷ [] = h.whole 0 pack_of_two in cc

-- nor swaps a station's items, even if it has all of both
turned_round : IsMerge feeds (pack_asked ∷ gal_moved ∷ gal_asked ∷ pack_moved ∷ []) → ⊥
turned_round h = let e : ask_1 ∷ move_1 ∷ [] ≡ move_1 ∷ ask_1 ∷ [] = h.whole 0 pack_of_two in cc

-- nor has a line for a station without a feed
of_another : IsMerge feeds (line 2 ask_1 (Found Unplaced) ∷ both) → ⊥
of_another h = let known : 2 < 2 =
    All-head (λ (l : LogLine). l.station < 2) (line 2 ask_1 (Found Unplaced)) both h.stations
    in omega arith

-- ---- the printed text

-- the entries of both moves, oldest first
abbrev posted_both : List Entry
posted_both = reverse (posted museum 12 [] (log_arrivals both))

abbrev printed_of : LogLine → List ℕ
printed_of l = logged_text museum posted_both l

-- each message with its own entry alone
printed-pack : printed_of pack_moved ≡ codes "PACK 1 posted 1 Applied\n"
unfolding window digits
printed-pack = refl

printed-gal : printed_of gal_moved ≡ codes "GAL 1 posted 2 Applied\n"
unfolding window digits
printed-gal = refl

printed-asked : printed_of gal_asked ≡ codes "GAL ask 2001.4.2 at S2\n"
printed-asked = refl

printed-faulty : map (λ fault. printed_of (line gal (Bad 3 fault) Unread))
    (TooLong ∷ Read NotJson ∷ []) ≡ codes "GAL line 3 bad TooLong\n"
    ∷ codes "GAL line 3 bad NotJson\n" ∷ []
unfolding digits
printed-faulty = refl

-- ---- after a fault

-- the first lines of each are the first part of its feed
front_of_each : (s : ℕ) → s < 2 → Begins (items_of s (gal_moved ∷ [])) (items_at feeds s)
front_of_each zero lt = (move_1 ∷ ask_1 ∷ [], refl)
front_of_each (suc zero) lt = (ask_2 ∷ [], refl)
front_of_each (suc (suc s)) lt = absurd (omega (arith, lt))

stopped-fronts : AreFronts feeds (gal_moved ∷ []) Store
stopped-fronts = record {
  stations = All-cons (λ (l : LogLine). l.station < 2) gal_moved [] gal_of_two
      (All-nil (λ (l : LogLine). l.station < 2));
  front = front_of_each;
  named = tt;
}

-- and still are with the item that met the fault
front_with_item : (s : ℕ) → s < 2
    → Begins (items_of s (gal_moved ∷ dropped pack move_1 ∷ [])) (items_at feeds s)
front_with_item zero lt = (ask_1 ∷ [], refl)
front_with_item (suc zero) lt = (ask_2 ∷ [], refl)
front_with_item (suc (suc s)) lt = absurd (omega (arith, lt))

stopped-with_item : AreFronts feeds (gal_moved ∷ dropped pack move_1 ∷ []) Store
stopped-with_item = record {
  stations =
      All-cons (λ (l : LogLine). l.station < 2) gal_moved (dropped pack move_1 ∷ []) gal_of_two
      (All-cons (λ (l : LogLine). l.station < 2) (dropped pack move_1) [] pack_of_two
      (All-nil (λ (l : LogLine). l.station < 2)));
  front = front_with_item;
  named = tt;
}

-- an item that isn't the next of its feed didn't meet the fault
met_too_late : AreFronts feeds (gal_moved ∷ dropped pack ask_1 ∷ []) Store → ⊥
met_too_late h = let behind =
    h.front 0 pack_of_two in let e : move_1 ∷ ask_1 ∷ [] ≡ ask_1 ∷ behind.0 = behind.1 in cc

-- the items after a lost item don't count
passed_over : AreFronts feeds (gal_asked ∷ []) Store → ⊥
passed_over h = let behind = h.front 1 gal_of_two in
    let e : move_2 ∷ ask_2 ∷ [] ≡ ask_2 ∷ behind.0 = behind.1 in cc

-- a fault names one of this many stations, or none
last_of_two : IsOneOf 2 (Unfinished 1)
last_of_two = gal_of_two

none_named : IsOneOf 0 NoMemory × IsOneOf 0 Store
none_named = (tt, tt)

third_of_two : IsOneOf 2 (Unfinished 2) → ⊥
third_of_two h = let known : 2 < 2 = h in omega arith

faults_told : map serve_fault (hub.NoMemory ∷ hub.Store ∷ hub.Down ∷ []) ≡ NoMemory ∷ Store
    ∷ NoMemory ∷ []
faults_told = refl

differ : (a b : ℕ) → a < b → a ≡ b → ⊥
differ a b less same = omega arith

-- Store is counted up to 2^64 - 1, and no other fault is counted
counted : CountsServe 3 4 Store × CountsServe (2 ^ 64 - 1) (2 ^ 64 - 1) Store
    × CountsServe 3 3 NoMemory × CountsServe 3 3 (Unfinished 0)
counted = (refl, refl, refl, refl)

store_uncounted : CountsServe 3 3 Store → ⊥
store_uncounted h = differ 3 4 (omega arith) h

-- ---- one turn: at most one line from each station, in their order

nought : 0 ≤ 0
nought = omega arith

one : 1 ≤ 1
one = omega arith

in_order : Ascends 0 2 (pack_asked ∷ gal_asked ∷ [])
in_order = (nought, pack_of_two, (one, gal_of_two, tt))

gal_before_pack : Ascends 0 2 (gal_asked ∷ pack_asked ∷ []) → ⊥
gal_before_pack h = let late : 2 ≤ 0 = h.2.0 in omega arith

twice_in_a_turn : Ascends 0 2 (gal_asked ∷ gal_asked ∷ []) → ⊥
twice_in_a_turn h = let late : 2 ≤ 1 = h.2.0 in omega arith
