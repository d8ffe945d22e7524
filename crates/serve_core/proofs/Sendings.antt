-- The lanes that the threads hand back, and the items taken.
use Rattle.std.proofs.Common.{◌≡◌, ℕ, zero, suc, ◌<◌, List, [], ◌∷◌, ◌++◌, length, map, Bool, true}
use Rattle.std.proofs.Common.{false, inl, inr, refl, ap, ◌∙◌, sym, subst, arith, append_assoc}
use Rattle.std.proofs.Common.{append-nil, get_or}
use Rattle.std.proofs.lemmas.List.Elements.{All-append, All-cons, All-head, All-nil, All-tail}
use Rattle.std.specs.Prelude.{All}
use Rattle.std.specs.List.{AllZip}
use Rattle.rtrb.specs.Ring.{SameConsumer}
use Rattle.hub_core.specs.declared.hub.answer.HubFault.{HubFault}
use Rattle.hub_core.specs.declared.hub.answer.HubFault.TheVariants as hub
use Rattle.serve_core.specs.declared.item.Item.{Item}
use Rattle.serve_core.specs.declared.item.LogLine.{LogLine}
use Rattle.serve_core.specs.declared.lane.Lane.{Lane}
use Rattle.serve_core.specs.declared.lane.LaneEnd.{LaneEnd}
use Rattle.serve_core.specs.declared.sending.Sent.{Sent}
use Rattle.serve_core.specs.declared.serve_fault.ServeFault.{ServeFault}
use Rattle.serve_core.specs.declared.serve_fault.ServeFault.TheVariants as faults
use Rattle.serve_core.specs.Logs.{items_of, AreOfStations, Answers, Serves, ServesTo, dropped}
use Rattle.serve_core.specs.Lanes.{Ring, received_is, received_at, ended_at, sent_items, SameLane}
use Rattle.serve_core.specs.Lanes.{Begins, IsFresh, IsEndOn, Takes, TakesSome, TakesLeft}
use Rattle.serve_core.specs.Lanes.{TakesFront}
use Rattle.serve_core.specs.Sending.{IsSent, Sends, IsStill, IsSentTo, IsEndOfSent, sent_of}
use Rattle.serve_core.specs.Sending.{sent_at, items_at, SentFront, SentWhole, IsOneOf, serve_fault}
use Rattle.serve_core.specs.Sending.{IsMerge, AreFronts, Stops, Leaves, AfterFault, StopsLanes}
use Rattle.serve_core.specs.Sending.{LeavesLanes, EndsLanes}
use Rattle.register_store.specs.Holdings.{Holding}
use Rattle.hub_core.specs.StandsFor.{State}
use Rattle.serve_core.proofs.LogLemmas.{serves_then, serves_to_then}
use Rattle.serve_core.proofs.Takings.{zip_length, read_here, received_here, items_of-append}

-- lanes that were looked at
lane_trans : (x y z : Lane) → SameLane x y → SameLane y z → SameLane x z
lane_trans x y z p q = ((q.0.0 ∙ p.0.0, q.0.1 ∙ p.0.1, q.0.2 ∙ p.0.2, q.0.3 ∙ p.0.3), q.1 ∙ p.1)

pub still_trans : (x y z : Sent) → IsStill x y → IsStill y z → IsStill x z
still_trans x y z p q = record {
  same = lane_trans x.lane y.lane z.lane p.same q.same;
  items = q.items ∙ p.items;
  whole = q.whole ∙ p.whole;
}

pub all_still : (xs : List Sent) → AllZip IsStill xs xs
all_still [] = tt
all_still (x ∷ xs) =
    (record { same = ((refl, refl, refl, refl), refl); items = refl; whole = refl }, all_still xs)

pub still_at : (xs ys : List Sent) (s : ℕ) → AllZip IsStill xs ys → sent_at ys s ≡ sent_at xs s
still_at [] [] s all = refl
still_at [] (y ∷ ys) s all = absurd all
still_at (x ∷ xs) [] s all = absurd all
still_at (x ∷ xs) (y ∷ ys) zero all = all.0.items
still_at (x ∷ xs) (y ∷ ys) (suc s) all = still_at xs ys s all.1

sent_here : (xs : List Sent) (i : ℕ) (x : Sent) → i < length xs → x ≡ get_or xs i x
    → sent_at xs i ≡ sent_items x.lane
sent_here = read_here (λ (x : Sent). sent_items x.lane) sent_of (λ x. refl)

pub settled_at : (cs0 cs : List Ring) (xs0 xs : List Sent) (i : ℕ) (c : Ring) (x : Sent)
    → received_at cs i ≡ received_at cs0 i → sent_at xs i ≡ sent_at xs0 i
    → i < length cs → i < length xs → c ≡ get_or cs i c → x ≡ get_or xs i x
    → Begins (received_is c) (sent_items x.lane) → Begins (received_at cs0 i) (sent_at xs0 i)
settled_at cs0 cs xs0 xs i c x p q lc lx ac ax b = (
  b.0,
  sym q ∙ (sent_here xs i x lx ax
      ∙ (b.1 ∙ ap (λ (ys : List Item). ys ++ b.0) (sym (received_here cs i c lc ac) ∙ p))),
)

-- the returned lanes are those of the rings, and have the feeds' items
module _ {H X : Type 0} (lane : H → Lane) (feed : H → X) (its : X → List Item) where
  pub back_to : (hs : List H) (xs : List Sent) (cs0 cs : List Ring)
      → AllZip (λ h x. Sends (lane h) (its (feed h)) x) hs xs → AllZip IsFresh (map lane hs) cs0
      → AllZip SameConsumer cs0 cs → AllZip IsSentTo xs cs
  back_to [] [] [] [] a b c = tt
  back_to [] [] [] (y ∷ cs) a b c = absurd c
  back_to [] [] (x ∷ cs0) cs a b c = absurd b
  back_to [] (e ∷ xs) cs0 cs a b c = absurd a
  back_to (h ∷ hs) [] cs0 cs a b c = absurd a
  back_to (h ∷ hs) (e ∷ xs) [] cs a b c = absurd b
  back_to (h ∷ hs) (e ∷ xs) (x ∷ cs0) [] a b c = absurd c
  back_to (h ∷ hs) (e ∷ xs) (x ∷ cs0) (y ∷ cs) a b c = (
    (
      c.0.0.0 ∙ (b.0.0.0 ∙ sym a.0.same.0.0),
      c.0.0.1 ∙ (b.0.0.1 ∙ sym a.0.same.0.1),
      c.0.0.2 ∙ (b.0.0.2 ∙ sym a.0.same.0.2),
      c.0.0.3 ∙ (b.0.0.3 ∙ sym a.0.same.0.3),
    ),
    back_to hs xs cs0 cs a.1 b.1 c.1,
  )

  pub back_of : (hs : List H) (xs : List Sent) (cs0 : List Ring)
      → AllZip (λ h x. Sends (lane h) (its (feed h)) x) hs xs → AllZip IsFresh (map lane hs) cs0
      → AllZip IsSent xs (map its (map feed hs))
  back_of [] [] cs0 a b = tt
  back_of [] (e ∷ xs) cs0 a b = absurd a
  back_of (h ∷ hs) [] cs0 a b = absurd a
  back_of (h ∷ hs) (e ∷ xs) [] a b = absurd b
  back_of (h ∷ hs) (e ∷ xs) (x ∷ cs0) a b = (
    subst (λ (ys : List Item). IsSent e (ys ++ its (feed h))) b.0.1 a.0.back_is,
    back_of hs xs cs0 a.1 b.1,
  )

-- the ends of the returned lanes
pub ends_on : (xs : List Sent) (es : List LaneEnd) (cs : List Ring) → AllZip IsEndOfSent xs es
    → AllZip IsSentTo xs cs → AllZip IsEndOn es cs
ends_on [] [] [] a b = tt
ends_on [] [] (c ∷ cs) a b = absurd b
ends_on [] (e ∷ es) cs a b = absurd a
ends_on (x ∷ xs) [] cs a b = absurd a
ends_on (x ∷ xs) (e ∷ es) [] a b = absurd b
ends_on (x ∷ xs) (e ∷ es) (c ∷ cs) a b = (
  (b.0.0 ∙ sym a.0.0.0, b.0.1 ∙ sym a.0.0.1, b.0.2 ∙ sym a.0.0.2, b.0.3 ∙ sym a.0.0.3),
  ends_on xs es cs a.1 b.1,
)

pub ended_sent : (xs : List Sent) (es : List LaneEnd) (s : ℕ) → AllZip IsEndOfSent xs es
    → ended_at es s ≡ sent_at xs s
ended_sent [] [] s a = refl
ended_sent [] (e ∷ es) s a = absurd a
ended_sent (x ∷ xs) [] s a = absurd a
ended_sent (x ∷ xs) (e ∷ es) zero a = a.0.1
ended_sent (x ∷ xs) (e ∷ es) (suc s) a = ended_sent xs es s a.1

-- the first part of each feed was sent, and all of it if all are whole
front_sent : (xs : List Sent) (fs : List (List Item)) (s : ℕ) → AllZip IsSent xs fs
    → Begins (sent_at xs s) (items_at fs s)
front_sent [] [] s a = ([], refl)
front_sent [] (f ∷ fs) s a = absurd a
front_sent (x ∷ xs) [] s a = absurd a
front_sent (x ∷ xs) (f ∷ fs) zero a = a.0.front
front_sent (x ∷ xs) (f ∷ fs) (suc s) a = front_sent xs fs s a.1

whole_sent : (xs : List Sent) (fs : List (List Item)) (s : ℕ)
    → All (λ (x : Sent). x.whole ≡ true) xs → AllZip IsSent xs fs → sent_at xs s ≡ items_at fs s
whole_sent [] [] s w a = refl
whole_sent [] (f ∷ fs) s w a = absurd a
whole_sent (x ∷ xs) [] s w a = absurd a
whole_sent (x ∷ xs) (f ∷ fs) zero w a = a.0.whole (All-head (λ (x : Sent). x.whole ≡ true) x xs w)
whole_sent (x ∷ xs) (f ∷ fs) (suc s) w a =
    whole_sent xs fs s (All-tail (λ (x : Sent). x.whole ≡ true) x xs w) a.1

fresh_none : (ls : List Lane) (cs : List Ring) (s : ℕ) → AllZip IsFresh ls cs
    → received_at cs s ≡ []
fresh_none ls [] s a = refl
fresh_none [] (c ∷ cs) s a = absurd a
fresh_none (l ∷ ls) (c ∷ cs) zero a = a.0.2
fresh_none (l ∷ ls) (c ∷ cs) (suc s) a = fresh_none ls cs s a.1

begins_trans : (xs ys zs : List Item) → Begins xs ys → Begins ys zs → Begins xs zs
begins_trans xs ys zs p q =
    (p.0 ++ q.0, q.1 ∙ (ap (λ (us : List Item). us ++ q.0) p.1 ∙ append_assoc xs p.0 q.0))

-- the items left after those taken first
left_after : (ls : List Lane) (cs0 cs : List Ring) (G H : List LogLine) (s : ℕ)
    → AllZip IsFresh ls cs0 → Takes cs0 cs G
    → received_at cs s ++ items_of s H ≡ items_of s (G ++ H)
left_after ls cs0 cs G H s fresh t =
    ap (λ (ys : List Item). ys ++ items_of s H)
    (t.taken s ∙ ap (λ (ys : List Item). ys ++ items_of s G) (fresh_none ls cs0 s fresh))
    ∙ sym (items_of-append s G H)

stations_both : (n m k : ℕ) (G H : List LogLine) → n ≡ m → k ≡ m → AreOfStations n G
    → AreOfStations k H → AreOfStations m (G ++ H)
stations_both n m k G H p q a b =
    All-append (λ l. l.station < m) G H (subst (λ (i : ℕ). AreOfStations i G) p a)
    (subst (λ (i : ℕ). AreOfStations i H) q b)

-- the numbers of feeds, lanes and rings
module _ (ls : List Lane) (cs0 cs : List Ring) (xs : List Sent) (fs : List (List Item)) where
  feeds_count : AllZip SameConsumer cs0 cs → AllZip IsSentTo xs cs → AllZip IsSent xs fs
      → length cs0 ≡ length fs
  feeds_count rings to of = zip_length SameConsumer cs0 cs rings
      ∙ (sym (zip_length IsSentTo xs cs to) ∙ zip_length IsSent xs fs of)

  rings_count : AllZip IsSentTo xs cs → AllZip IsSent xs fs → length cs ≡ length fs
  rings_count to of = sym (zip_length IsSentTo xs cs to) ∙ zip_length IsSent xs fs of

  -- a fault during the turns
  pub fronts_stopped : (G : List LogLine) (fault : ServeFault) → AllZip IsFresh ls cs0
      → TakesSome cs0 cs G → AllZip IsSentTo xs cs → AllZip IsSent xs fs
      → ((s : ℕ) → s < length cs → Begins (received_at cs s) (sent_at xs s))
      → IsOneOf (length fs) fault → AreFronts fs G fault
  fronts_stopped G fault fresh t to of settled named = record {
    stations = subst (λ (i : ℕ). AreOfStations i G) (feeds_count t.rings to of) t.stations;
    front = λ s lt. begins_trans (items_of s G) (sent_at xs s) (items_at fs s)
        (begins_trans (items_of s G) (received_at cs s) (sent_at xs s)
        (subst (λ (ys : List Item). Begins (ys ++ items_of s G) (received_at cs s))
        (fresh_none ls cs0 s fresh) (t.taken s))
        (settled s (let e = rings_count to of in omega (arith, e))))
        (front_sent xs fs s of);
    named = named;
  }

  -- all threads have ended, and the items left were taken, perhaps only the first of them
  pub fronts_left : (G H : List LogLine) (fault : ServeFault) → AllZip IsFresh ls cs0
      → Takes cs0 cs G → AllZip IsSentTo xs cs → AllZip IsSent xs fs
      → AreOfStations (length cs) H → SentFront cs xs H → IsOneOf (length fs) fault
      → AreFronts fs (G ++ H) fault
  fronts_left G H fault fresh t to of stations front named = record {
    stations = stations_both (length cs0) (length fs) (length cs) G H (feeds_count t.rings to of)
        (rings_count to of) t.stations stations;
    front = λ s lt. begins_trans (items_of s (G ++ H)) (sent_at xs s) (items_at fs s)
        (subst (λ (ys : List Item). Begins ys (sent_at xs s)) (left_after ls cs0 cs G H s fresh t)
        (front s (let e = rings_count to of in omega (arith, e))))
        (front_sent xs fs s of);
    named = named;
  }

  pub merged : (G H : List LogLine) → AllZip IsFresh ls cs0 → Takes cs0 cs G → AllZip IsSentTo xs cs
      → AllZip IsSent xs fs
      → AreOfStations (length cs) H → SentWhole cs xs H → All (λ (x : Sent). x.whole ≡ true) xs
      → IsMerge fs (G ++ H)
  merged G H fresh t to of stations left whole = record {
    stations = stations_both (length cs0) (length fs) (length cs) G H (feeds_count t.rings to of)
        (rings_count to of) t.stations stations;
    whole = λ s lt. sym (left_after ls cs0 cs G H s fresh t)
        ∙ (left s (let e = rings_count to of in omega (arith, e)) ∙ whole_sent xs fs s whole of);
  }

-- a log that was empty before
pub log_whole : (xs ys zs G H : List LogLine) → xs ≡ [] → ys ≡ xs ++ G → zs ≡ ys ++ H → zs ≡ G ++ H
log_whole xs ys zs G H e p q =
    q ∙ ap (λ (ls : List LogLine). ls ++ H) (p ∙ ap (λ (ls : List LogLine). ls ++ G) e)

pub hub_named : (n : ℕ) (fault : HubFault) → IsOneOf n (serve_fault fault)
hub_named n hub.NoMemory = tt
hub_named n hub.Store = tt
hub_named n hub.Down = tt

-- the view after the lanes were looked at
pub settled_view : (cs arg : List Ring) (xs : List Sent) (n : ℕ) → cs ≡ arg → n ≡ length cs
    → ((s : ℕ) → s < n → Begins (received_at cs s) (sent_at xs s))
    → (s : ℕ) → s < length arg → Begins (received_at arg s) (sent_at xs s)
settled_view cs arg xs n same len f s lt =
    subst (λ (bs : List Ring). Begins (received_at bs s) (sent_at xs s)) same
    (f s (let e = ap length same in omega (arith, e, len, lt)))

pub fronts_none : (fs : List (List Item)) (fault : ServeFault) → IsOneOf (length fs) fault
    → AreFronts fs [] fault
fronts_none fs fault named = record {
  stations = All-nil (λ l. l.station < length fs);
  front = λ s lt. (items_at fs s, refl);
  named = named;
}

-- the ends have the items that were sent
pub left_front : (cs : List Ring) (xs0 xs : List Sent) (cs1 : List Ring) (es : List LaneEnd)
    (G : List LogLine) → AllZip IsStill xs0 xs → AllZip IsEndOfSent xs es
    → length cs1 ≡ length cs → ((s : ℕ) → received_at cs1 s ≡ received_at cs s)
    → TakesFront cs1 es G → SentFront cs xs0 G
left_front cs xs0 xs cs1 es G still ends len same front s lt =
    let f = front s (omega (arith, len)) in (
      f.0,
      sym (still_at xs0 xs s still)
          ∙ (sym (ended_sent xs es s ends)
          ∙ (f.1 ∙ ap (λ (ys : List Item). (ys ++ items_of s G) ++ f.0) (same s))),
    )

pub left_whole : (cs : List Ring) (xs0 xs : List Sent) (cs1 : List Ring) (es : List LaneEnd)
    (G : List LogLine) → AllZip IsStill xs0 xs → AllZip IsEndOfSent xs es
    → length cs1 ≡ length cs → ((s : ℕ) → received_at cs1 s ≡ received_at cs s) → TakesLeft cs1 es G
    → SentWhole cs xs0 G
left_whole cs xs0 xs cs1 es G still ends len same left s lt =
    ap (λ (ys : List Item). ys ++ items_of s G) (sym (same s))
    ∙ (left s (omega (arith, len)) ∙ (ended_sent xs es s ends ∙ still_at xs0 xs s still))

-- no more lines
pub none_left : (cs : List Ring) (xs : List Sent)
    → ((s : ℕ) → s < length cs → Begins (received_at cs s) (sent_at xs s)) → SentFront cs xs []
none_left cs xs settled s lt = (
  (settled s lt).0,
  (settled s lt).1 ∙ ap (λ (ys : List Item). ys ++ (settled s lt).0)
      (sym (append-nil (received_at cs s))),
)

-- the first part of each feed, and the next item, which met a fault
stations_left : (n : ℕ) (G H : List LogLine) → AreOfStations n (G ++ H) → AreOfStations n G
stations_left n [] H a = All-nil (λ l. l.station < n)
stations_left n (l ∷ G) H a =
    All-cons (λ (m : LogLine). m.station < n) l G
    (All-head (λ (m : LogLine). m.station < n) l (G ++ H) a)
    (stations_left n G H (All-tail (λ (m : LogLine). m.station < n) l (G ++ H) a))

pub fronts_shorter : (fs : List (List Item)) (G H : List LogLine) (fault : ServeFault)
    → AreFronts fs (G ++ H) fault → AreFronts fs G fault
fronts_shorter fs G H fault f = record {
  stations = stations_left (length fs) G H f.stations;
  front = λ s lt. begins_trans (items_of s G) (items_of s (G ++ H)) (items_at fs s)
      (items_of s H, items_of-append s G H) (f.front s lt);
  named = f.named;
}

module _ {R : Type 0} (holding : R → Holding) where
  -- the state after a serving, by its fault
  pub stops_after : (a b : State R) (fs : List (List Item)) (G : List LogLine) (fault : HubFault)
      → (fault ≡ hub.Store → b.down ≡ true) → Stops holding a b fs G (serve_fault fault)
      → AfterFault holding a b fs G (serve_fault fault)
  stops_after a b fs G hub.NoMemory down st = inl st
  stops_after a b fs G hub.Store down st = (st, down refl)
  stops_after a b fs G hub.Down down st = inl st

  pub after_answers : (a b : State R) (fs : List (List Item)) (G : List LogLine)
      (fault : ServeFault) → AfterFault holding a b fs G fault → Answers holding a b G
  after_answers a b fs G faults.NoMemory (inl st) = st.served.answers
  after_answers a b fs G faults.NoMemory (inr le) = le.served.answers
  after_answers a b fs G faults.Store h = h.0.served.answers
  after_answers a b fs G (faults.Unfinished s) le = le.served.answers

  pub after_fronts : (a b : State R) (fs : List (List Item)) (G : List LogLine) (fault : ServeFault)
      → AfterFault holding a b fs G fault → AreFronts fs G fault
  after_fronts a b fs G faults.NoMemory (inl st) =
      fronts_shorter fs G (dropped st.station st.item ∷ []) faults.NoMemory st.fronts
  after_fronts a b fs G faults.NoMemory (inr le) = le.fronts
  after_fronts a b fs G faults.Store h =
      fronts_shorter fs G (dropped h.0.station h.0.item ∷ []) faults.Store h.0.fronts
  after_fronts a b fs G (faults.Unfinished s) le = le.fronts

  -- the state after ending the lanes, by its fault
  pub stops_lanes_after : (a b : State R) (cs : List Ring) (xs : List Sent) (old new : List LogLine)
      (fault : HubFault) → (fault ≡ hub.Store → b.down ≡ true)
      → StopsLanes holding a b cs xs old new
      → EndsLanes holding a b cs xs old new (serve_fault fault)
  stops_lanes_after a b cs xs old new hub.NoMemory down st = inl st
  stops_lanes_after a b cs xs old new hub.Store down st = (st, down refl)
  stops_lanes_after a b cs xs old new hub.Down down st = inl st

  pub missing_lanes : (a b : State R) (cs : List Ring) (xs : List Sent) (old new : List LogLine)
      (whole : Bool) (fault : ServeFault) (station : ℕ)
      → (whole ≡ true → fault ≡ faults.Unfinished station)
      → (whole ≡ false → fault ≡ faults.NoMemory) → station < length cs
      → LeavesLanes holding a b cs xs old new → EndsLanes holding a b cs xs old new fault
  missing_lanes a b cs xs old new true fault station missing memory lt le =
      subst (λ (f : ServeFault). EndsLanes holding a b cs xs old new f) (sym (missing refl))
      (le, lt)
  missing_lanes a b cs xs old new false fault station missing memory lt le =
      subst (λ (f : ServeFault). EndsLanes holding a b cs xs old new f) (sym (memory refl)) (inr le)

  -- the turns, and then ending the lanes
  module _ (a b c : State R) (ls : List Lane) (cs0 cs : List Ring) (xs : List Sent)
      (fs : List (List Item)) (log0 log1 log2 G : List LogLine)
      (fresh : AllZip IsFresh ls cs0) (t : Takes cs0 cs G) (to : AllZip IsSentTo xs cs)
      (of : AllZip IsSent xs fs) (none : log0 ≡ []) (more : log1 ≡ log0 ++ G)
      (served : Serves holding a b G) (level : b.down ≡ a.down) where
    stops_both : (fault : ServeFault) → IsOneOf (length fs) fault
        → StopsLanes holding b c cs xs log1 log2 → Stops holding a c fs log2 fault
    stops_both fault named st =
        let whole : log2 ≡ G ++ st.lines = log_whole log0 log1 log2 G st.lines none more st.log in
        let d : List LogLine = dropped st.station st.item ∷ [] in
        record {
          station = st.station;
          item = st.item;
          served = subst (λ (L : List LogLine). ServesTo holding a c L st.station st.item)
              (sym whole) (serves_to_then holding a b c G st.lines st.station st.item served
              st.served);
          fronts = subst (λ (L : List LogLine). AreFronts fs L fault)
              (sym (append_assoc G st.lines d) ∙ ap (λ (L : List LogLine). L ++ d) (sym whole))
              (fronts_left ls cs0 cs xs fs G (st.lines ++ d) fault fresh t to of st.stations
              st.front named);
        }

    leaves_both : (fault : ServeFault) → IsOneOf (length fs) fault
        → LeavesLanes holding b c cs xs log1 log2 → Leaves holding a c fs log2 fault
    leaves_both fault named le =
        let whole : log2 ≡ G ++ le.lines = log_whole log0 log1 log2 G le.lines none more le.log in
        record {
          served = subst (λ (L : List LogLine). Serves holding a c L) (sym whole)
              (serves_then holding a b c G le.lines served le.served);
          level = le.level ∙ level;
          fronts = subst (λ (L : List LogLine). AreFronts fs L fault) (sym whole)
              (fronts_left ls cs0 cs xs fs G le.lines fault fresh t to of le.stations le.front
              named);
        }

    pub ends_after : (fault : ServeFault) → EndsLanes holding b c cs xs log1 log2 fault
        → AfterFault holding a c fs log2 fault
    ends_after faults.NoMemory (inl st) = inl (stops_both faults.NoMemory tt st)
    ends_after faults.NoMemory (inr le) = inr (leaves_both faults.NoMemory tt le)
    ends_after faults.Store h = (stops_both faults.Store tt h.0, h.1)
    ends_after (faults.Unfinished s) h = leaves_both (faults.Unfinished s)
        (let e = rings_count ls cs0 cs xs fs to of in let lt = h.1 in omega (arith, e, lt)) h.0
