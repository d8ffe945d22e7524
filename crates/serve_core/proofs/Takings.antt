-- The effect of taking items on the rings.
use Rattle.std.proofs.Common.{◌≡◌, ◌≢◌, ℕ, take, drop, zero, suc, ◌+◌, ◌<◌, ◌≤◌, ◌==◌, Bool, true}
use Rattle.std.proofs.Common.{false, List, [], ◌∷◌, ◌++◌, length, map, Option, Some, refl, ap, ◌∙◌}
use Rattle.std.proofs.Common.{sym, subst, arith, append_assoc, append-nil, get_or}
use Rattle.std.proofs.lemmas.Bool.Decides.{nat_tests}
use Rattle.std.proofs.lemmas.List.{map-append, length-set}
use Rattle.std.proofs.lemmas.List.Elements.{filter-append, All-append, All-nil, All-cons}
use Rattle.std.specs.Prelude.{slice_get, slice_set}
use Rattle.std.specs.List.{AllZip}
use Rattle.rtrb.specs.Ring.{SameConsumer}
use Rattle.serve_core.specs.declared.item.Item.{Item}
use Rattle.serve_core.specs.declared.item.LogLine.{LogLine}
use Rattle.serve_core.specs.declared.lane.LaneEnd.{LaneEnd}
use Rattle.serve_core.specs.Logs.{items_of, Ascends, AreOfStations, IsLineOf}
use Rattle.serve_core.specs.Lanes.{Ring, received_is, received_of, ended_of, received_at, ended_at}
use Rattle.serve_core.specs.Lanes.{end_items, Begins, AreOf, TakesOf, Takes, TakesSome, TakesLeft}
use Rattle.serve_core.specs.Lanes.{TakesFront, IsEndOn, SameEnds}

pub by_bool : {P : Type 0} → (b : Bool) → (b ≡ true → P) → (b ≡ false → P) → P
by_bool true f g = f refl
by_bool false f g = g refl

-- two lists of which each member has its pair
module _ {X Y : Type 0} (R : X → Y → Type 0) where
  pub zip_push : (xs : List X) (ys : List Y) (x : X) (y : Y) → AllZip R xs ys → R x y
      → AllZip R (xs ++ x ∷ []) (ys ++ y ∷ [])
  zip_push [] [] x y all h = (h, tt)
  zip_push [] (b ∷ ys) x y all h = absurd all
  zip_push (a ∷ xs) [] x y all h = absurd all
  zip_push (a ∷ xs) (b ∷ ys) x y all h = (all.0, zip_push xs ys x y all.1 h)

  pub zip_length : (xs : List X) (ys : List Y) → AllZip R xs ys → length xs ≡ length ys
  zip_length [] [] all = refl
  zip_length [] (y ∷ ys) all = absurd all
  zip_length (x ∷ xs) [] all = absurd all
  zip_length (x ∷ xs) (y ∷ ys) all = ap suc (zip_length xs ys all.1)

  pub zip_get : (xs : List X) (ys : List Y) (i : ℕ) (x : X) (y : Y) → AllZip R xs ys → i < length xs
      → x ≡ get_or xs i x → y ≡ get_or ys i y → R x y
  zip_get [] ys i x y all lt p q = absurd (omega arith)
  zip_get (a ∷ xs) [] i x y all lt p q = absurd all
  zip_get (a ∷ xs) (b ∷ ys) zero x y all lt p q = rw (p, q) all.0
  zip_get (a ∷ xs) (b ∷ ys) (suc i) x y all lt p q = zip_get xs ys i x y all.1 (omega arith) p q

  pub zip_set : (xs : List X) (ys : List Y) (i : ℕ) (x : X) (y : Y) → AllZip R xs ys → R x y
      → AllZip R (slice_set xs i x) (slice_set ys i y)
  zip_set [] [] i x y all h = tt
  zip_set [] (b ∷ ys) i x y all h = absurd all
  zip_set (a ∷ xs) [] i x y all h = absurd all
  zip_set (a ∷ xs) (b ∷ ys) zero x y all h = (h, all.1)
  zip_set (a ∷ xs) (b ∷ ys) (suc i) x y all h = (all.0, zip_set xs ys i x y all.1 h)

  -- the right one changes
  pub zip_change : (xs : List X) (ys : List Y) (i : ℕ) (y z : Y) → AllZip R xs ys
      → y ≡ get_or ys i y → ((x : X) → R x y → R x z) → AllZip R xs (slice_set ys i z)
  zip_change [] [] i y z all at h = tt
  zip_change [] (b ∷ ys) i y z all at h = absurd all
  zip_change (a ∷ xs) [] i y z all at h = absurd all
  zip_change (a ∷ xs) (b ∷ ys) zero y z all at h =
      (h a (subst (λ (b : Y). R a b) (sym at) all.0), all.1)
  zip_change (a ∷ xs) (b ∷ ys) (suc i) y z all at h = (all.0, zip_change xs ys i y z all.1 at h)

pub same_rings : (cs : List Ring) → AllZip SameConsumer cs cs
same_rings [] = tt
same_rings (c ∷ cs) = (((refl, refl, refl, refl), refl), same_rings cs)

pub ring_trans : (x y z : Ring) → SameConsumer x y → SameConsumer y z → SameConsumer x z
ring_trans x y z p q = ((q.0.0 ∙ p.0.0, q.0.1 ∙ p.0.1, q.0.2 ∙ p.0.2, q.0.3 ∙ p.0.3), q.1 ∙ p.1)

pub items_of-append : (s : ℕ) (G H : List LogLine)
    → items_of s (G ++ H) ≡ items_of s G ++ items_of s H
items_of-append s G H = ap (map (λ (l : LogLine). l.item))
    (filter-append (λ (l : LogLine). l.station == s) G H) ∙ map-append (λ (l : LogLine). l.item) _ _

-- lines of another station
pub items_of_other : (t s : ℕ) (G : List LogLine) → t ≢ s → AreOf s G → items_of t G ≡ []
items_of_other t s [] ne of = refl
items_of_other t s (l ∷ G) ne of =
    let e : (l.station == t) ≡ false = let f = of.0 in
    by_bool (l.station == t) (λ h. let g : l.station ≡ t = grind (arith, nat_tests) in absurd
    (ne (sym g ∙ f))) (λ h. h) in
    rw e (items_of_other t s G ne of.1)

pub item_of_line : (s : ℕ) (l : LogLine) → l.station ≡ s → items_of s (l ∷ []) ≡ l.item ∷ []
item_of_line s l is = let e : (l.station == s) ≡ true = grind (arith, nat_tests) in rw e refl

-- Member i changes. `read` is `f` of a member that exists.
module _ {X : Type 0} (f : X → List Item) (read : Option X → List Item) (is : (x : X)
    → read (Some x) ≡ f x) where
  pub read_here : (xs : List X) (i : ℕ) (x : X) → i < length xs → x ≡ get_or xs i x
      → read (slice_get xs i) ≡ f x
  read_here [] i x lt at = absurd (omega arith)
  read_here (a ∷ xs) zero x lt at = is a ∙ ap f (sym at)
  read_here (a ∷ xs) (suc i) x lt at = read_here xs i x (omega arith) at

  pub read_set : (xs : List X) (i : ℕ) (x : X) → i < length xs
      → read (slice_get (slice_set xs i x) i) ≡ f x
  read_set [] i x lt = absurd (omega arith)
  read_set (a ∷ xs) zero x lt = is x
  read_set (a ∷ xs) (suc i) x lt = read_set xs i x (omega arith)

  pub read_other : (xs : List X) (i s : ℕ) (x : X) → s ≢ i
      → read (slice_get (slice_set xs i x) s) ≡ read (slice_get xs s)
  read_other [] i s x ne = refl
  read_other (a ∷ xs) zero zero x ne = absurd (ne refl)
  read_other (a ∷ xs) zero (suc s) x ne = refl
  read_other (a ∷ xs) (suc i) zero x ne = refl
  read_other (a ∷ xs) (suc i) (suc s) x ne = read_other xs i s x (λ e. ne (ap suc e))

pub received_here : (cs : List Ring) (i : ℕ) (c : Ring) → i < length cs → c ≡ get_or cs i c
    → received_at cs i ≡ received_is c
received_here = read_here received_is received_of (λ x. refl)

pub received_set : (cs : List Ring) (i : ℕ) (c : Ring) → i < length cs
    → received_at (slice_set cs i c) i ≡ received_is c
received_set = read_set received_is received_of (λ x. refl)

pub received_other : (cs : List Ring) (i s : ℕ) (c : Ring) → s ≢ i
    → received_at (slice_set cs i c) s ≡ received_at cs s
received_other = read_other received_is received_of (λ x. refl)

pub ended_here : (es : List LaneEnd) (i : ℕ) (e : LaneEnd) → i < length es → e ≡ get_or es i e
    → ended_at es i ≡ end_items e
ended_here = read_here end_items ended_of (λ x. refl)

-- a ring's lines, after the earlier ones
taken_here : (bs cs : List Ring) (G H : List LogLine) (i : ℕ) (c d : Ring) (rest : List Item)
    → received_at cs i ≡ received_at bs i ++ items_of i G → i < length cs → c ≡ get_or cs i c
    → received_is d ≡ (received_is c ++ items_of i H) ++ rest
    → received_at (slice_set cs i d) i ≡ (received_at bs i ++ items_of i (G ++ H)) ++ rest
taken_here bs cs G H i c d rest before lt at taken =
    received_set cs i d lt
    ∙ (taken
    ∙ ap (λ (xs : List Item). (xs ++ items_of i H) ++ rest)
    (sym (received_here cs i c lt at) ∙ before)
    ∙ ap (λ (xs : List Item). xs ++ rest)
    (append_assoc (received_at bs i) (items_of i G) (items_of i H)
    ∙ ap (λ (xs : List Item). received_at bs i ++ xs) (sym (items_of-append i G H))))

taken_other : (bs cs : List Ring) (G H : List LogLine) (i s : ℕ) (d : Ring)
    → received_at cs s ≡ received_at bs s ++ items_of s G → s ≢ i → AreOf i H
    → received_at (slice_set cs i d) s ≡ received_at bs s ++ items_of s (G ++ H)
taken_other bs cs G H i s d before ne of =
    received_other cs i s d ne
    ∙ (before ∙ ap (λ (xs : List Item). received_at bs s ++ xs)
    (sym (items_of-append s G H ∙ ap (λ (xs : List Item). items_of s G ++ xs)
    (items_of_other s i H ne of) ∙ append-nil (items_of s G))))

are_of_stations : (count s : ℕ) (G : List LogLine) → s < count → AreOf s G → AreOfStations count G
are_of_stations count s [] lt of = All-nil (λ l. l.station < count)
are_of_stations count s (l ∷ G) lt of =
    All-cons (λ l. l.station < count) l G (let e = of.0 in omega (arith, e))
    (are_of_stations count s G lt of.1)

-- items were taken from one more ring
takes_stations : (bs cs : List Ring) (G H : List LogLine) (i : ℕ) → Takes bs cs G → i < length cs
    → AreOf i H → AreOfStations (length bs) (G ++ H)
takes_stations bs cs G H i t lt of =
    All-append (λ l. l.station < length bs) G H t.stations
    (are_of_stations (length bs) i H
    (let e = zip_length SameConsumer bs cs t.rings in omega (arith, e)) of)

takes_then_some : (bs cs : List Ring) (G H : List LogLine) (i : ℕ) (c d : Ring) → Takes bs cs G
    → i < length cs → c ≡ get_or cs i c → SameConsumer c d → AreOf i H
    → Begins (received_is c ++ items_of i H) (received_is d)
    → TakesSome bs (slice_set cs i d) (G ++ H)
takes_then_some bs cs G H i c d t lt at ring of taken = record {
  rings = zip_change SameConsumer bs cs i c d t.rings at (λ x p. ring_trans x c d p ring);
  stations = takes_stations bs cs G H i t lt of;
  taken = λ s. by_bool (s == i)
      (λ e. let is : i ≡ s = grind (arith, nat_tests) in
      subst (λ (k : ℕ). Begins (received_at bs k ++ items_of k (G ++ H))
      (received_at (slice_set cs i d) k)) is
      (taken.0, taken_here bs cs G H i c d taken.0 (t.taken i) lt at taken.1))
      (λ f. let ne : s ≢ i = grind (arith, nat_tests) in
      ([], taken_other bs cs G H i s d (t.taken s) ne of ∙ sym (append-nil _)));
}

pub takes_then : (bs cs : List Ring) (G H : List LogLine) (i : ℕ) (c d : Ring) → Takes bs cs G
    → i < length cs → c ≡ get_or cs i c → TakesOf i c d H → Takes bs (slice_set cs i d) (G ++ H)
takes_then bs cs G H i c d t lt at h = record {
  rings = zip_change SameConsumer bs cs i c d t.rings at (λ x p. ring_trans x c d p h.ring);
  stations = takes_stations bs cs G H i t lt h.of;
  taken = λ s. by_bool (s == i)
      (λ e. let is : i ≡ s = grind (arith, nat_tests) in
      subst (λ (k : ℕ). received_at (slice_set cs i d) k ≡ received_at bs k ++ items_of k (G ++ H))
      is (taken_here bs cs G H i c d [] (t.taken i) lt at (h.taken ∙ sym (append-nil _))
      ∙ append-nil _))
      (λ f. let ne : s ≢ i = grind (arith, nat_tests) in
      taken_other bs cs G H i s d (t.taken s) ne h.of);
}

pub takes_none : (cs : List Ring) → Takes cs cs []
takes_none cs = record {
  rings = same_rings cs;
  stations = All-nil (λ l. l.station < length cs);
  taken = λ s. sym (append-nil (received_at cs s));
}

pub takes_is_some : (bs cs : List Ring) (G : List LogLine) → Takes bs cs G → TakesSome bs cs G
takes_is_some bs cs G t = record {
  rings = t.rings;
  stations = t.stations;
  taken = λ s. ([], t.taken s ∙ sym (append-nil _));
}

-- lines, and then more
pub lines_then : (xs ys zs G H : List LogLine) → ys ≡ xs ++ G → zs ≡ ys ++ H → zs ≡ xs ++ (G ++ H)
lines_then xs ys zs G H p q = q ∙ (ap (λ (ls : List LogLine). ls ++ H) p ∙ append_assoc xs G H)

-- one turn
pub ascends_wider : (low k high : ℕ) (G : List LogLine) → Ascends low k G → k ≤ high
    → Ascends low high G
ascends_wider low k high [] a h = tt
ascends_wider low k high (l ∷ G) a h =
    (a.0, (let e = a.1 in omega (arith, e)), ascends_wider (l.station + 1) k high G a.2 h)

pub ascends_more : (low k : ℕ) (G H : List LogLine) → Ascends low k G → AreOf k H → length H ≤ 1
    → low ≤ k → Ascends low (k + 1) (G ++ H)
ascends_more low k [] [] a of h le = tt
ascends_more low k [] (m ∷ []) a of h le =
    ((let e = of.0 in omega (arith, e)), (let e = of.0 in omega (arith, e)), tt)
ascends_more low k [] (m ∷ x ∷ xs) a of h le = absurd (omega arith)
ascends_more low k (l ∷ G) H a of h le = (
  a.0,
  (let e = a.1 in omega (arith, e)),
  ascends_more (l.station + 1) k G H a.2 of h (let e = a.1 in omega (arith, e)),
)

-- the ends and the rings after a look at lane i
module _ {X : Type 0} (f : X → List Item) (read : Option X → List Item) (is : (x : X)
    → read (Some x) ≡ f x) where
  pub read_kept : (xs : List X) (i s : ℕ) (x y : X) → i < length xs → x ≡ get_or xs i x → f y ≡ f x
      → read (slice_get (slice_set xs i y) s) ≡ read (slice_get xs s)
  read_kept xs i s x y lt at same =
      by_bool (s == i)
      (λ e. let e' : i ≡ s = grind (arith, nat_tests) in
      subst (λ (k : ℕ). read (slice_get (slice_set xs i y) k) ≡ read (slice_get xs k)) e'
      (read_set f read is xs i y lt ∙ (same ∙ sym (read_here f read is xs i x lt at))))
      (λ n. let ne : s ≢ i = grind (arith, nat_tests) in read_other f read is xs i s y ne)

pub received_kept : (cs : List Ring) (i s : ℕ) (c d : Ring) → i < length cs → c ≡ get_or cs i c
    → received_is d ≡ received_is c → received_at (slice_set cs i d) s ≡ received_at cs s
received_kept = read_kept received_is received_of (λ x. refl)

pub ended_kept : (es : List LaneEnd) (i s : ℕ) (e d : LaneEnd) → i < length es → e ≡ get_or es i e
    → end_items d ≡ end_items e → ended_at (slice_set es i d) s ≡ ended_at es s
ended_kept = read_kept end_items ended_of (λ x. refl)

pub ends_set : (es0 es : List LaneEnd) (i : ℕ) (e d : LaneEnd) → SameEnds es0 es → i < length es
    → e ≡ get_or es i e → end_items d ≡ end_items e → SameEnds es0 (slice_set es i d)
ends_set es0 es i e d same lt at is =
    (length-set es i d ∙ same.0, λ s. ended_kept es i s e d lt at is ∙ same.1 s)

pub by_step : (P : ℕ → Type 0) (i : ℕ) → ((s : ℕ) → s < i → P s) → P i → (s : ℕ) → s < i + 1 → P s
by_step P i before here s lt = by_bool (s == i)
    (λ e. let is : i ≡ s = grind (arith, nat_tests) in subst P is here)
    (λ n. let ne : s < i = grind (arith, nat_tests) in before s ne)

pub front_at : (cs0 cs : List Ring) (es0 es : List LaneEnd) (i : ℕ) (c : Ring) (e : LaneEnd)
    → received_at cs i ≡ received_at cs0 i → ended_at es i ≡ ended_at es0 i
    → i < length cs → i < length es → c ≡ get_or cs i c → e ≡ get_or es i e
    → Begins (received_is c) (end_items e) → Begins (received_at cs0 i) (ended_at es0 i)
front_at cs0 cs es0 es i c e p q lc le ac ae b = (
  b.0,
  sym q ∙ (ended_here es i e le ae
      ∙ (b.1 ∙ ap (λ (xs : List Item). xs ++ b.0) (sym (received_here cs i c lc ac) ∙ p))),
)

pub drained_at : (cs : List Ring) (es0 es : List LaneEnd) (i : ℕ) (d : Ring) (e : LaneEnd)
    → ended_at es i ≡ ended_at es0 i → i < length cs → i < length es → e ≡ get_or es i e
    → received_is d ≡ end_items e → received_at (slice_set cs i d) i ≡ ended_at es0 i
drained_at cs es0 es i d e q lc le ae whole =
    received_set cs i d lc ∙ (whole ∙ (sym (ended_here es i e le ae) ∙ q))

pub received_before : (cs : List Ring) (i s : ℕ) (d : Ring) → s < i
    → received_at (slice_set cs i d) s ≡ received_at cs s
received_before cs i s d lt = received_other cs i s d (λ e. absurd (omega arith))

pub still_end : (e : LaneEnd) (c d : Ring) → IsEndOn e c → SameConsumer c d → IsEndOn e d
still_end e c d p q = (q.0.0 ∙ p.0, q.0.1 ∙ p.1, q.0.2 ∙ p.2, q.0.3 ∙ p.3)

are_of_push : (s : ℕ) (G : List LogLine) (l : LogLine) → AreOf s G → l.station ≡ s
    → AreOf s (G ++ l ∷ [])
are_of_push s [] l of is = (is, tt)
are_of_push s (m ∷ G) l of is = (of.0, are_of_push s G l of.1 is)

-- one more item from a ring
pub takes_push : (s : ℕ) (b c d : Ring) (G : List LogLine) (l : LogLine) (x : Item)
    → TakesOf s b c G → SameConsumer c d → received_is d ≡ received_is c ++ x ∷ [] → IsLineOf s x l
    → TakesOf s b d (G ++ l ∷ [])
takes_push s b c d G l x t ring got line = record {
  ring = ring_trans b c d t.ring ring;
  of = are_of_push s G l t.of line.0;
  taken = got
      ∙ (ap (λ (xs : List Item). xs ++ x ∷ []) t.taken
      ∙ (append_assoc (received_is b) (items_of s G) (x ∷ [])
      ∙ ap (λ (xs : List Item). received_is b ++ xs)
      (sym (items_of-append s G (l ∷ []) ∙ ap (λ (xs : List Item). items_of s G ++ xs)
      (item_of_line s l line.0 ∙ ap (λ (y : Item). y ∷ []) line.1)))));
}

pub moved : (r r' k k' all : List Item) (x : Item) → r ++ k ≡ all → r' ≡ r ++ x ∷ [] → k ≡ x ∷ k'
    → r' ++ k' ≡ all
moved r r' k k' all x p q h = ap (λ (xs : List Item). xs ++ k') q
    ∙ (append_assoc r (x ∷ []) k' ∙ (ap (λ (xs : List Item). r ++ xs) (sym h) ∙ p))

-- the items taken are the first of those sent, so those in the lines are too
pub front_of_lines : (cs0 cs : List Ring) (es : List LaneEnd) (G : List LogLine)
    → TakesSome cs0 cs G → ((s : ℕ) → s < length cs → Begins (received_at cs s) (ended_at es s))
    → TakesFront cs0 es G
front_of_lines cs0 cs es G t b s lt =
    let e = zip_length SameConsumer cs0 cs t.rings in
    let lt' : s < length cs = omega (arith, e) in (
      (t.taken s).0 ++ (b s lt').0,
      (b s lt').1 ∙ (ap (λ (xs : List Item). xs ++ (b s lt').0) (t.taken s).1 ∙ append_assoc
          (received_at cs0 s ++ items_of s G) (t.taken s).0 (b s lt').0),
    )

pub front_of_left : (cs : List Ring) (es : List LaneEnd) (G : List LogLine) → TakesLeft cs es G
    → TakesFront cs es G
front_of_left cs es G t s lt = ([], sym (append-nil _ ∙ t s lt))

-- a fault, and then a look at each end
pub front_after : (arg cs0 cs : List Ring) (es0 es : List LaneEnd) (G : List LogLine) (n : ℕ)
    → cs0 ≡ arg → TakesSome cs0 cs G → SameEnds es0 es → n ≡ length cs
    → ((s : ℕ) → s < n → Begins (received_at cs s) (ended_at es s)) → TakesFront arg es0 G
front_after arg cs0 cs es0 es G n same t ends len b =
    subst (λ (xs : List Ring). TakesFront xs es0 G) same
    (front_of_lines cs0 cs es0 G t
    (λ s lt. let k : s < n = omega (arith, len) in ((b s k).0, sym (ends.1 s) ∙ (b s k).1)))

pub some_then_none : (a b c : List Ring) (G : List LogLine) → TakesSome a b G → TakesSome b c []
    → TakesSome a c G
some_then_none a b c G p q = record {
  rings = rings_trans a b c p.rings q.rings;
  stations = p.stations;
  taken = λ s. (
    (p.taken s).0 ++ (q.taken s).0,
    (q.taken s).1 ∙ (ap (λ (xs : List Item). xs ++ (q.taken s).0)
        (append-nil (received_at b s) ∙ (p.taken s).1)
        ∙ append_assoc (received_at a s ++ items_of s G) (p.taken s).0 (q.taken s).0),
  );
}
  where
    rings_trans : (xs ys zs : List Ring) → AllZip SameConsumer xs ys → AllZip SameConsumer ys zs
        → AllZip SameConsumer xs zs
    rings_trans [] [] zs p q = q
    rings_trans [] (y ∷ ys) zs p q = absurd p
    rings_trans (x ∷ xs) [] zs p q = absurd p
    rings_trans (x ∷ xs) (y ∷ ys) [] p q = absurd q
    rings_trans (x ∷ xs) (y ∷ ys) (z ∷ zs) p q =
        (ring_trans x y z p.0 q.0, rings_trans xs ys zs p.1 q.1)

pub rings_after : (xs ys zs : List Ring) → AllZip SameConsumer xs ys → AllZip SameConsumer ys zs
    → AllZip SameConsumer xs zs
rings_after [] [] zs p q = q
rings_after [] (y ∷ ys) zs p q = absurd p
rings_after (x ∷ xs) [] zs p q = absurd p
rings_after (x ∷ xs) (y ∷ ys) [] p q = absurd q
rings_after (x ∷ xs) (y ∷ ys) (z ∷ zs) p q =
    (ring_trans x y z p.0 q.0, rings_after xs ys zs p.1 q.1)

stations_after : (a b : List Ring) (G H : List LogLine) → length a ≡ length b
    → AreOfStations (length a) G → AreOfStations (length b) H → AreOfStations (length a) (G ++ H)
stations_after a b G H e p q =
    All-append (λ l. l.station < length a) G H p (subst (λ (n : ℕ). AreOfStations n H) (sym e) q)

-- one turn after the others
pub takes_after : (a b c : List Ring) (G H : List LogLine) → Takes a b G → Takes b c H
    → Takes a c (G ++ H)
takes_after a b c G H p q = record {
  rings = rings_after a b c p.rings q.rings;
  stations = stations_after a b G H (zip_length SameConsumer a b p.rings) p.stations q.stations;
  taken = λ s. q.taken s ∙ (ap (λ (xs : List Item). xs ++ items_of s H) (p.taken s)
      ∙ (append_assoc (received_at a s) (items_of s G) (items_of s H)
      ∙ ap (λ (xs : List Item). received_at a s ++ xs) (sym (items_of-append s G H))));
}

pub takes_joined : (a b : List Ring) (G H D : List LogLine) → Takes a b (G ++ (H ++ D))
    → Takes a b ((G ++ H) ++ D)
takes_joined a b G H D t = subst (λ (L : List LogLine). Takes a b L) (sym (append_assoc G H D)) t

pub dropped_at : (bs cs : List Ring) (i : ℕ) (c d : Ring) → TakesSome bs cs [] → i < length cs
    → c ≡ get_or cs i c → SameConsumer c d → Begins (received_is c) (received_is d)
    → TakesSome bs (slice_set cs i d) []
dropped_at bs cs i c d t lt at ring b =
    some_then_none bs cs (slice_set cs i d) [] t
    (takes_then_some cs cs [] [] i c d (takes_none cs) lt at ring tt
    (b.0, b.1 ∙ ap (λ (xs : List Item). xs ++ b.0) (sym (append-nil (received_is c)))))

-- threads joined one after another
module _ {X Y : Type 0} (R : X → Y → Type 0) where
  pub joined_then : (xs : List X) (ys : List Y) (x : X) (y : Y) → AllZip R (take (length ys) xs) ys
      → x ≡ get_or (drop (length ys) xs) 0 x → 0 < length (drop (length ys) xs) → R x y
      → AllZip R (take (suc (length ys)) xs) (ys ++ y ∷ [])
  joined_then [] [] x y all at lt h = absurd (omega arith)
  joined_then (a ∷ xs) [] x y all at lt h = (subst (λ (b : X). R b y) at h, tt)
  joined_then [] (z ∷ ys) x y all at lt h = absurd all
  joined_then (a ∷ xs) (z ∷ ys) x y all at lt h = (all.0, joined_then xs ys x y all.1 at lt h)

  pub left_then : (xs : List X) (ys : List Y)
      → drop 1 (drop (length ys) xs) ≡ drop (suc (length ys)) xs
  left_then [] [] = refl
  left_then (a ∷ xs) [] = refl
  left_then [] (z ∷ ys) = refl
  left_then (a ∷ xs) (z ∷ ys) = left_then xs ys

pub takes_one : (s : ℕ) (b d : Ring) (l : LogLine) (x : Item) → SameConsumer b d
    → received_is d ≡ received_is b ++ x ∷ [] → IsLineOf s x l → TakesOf s b d (l ∷ [])
takes_one s b d l x ring got line =
    takes_push s b b d [] l x (record {
      ring = ((refl, refl, refl, refl), refl);
      of = tt;
      taken = sym (append-nil (received_is b));
    }) ring got line

pub length_push : {X : Type 0} (xs : List X) (x : X) → length (xs ++ x ∷ []) ≡ suc (length xs)
length_push [] x = refl
length_push (y ∷ xs) x = ap suc (length_push xs x)
