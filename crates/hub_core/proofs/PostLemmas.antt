-- The posting of due messages.
use Rattle.std.proofs.Common.{◌≡◌, ◌≢◌, ℕ, suc, ◌+◌, ◌-◌, ◌<◌, ◌≤◌, ◌==◌, ◌||◌, inl, inr, Bool}
use Rattle.std.proofs.Common.{true, false, List, [], ◌∷◌, length, Some, None, refl, ap, ◌∙◌, sym}
use Rattle.std.proofs.Common.{subst, arith, length-set, if◌then◌else◌}
use Rattle.std.specs.Prelude.{fold, slice_set}
use Rattle.std.proofs.Math.Bool.{or-false}
use Rattle.std.proofs.lemmas.List.Sums.{fold-append}
use Rattle.std.proofs.lemmas.Bool.{cases_eq, ne_eqb}
use Rattle.std.proofs.lemmas.Bool.Decides.{nat_tests}
use Rattle.std.proofs.lemmas.Option.{none-some}
use Rattle.nest_core.specs.Museum.{Museum}
use Rattle.posting_core.specs.declared.message.Message.{Message}
use Rattle.posting_core.specs.declared.entry.Entry.{Entry}
use Rattle.posting_core.specs.declared.verdict.Verdict.{Verdict}
use Rattle.posting_core.specs.Messages.{is_sign_off}
use Rattle.posting_core.specs.Verdicts.{verdict}
use Rattle.posting_core.specs.Book.{Book}
use Rattle.posting_core.specs.Lawful.{count_at, is_signed_off, Follows}
use Rattle.station_core.specs.declared.TheConstants.{LAST}
use Rattle.std.specs.Prelude.{slice_get, unwrap_or, is_some, nat_lt, nat_le}
use Rattle.station_core.specs.declared.Refusal.TheVariants.{BadNumber, Double, SignedOff, TooEarly}
use Rattle.station_core.specs.Series.{Series, series, series_at, counted, closed, refusal_of}
use Rattle.station_core.specs.Series.{refusal_in, held_at, window}
use Rattle.station_core.specs.Runs.{Arrived, arrived, message_at, ready, due}
use Rattle.station_core.specs.Progress.{IsPosting, IsEnding, AllMatch, ComesDue}
use Rattle.station_core.proofs.RunLemmas.{due_next}
use Rattle.station_core.proofs.StationLemmas.{series_at_set_same, series_at_set_other}
use Rattle.hub_core.specs.Points.{entry_of, post}
use Rattle.hub_core.specs.StandsFor.{InStep, Done}

-- The progress of posting the due messages of station s: k of its messages were posted before.
pub record Caught (S : Museum) (depth : ℕ) (taken : List (Arrived Message)) (s k : ℕ)
    (before : List Entry) (sequences : List (Series Message)) (now : List Entry) : Type 0 where
  pub posting : IsPosting is_sign_off taken s sequences
  pub forward : k ≤ (series_at sequences s).posted
  pub list : now ≡ fold (post S depth) before (due taken s k ((series_at sequences s).posted - k))

posted_next : (S : Museum) (depth : ℕ) (taken : List (Arrived Message)) (s k j n : ℕ)
    (before now : List Entry) (m : Message) → k ≤ j → n ≡ j + 1 → message_at taken s n ≡ Some m
    → now ≡ fold (post S depth) before (due taken s k (j - k))
    → post S depth now (arrived s n m) ≡ fold (post S depth) before (due taken s k (n - k))
posted_next S depth taken s k j n before now m le e at list =
    let q : n ≡ suc j = omega arith in
    let at' : message_at taken s (suc j) ≡ Some m = ap (message_at taken s) (sym q) ∙ at in
    rw (q, due_next taken s k j m le at', fold-append, ← list) refl

pub caught_next : (S : Museum) (depth : ℕ) (taken : List (Arrived Message)) (s k n : ℕ)
    (before now now' : List Entry) (all all' : List (Series Message)) (m : Message)
    → Caught S depth taken s k before all now → n ≡ (series_at all s).posted + 1
    → ComesDue is_sign_off taken s n m all' → is_sign_off m ≡ false
    → all' ≡ slice_set all s (counted (series_at all s))
    → now' ≡ post S depth now (arrived s n m)
    → Caught S depth taken s k before all' now'
caught_next S depth taken s k n before now now' all all' m c e d off step list =
    let p : (series_at all' s).posted ≡ n =
    ap (λ (x : List (Series Message)). (series_at x s).posted) step
    ∙ (ap (λ (x : Series Message). x.posted)
    (series_at_set_same all s (counted (series_at all s)) c.posting.within) ∙ sym e) in
    record {
      posting = d.goes_on off;
      forward = omega (arith, c.forward);
      list = rw p (list ∙ posted_next S depth taken s k (series_at all s).posted n before now m
          c.forward e d.message c.list);
    }

pub done_stop : (S : Museum) (depth : ℕ) (taken : List (Arrived Message)) (s k : ℕ)
    (before now : List Entry) (all all' : List (Series Message))
    → Caught S depth taken s k before all now → AllMatch is_sign_off taken all' → all' ≡ all
    → Done S depth taken s k before all' now
done_stop S depth taken s k before now all all' c every e =
    let q : (series_at all' s).posted ≡ (series_at all s).posted =
    ap (λ (x : List (Series Message)). (series_at x s).posted) e in
    let len : length all' ≡ length all = ap length e in
    let r : (series_at all s).posted ≡ ready is_sign_off taken s =
    sym q ∙ (every.each s (omega (arith, c.posting.within))).count in
    record { matches = every; list = rw (← r) c.list }

pub done_sign : (S : Museum) (depth : ℕ) (taken : List (Arrived Message)) (s k n : ℕ)
    (before now now' : List Entry) (all mid all' : List (Series Message)) (m : Message)
    → Caught S depth taken s k before all now → n ≡ (series_at all s).posted + 1
    → ComesDue is_sign_off taken s n m mid
    → (IsEnding is_sign_off taken s mid → AllMatch is_sign_off taken all')
    → is_sign_off m ≡ true
    → mid ≡ slice_set all s (counted (series_at all s))
    → all' ≡ slice_set mid s (closed (series_at mid s))
    → now' ≡ post S depth now (arrived s n m)
    → Done S depth taken s k before all' now'
done_sign S depth taken s k n before now now' all mid all' m c e d close on step off list =
    let every : AllMatch is_sign_off taken all' = close (d.ends on) in
    let within : s < length mid =
    rw step (omega (arith, c.posting.within, length-set {A = Series Message})) in
    let within' : s < length all' =
    rw off (omega (arith, within, length-set {A = Series Message})) in
    let p : (series_at mid s).posted ≡ n =
    ap (λ (x : List (Series Message)). (series_at x s).posted) step
    ∙ (ap (λ (x : Series Message). x.posted)
    (series_at_set_same all s (counted (series_at all s)) c.posting.within) ∙ sym e) in
    let p' : (series_at all' s).posted ≡ n =
    ap (λ (x : List (Series Message)). (series_at x s).posted) off
    ∙ (ap (λ (x : Series Message). x.posted)
    (series_at_set_same mid s (closed (series_at mid s)) within) ∙ p) in
    let r : n ≡ ready is_sign_off taken s = sym p' ∙ (every.each s within').count in
    record {
      matches = every;
      list = rw (← r) (list ∙ posted_next S depth taken s k (series_at all s).posted n before now m
          c.forward e d.message c.list);
    }

-- the next message of a station in step may follow the posted list
pub next_follows : (S : Museum) (depth : ℕ) (P : List Entry) (all : List (Series Message)) (s n : ℕ)
    (m : Message) (v : Verdict) → InStep all S P → s < length all
    → (series_at all s).signed ≡ false →
    n ≡ (series_at all s).posted + 1 → n ≤ LAST → v ≡ verdict S depth P m
    → Follows S depth P (record { station = s; n = n; message = m; verdict = v })
next_follows S depth P all s n m v step within unsigned next few judged = record {
  known = omega (arith, step.stations);
  next = omega (arith, step.count s within);
  few = few;
  unsigned = sym (step.sign s within) ∙ unsigned;
  judged = judged;
}

-- counts and marks after one more entry
pub count_same : (s : ℕ) (e : Entry) (P : List Entry) → e.station ≡ s
    → count_at s (e ∷ P) ≡ count_at s P + 1
count_same s e P h = let here : (e.station == s) ≡ true = grind (arith, nat_tests) in
    rw here (omega arith)

pub count_other : (s : ℕ) (e : Entry) (P : List Entry) → e.station ≢ s
    → count_at s (e ∷ P) ≡ count_at s P
count_other s e P h = let there : (e.station == s) ≡ false = ne_eqb e.station s h in
    rw there (omega arith)

pub signed_same : (s : ℕ) (e : Entry) (P : List Entry) (b : Bool) → e.station ≡ s
    → is_sign_off e.message ≡ b → is_signed_off s P ≡ false → is_signed_off s (e ∷ P) ≡ b
signed_same s e P b h sign off = let here : (e.station == s) ≡ true = grind (arith, nat_tests) in
    rw (here, sign, off) (or-false b)

pub signed_other : (s : ℕ) (e : Entry) (P : List Entry) → e.station ≢ s
    → is_signed_off s (e ∷ P) ≡ is_signed_off s P
signed_other s e P h = let there : (e.station == s) ≡ false = ne_eqb e.station s h in rw there refl

-- one station's series is this one, and the others are as before
pub record IsWritten (all all' : List (Series Message)) (s : ℕ) (q : Series Message) : Type 0 where
  pub same_length : length all' ≡ length all
  pub here : series_at all' s ≡ q
  pub others : (t : ℕ) → t ≢ s → series_at all' t ≡ series_at all t

pub written : (all all' : List (Series Message)) (s : ℕ) (q : Series Message) → s < length all
    → all' ≡ slice_set all s q → IsWritten all all' s q
written all all' s q within set = record {
  same_length = ap length set ∙ length-set all s q;
  here = ap (λ (x : List (Series Message)). series_at x s) set ∙ series_at_set_same all s q within;
  others = λ t n. ap (λ (x : List (Series Message)). series_at x t) set ∙ series_at_set_other
      all s t q n;
}

pub written_again : (all mid all' : List (Series Message)) (s : ℕ) (q q' : Series Message)
    → IsWritten all mid s q → IsWritten mid all' s q' → IsWritten all all' s q'
written_again all mid all' s q q' first second = record {
  same_length = second.same_length ∙ first.same_length;
  here = second.here;
  others = λ t n. second.others t n ∙ first.others t n;
}

-- the stations stay in step when an entry with the next number is posted
pub step_written : (S : Museum) (P : List Entry) (all all' : List (Series Message))
    (q : Series Message) (e : Entry) → InStep all S P → e.station < length all
    → IsWritten all all' e.station q →
    q.posted ≡ (series_at all e.station).posted + 1 → q.signed ≡ is_sign_off e.message
    → (series_at all e.station).signed ≡ false → InStep all' S (e ∷ P)
step_written S P all all' q e step within is posted sign unsigned =
    let s = e.station in
    record {
      stations = is.same_length ∙ step.stations;
      count = λ t less. elim (cases_eq s t) [
        | inl same ↦ subst (λ (u : ℕ). (series_at all' u).posted ≡ count_at u (e ∷ P)) same
            (ap (λ (x : Series Message). x.posted) is.here ∙ posted ∙ ap (λ n. n + 1)
            (step.count s within) ∙ sym (count_same s e P refl))
        | inr other ↦ ap (λ (x : Series Message). x.posted) (is.others t (λ h. other (sym h)))
            ∙ step.count t (subst (λ n. t < n) is.same_length less) ∙ sym (count_other t e P other)
      ];
      sign = λ t less. elim (cases_eq s t) [
        | inl same ↦ subst (λ (u : ℕ). (series_at all' u).signed ≡ is_signed_off u (e ∷ P)) same
            (ap (λ (x : Series Message). x.signed) is.here ∙ sign
            ∙ sym (signed_same s e P (is_sign_off e.message) refl refl
            (sym (step.sign s within) ∙ unsigned)))
        | inr other ↦ ap (λ (x : Series Message). x.signed) (is.others t (λ h. other (sym h)))
            ∙ step.sign t (subst (λ n. t < n) is.same_length less) ∙ sym (signed_other t e P other)
      ];
    }

-- the ledger has one more entry: that of a station's next message, with its verdict
abbrev pub IsPosted : Book → Book → Arrived Message → Type 0
IsPosted L L' r = L' ≡ record L { posted = post L.museum L.depth L.posted r }

pub posted_list : (L L' : Book) (S : Museum) (depth : ℕ) (r : Arrived Message) → IsPosted L L' r
    → L.museum ≡ S → L.depth ≡ depth → L'.posted ≡ post S depth L.posted r
posted_list L L' S depth r is museum limit =
    ap (λ (b : Book). b.posted) is
    ∙ (ap (λ (S' : Museum). post S' L.depth L.posted r) museum
    ∙ ap (λ d. post S d L.posted r) limit)

pub posted_longer : (L L' : Book) (r : Arrived Message) (n : ℕ) → IsPosted L L' r
    → n ≤ length L.posted → n ≤ length L'.posted
posted_longer L L' r n is less =
    subst (λ (b : Book). n ≤ length b.posted) (sym is) (omega (arith, less))

pub posted_step : (L L' : Book) (r : Arrived Message) (all all' : List (Series Message))
    (q : Series Message) → IsPosted L L' r → InStep all L.museum L.posted → r.station < length all
    → IsWritten all all' r.station q →
    q.posted ≡ (series_at all r.station).posted + 1 → q.signed ≡ is_sign_off r.message
    → (series_at all r.station).signed ≡ false → InStep all' L'.museum L'.posted
posted_step L L' r all all' q is step within written posted sign unsigned =
    subst (λ (b : Book). InStep all' b.museum b.posted) (sym is)
    (step_written L.museum L.posted all all' q (entry_of L.museum L.depth L.posted r) step within
    written posted sign unsigned)

-- and when a message is held
pub step_held : (S : Museum) (P : List Entry) (all all' : List (Series Message)) (s : ℕ)
    (q : Series Message) → InStep all S P → s < length all → IsWritten all all' s q →
    q.posted ≡ (series_at all s).posted → q.signed ≡ (series_at all s).signed → InStep all' S P
step_held S P all all' s q step within is posted sign = record {
  stations = is.same_length ∙ step.stations;
  count = λ t less. elim (cases_eq s t) [
    | inl same ↦ subst (λ (u : ℕ). (series_at all' u).posted ≡ count_at u P) same
        (ap (λ (x : Series Message). x.posted) is.here ∙ posted ∙ step.count s within)
    | inr other ↦ ap (λ (x : Series Message). x.posted) (is.others t (λ h. other (sym h)))
        ∙ step.count t (subst (λ n. t < n) is.same_length less)
  ];
  sign = λ t less. elim (cases_eq s t) [
    | inl same ↦ subst (λ (u : ℕ). (series_at all' u).signed ≡ is_signed_off u P) same
        (ap (λ (x : Series Message). x.signed) is.here ∙ sign ∙ step.sign s within)
    | inr other ↦ ap (λ (x : Series Message). x.signed) (is.others t (λ h. other (sym h)))
        ∙ step.sign t (subst (λ n. t < n) is.same_length less)
  ];
}

unsigned_if : (a b c d : Bool)
    → (if a then Some BadNumber else
    (if b then Some Double else (if c then Some SignedOff else
    (if d then Some TooEarly else None)))) ≡ None → c ≡ false
unsigned_if true b c d h = absurd (none-some _ (sym h))
unsigned_if false true c d h = absurd (none-some _ (sym h))
unsigned_if false false true d h = absurd (none-some _ (sym h))
unsigned_if false false false d h = refl

-- a station whose message is taken hasn't signed off
pub taken_unsigned : (all : List (Series Message)) (s n : ℕ) → refusal_of all s n ≡ None
    → (series_at all s).signed ≡ false
taken_unsigned all s n = elim (slice_get all s) as (λ o. refusal_in o n ≡ None
    → (unwrap_or o (series 0 false [])).signed ≡ false) [
      | None ↦ λ h. absurd (none-some _ (sym h))
      | Some q ↦ λ h. unsigned_if ((n == 0) || nat_lt LAST n)
          (nat_le n q.posted || is_some (held_at q n)) q.signed (nat_lt (q.posted + window) n) h
    ]
