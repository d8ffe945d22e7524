-- A hub over the entries of a store.
use Rattle.std.proofs.Common.{◌≡◌, ℕ, zero, suc, ◌+◌, ◌<◌, ◌≤◌, ◌==◌, ◌&&◌, not, Bool, true, false}
use Rattle.std.proofs.Common.{List, [], ◌∷◌, ◌++◌, length, Option, Some, None, inl, inr, get_or}
use Rattle.std.proofs.Common.{refl, ap, ◌∙◌, sym, subst, arith, append_assoc}
use Rattle.std.specs.Prelude.{map, reverse, replicate, slice_get, slice_set, nat_le, All}
use Rattle.std.proofs.lemmas.List.Elements.{All-from_get_or}
use Rattle.std.proofs.lemmas.Bool.{cases_eq, and_parts, and_from, not-true}
use Rattle.std.proofs.lemmas.Bool.Decides.{nat_tests}
use Rattle.std.proofs.lemmas.List.{length-map, length-replicate, map-append, reverse-append}
use Rattle.std.proofs.lemmas.Option.{none-some, same_Some, slice_get_within, slice_get-get_or}
use Rattle.nest_core.specs.Museum.{Museum}
use Rattle.posting_core.specs.declared.message.Message.{Message}
use Rattle.posting_core.specs.declared.entry.Entry.{Entry}
use Rattle.posting_core.specs.Messages.{is_sign_off}
use Rattle.posting_core.specs.declared.entry.Changes.{Changes}
use Rattle.posting_core.specs.Book.{Book, changes_of}
use Rattle.posting_core.specs.Verdicts.{verdict}
use Rattle.posting_core.specs.Lawful.{count_at, is_signed_off, Follows, IsLawful}
use Rattle.station_core.specs.declared.Start.{Start}
use Rattle.station_core.specs.declared.TheConstants.{LAST}
use Rattle.station_core.specs.Series.{Series, series_at, opened}
use Rattle.station_core.specs.Runs.{Arrived}
use Rattle.station_core.specs.Progress.{StartsFrom, AllStart, AllMatch}
use Rattle.station_core.proofs.GrowLemmas.{starts_empty, starts_other, starts_next}
use Rattle.hub_core.specs.Points.{arrival_of, entry_of}
use Rattle.register_store.specs.declared.store_fault.StoreFault.{StoreFault}
use Rattle.register_store.specs.declared.store_fault.StoreFault.TheVariants.{NoMemory, Store}
use Rattle.register_store.specs.declared.store_fault.StoreFault.TheVariants.{OtherSetup, Damaged}
use Rattle.register_store.specs.declared.store_fault.StoreFault.TheVariants.{OtherVersion}
use Rattle.hub_core.specs.Openings.{GoesOn, may_send, IsEntryFault, IsJudgeFault}
use Rattle.hub_core.specs.StandsFor.{InStep}
use Rattle.hub_core.proofs.PostLemmas.{IsWritten, written, step_written, count_same, count_other}
use Rattle.hub_core.proofs.PostLemmas.{signed_same, signed_other}

abbrev fresh : Start
fresh = record { posted = 0; signed = false }

opened_fresh : (n s : ℕ) → s < n
    → series_at (map opened (replicate n fresh)) s ≡ opened {M = Message} fresh
opened_fresh zero s less = absurd (omega arith)
opened_fresh (suc n) zero less = refl
opened_fresh (suc n) (suc s) less = opened_fresh n s (omega arith)

-- stations with nothing posted are in step with no entries
pub fresh_step : (S : Museum) (n : ℕ) (starts : List Start) → n ≡ length S.stations
    → starts ≡ replicate n fresh → InStep (map opened starts) S []
fresh_step S n starts sized h =
    let is : map opened starts ≡ map opened (replicate n fresh) =
    ap (map (opened {M = Message})) h in
    let len : length (map opened starts) ≡ n =
    ap length is ∙ length-map (replicate n fresh) opened ∙ length-replicate n fresh in
    record {
      stations = len ∙ sized;
      count = λ s less. ap (λ (x : List (Series Message)). (series_at x s).posted) is
          ∙ ap (λ (x : Series Message). x.posted) (opened_fresh n s (subst (λ m. s < m) len less));
      sign = λ s less. ap (λ (x : List (Series Message)). (series_at x s).signed) is
          ∙ ap (λ (x : Series Message). x.signed) (opened_fresh n s (subst (λ m. s < m) len less));
    }

-- the series of a start
opened_at : (starts : List Start) (s : ℕ) (start : Start) → slice_get starts s ≡ Some start
    → series_at (map opened starts) s ≡ opened {M = Message} start
opened_at [] s start e = absurd (none-some _ e)
opened_at (x ∷ starts) zero start e = ap opened (same_Some _ _ e)
opened_at (x ∷ starts) (suc s) start e = opened_at starts s start e

opened_set : (starts : List Start) (s : ℕ) (start : Start)
    → map (opened {M = Message}) (slice_set starts s start) ≡ slice_set (map opened starts) s
    (opened start)
opened_set [] s start = refl
opened_set (x ∷ starts) zero start = refl
opened_set (x ∷ starts) (suc s) start =
    ap (λ (xs : List (Series Message)). opened x ∷ xs) (opened_set starts s start)

-- the start of a station, by the entries
pub record IsStart (S : Museum) (P : List Entry) (s : ℕ) (start : Start) : Type 0 where
  pub known : s < length S.stations
  pub count : start.posted ≡ count_at s P
  pub sign : start.signed ≡ is_signed_off s P

pub is_start : (S : Museum) (P : List Entry) (starts : List Start) (s : ℕ) (start : Start)
    → InStep (map opened starts) S P → slice_get starts s ≡ Some start → IsStart S P s start
is_start S P starts s start step e =
    let within : s < length (map (opened {M = Message}) starts) =
    subst (λ n. s < n) (sym (length-map starts (opened {M = Message})))
    (slice_get_within starts s start e) in
    let here = opened_at starts s start e in
    record {
      known = subst (λ n. s < n) step.stations within;
      count = sym (ap (λ (x : Series Message). x.posted) here) ∙ step.count s within;
      sign = sym (ap (λ (x : Series Message). x.signed) here) ∙ step.sign s within;
    }

-- an entry may follow if its station may send its number, and its verdict is the rules'
follows_some : (S : Museum) (depth : ℕ) (P : List Entry) (e : Entry) (starts : List Start)
    (o : Option Start) → slice_get starts e.station ≡ o → InStep (map opened starts) S P
    → may_send o e.n ≡ true → verdict S depth P e.message ≡ e.verdict → Follows S depth P e
follows_some S depth P e starts None at step h judged = absurd (cc)
follows_some S depth P e starts (Some start) at step h judged =
    let is = is_start S P starts e.station start step at in
    let tests = and_parts (e.n == start.posted + 1) (nat_le e.n LAST && not start.signed) h in
    let rest = and_parts (nat_le e.n LAST) (not start.signed) tests.1 in
    let n : (e.n == start.posted + 1) ≡ true = tests.0 in
    let few : nat_le e.n LAST ≡ true = rest.0 in
    let off : start.signed ≡ false = not-true start.signed rest.1 in
    let next : e.n ≡ start.posted + 1 = grind (arith, nat_tests) in
    let low : e.n ≤ 999999 = grind (arith, nat_tests) in
    record {
      known = is.known;
      next = next ∙ ap (λ k. k + 1) is.count;
      few = low;
      unsigned = sym is.sign ∙ off;
      judged = sym judged;
    }

pub follows_next : (S : Museum) (depth : ℕ) (P : List Entry) (e : Entry) (starts : List Start)
    → InStep (map opened starts) S P
    → may_send (slice_get starts e.station) e.n ≡ true → verdict S depth P e.message ≡ e.verdict
    → Follows S depth P e
follows_next S depth P e starts step h judged =
    follows_some S depth P e starts (slice_get starts e.station) refl step h judged

-- and only then
sends_some : (S : Museum) (depth : ℕ) (P : List Entry) (e : Entry) (starts : List Start)
    (o : Option Start) → slice_get starts e.station ≡ o → InStep (map opened starts) S P
    → Follows S depth P e → may_send o e.n ≡ true
sends_some S depth P e starts None at step f =
    let within : e.station < length starts =
    subst (λ n. e.station < n) (sym step.stations ∙ length-map starts
    (opened {M = Message})) f.known in
    absurd (none-some _ (sym at ∙ slice_get-get_or starts e.station fresh within))
sends_some S depth P e starts (Some start) at step f =
    let is = is_start S P starts e.station start step at in
    let next : e.n ≡ start.posted + 1 = f.next ∙ ap (λ k. k + 1) (sym is.count) in
    let off : start.signed ≡ false = is.sign ∙ f.unsigned in
    let low : e.n ≤ 999999 = f.few in
    and_from (e.n == start.posted + 1) (nat_le e.n LAST && not start.signed)
    (grind (arith, nat_tests))
    (and_from (nat_le e.n LAST) (not start.signed) (grind (arith, nat_tests)) (rw off refl))

pub follows_sends : (S : Museum) (depth : ℕ) (P : List Entry) (e : Entry) (starts : List Start)
    → InStep (map opened starts) S P → Follows S depth P e
    → may_send (slice_get starts e.station) e.n ≡ true
follows_sends S depth P e starts step f =
    sends_some S depth P e starts (slice_get starts e.station) refl step f

-- the starts stay in step
pub next_step : (S : Museum) (depth : ℕ) (P : List Entry) (e : Entry) (starts starts' : List Start)
    → InStep (map opened starts) S P → Follows S depth P e
    → starts' ≡ slice_set starts e.station (record { posted = e.n; signed = is_sign_off e.message })
    → InStep (map opened starts') S (e ∷ P)
next_step S depth P e starts starts' step f set =
    let all : List (Series Message) = map opened starts in
    let q : Series Message = opened (record { posted = e.n; signed = is_sign_off e.message }) in
    let within : e.station < length all = subst (λ n. e.station < n) (sym step.stations) f.known in
    let is : IsWritten all (map opened starts') e.station q =
    written all (map opened starts') e.station q within
    (ap (map opened) set ∙ opened_set starts e.station _) in
    step_written S P all (map opened starts') q e step within is
    (f.next ∙ ap (λ k. k + 1) (sym (step.count e.station within))) refl
    (step.sign e.station within ∙ f.unsigned)

-- no station of a lawful list has more entries than there are numbers
pub count_few : (S : Museum) (depth : ℕ) (P : List Entry) (s : ℕ) → IsLawful S depth P
    → count_at s P ≤ 999999
count_few S depth [] s law = omega arith
count_few S depth (e ∷ P) s law = elim (cases_eq e.station s) [
  | inl same ↦ subst (λ t. count_at t (e ∷ P) ≤ 999999) same
      (rw (count_same e.station e P refl, ← law.0.next) law.0.few)
  | inr other ↦ rw (count_other s e P other) (count_few S depth P s law.1)
]

pub all_few : (S : Museum) (depth : ℕ) (P : List Entry) (starts : List Start) → IsLawful S depth P
    → InStep (map opened starts) S P → All (λ s. s.posted ≤ LAST) starts
all_few S depth P starts law step =
    All-from_get_or (λ (x : Start). x.posted ≤ LAST) starts fresh (λ s less.
    let is = is_start S P starts s (get_or starts s fresh) step
    (slice_get-get_or starts s fresh less) in
    let low : count_at s P ≤ 999999 = count_few S depth P s law in
    omega (arith, is.count, low))

-- a lawful list, as arrivals
abbrev pub sent : List Entry → List (Arrived Message)
sent P = map arrival_of (reverse P)

pub sent_next : (e : Entry) (P : List Entry) → sent (e ∷ P) ≡ sent P ++ arrival_of e ∷ []
sent_next e P = ap (map arrival_of) (reverse-append (e ∷ []) P) ∙ map-append arrival_of
    (reverse P) (e ∷ [])

-- each station may start from that list
pub lawful_start : (S : Museum) (depth : ℕ) (P : List Entry) (s : ℕ) → IsLawful S depth P
    → StartsFrom is_sign_off (sent P) s
    (record { posted = count_at s P; signed = is_signed_off s P })
lawful_start S depth [] s law = starts_empty is_sign_off s
lawful_start S depth (e ∷ P) s law =
    subst (λ (taken : List (Arrived Message)). StartsFrom is_sign_off taken s
    (record { posted = count_at s (e ∷ P); signed = is_signed_off s (e ∷ P) }))
    (sym (sent_next e P))
    (elim (cases_eq e.station s) [
      | inl same ↦
          subst (λ t. StartsFrom is_sign_off (sent P ++ arrival_of e ∷ []) t
          (record { posted = count_at t (e ∷ P); signed = is_signed_off t (e ∷ P) })) same
          (rw (
            count_same e.station e P refl,
            signed_same e.station e P (is_sign_off e.message) refl
                refl law.0.unsigned,
            ← law.0.next,
          )
          (starts_next is_sign_off (sent P) (arrival_of e) _
          (lawful_start S depth P e.station law.1) law.0.unsigned law.0.next))
      | inr other ↦ rw (count_other s e P other, signed_other s e P other)
          (starts_other is_sign_off (sent P) (arrival_of e) s _ other
          (lawful_start S depth P s law.1))
    ])

pub all_start : (S : Museum) (depth : ℕ) (P : List Entry) (starts : List Start) → IsLawful S depth P
    → InStep (map opened starts) S P → AllStart is_sign_off (sent P) starts
all_start S depth P starts law step = record {
  each = λ s start e.
      let is = is_start S P starts s start step e in
      subst (λ (x : Start). StartsFrom is_sign_off (sent P) s x) (rw (← is.count, ← is.sign) refl)
      (lawful_start S depth P s law);
}

-- the stations made from the starts go on from the list
pub goes_on : (L : Book) (starts now : List Start) (all : List (Series Message))
    → IsLawful L.museum L.depth L.posted → InStep (map opened starts) L.museum L.posted
    → now ≡ starts
    → all ≡ map opened now → ((signs : Message → Bool) (taken : List (Arrived Message))
    → AllStart signs taken now → AllMatch signs taken all) → GoesOn all L
goes_on L starts now all law step is made matches = record {
  in_step = subst (λ (xs : List (Series Message)). InStep xs L.museum L.posted)
      (sym (made ∙ ap (map opened) is)) step;
  series = matches is_sign_off (sent L.posted)
      (subst (λ (xs : List Start). AllStart is_sign_off (sent L.posted) xs) (sym is)
      (all_start L.museum L.depth L.posted starts law step));
}

-- an entry may follow with the rules' verdict, if its station may send its number
pub sends_follows : (L : Book) (e : Entry) (starts now : List Start) (sends : Bool)
    → InStep (map opened starts) L.museum L.posted → now ≡ starts
    → sends ≡ may_send (slice_get now e.station) e.n → sends ≡ true
    → Follows L.museum L.depth L.posted (entry_of L.museum L.depth L.posted (arrival_of e))
sends_follows L e starts now sends step is told on =
    follows_next L.museum L.depth L.posted (entry_of L.museum L.depth L.posted (arrival_of e))
    starts step (ap (λ (xs : List Start). may_send (slice_get xs e.station) e.n) (sym is)
    ∙ (sym told ∙ on)) refl

-- and with its own verdict, if that is the same
pub judged_follows : (L : Book) (e : Entry) (changes : Changes)
    → Follows L.museum L.depth L.posted (entry_of L.museum L.depth L.posted (arrival_of e))
    → changes ≡ changes_of L e.message → changes.verdict ≡ e.verdict
    → Follows L.museum L.depth L.posted e
judged_follows L e changes f planned same =
    record {
      known = f.known;
      next = f.next;
      few = f.few;
      unsigned = f.unsigned;
      judged = sym same ∙ ap (λ (x : Changes). x.verdict) planned;
    }

-- the first wrong entry of the list
pub entry_fault : (S : Museum) (depth : ℕ) (L : Book) (O left left' : List Entry) (e : Entry)
    (fault : StoreFault) → L.museum ≡ S → L.depth ≡ depth
    → O ≡ left ++ L.posted → left ≡ left' ++ e ∷ [] → IsLawful L.museum L.depth L.posted
    → IsEntryFault L.museum L.depth L.posted e fault → IsJudgeFault S depth O fault
entry_fault S depth L O left left' e NoMemory museum limit list last law h = tt
entry_fault S depth L O left left' e Store museum limit list last law h = absurd h
entry_fault S depth L O left left' e OtherSetup museum limit list last law h = absurd h
entry_fault S depth L O left left' e OtherVersion museum limit list last law h = absurd h
entry_fault S depth L O left left' e (Damaged at) museum limit list last law h =
    subst (λ (T : Museum). IsJudgeFault T depth O (Damaged at)) museum
    (subst (λ d. IsJudgeFault L.museum d O (Damaged at)) limit (record {
      before = L.posted;
      entry = e;
      after = left';
      all = list ∙ (ap (λ (xs : List Entry). xs ++ L.posted) last ∙ append_assoc left'
          (e ∷ []) L.posted);
      count = h.0;
      lawful = law;
      wrong = h.1;
    }))
