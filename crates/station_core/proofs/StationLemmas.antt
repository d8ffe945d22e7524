-- The messages that the series of all stations hold, call by call.
use Rattle.std.proofs.Common.{◌≡◌, ◌≢◌, ℕ, zero, suc, ◌+◌, ◌-◌, ◌<◌, ◌≤◌, ◌&&◌, ◌||◌, ◌==◌, not}
use Rattle.std.proofs.Common.{nat_lt, nat_le, Bool, true, false, if◌then◌else◌, List, [], ◌∷◌, ◌++◌}
use Rattle.std.proofs.Common.{length, map, Option, Some, None, is_some, refl, ap, ◌∙◌, sym, arith}
use Rattle.std.proofs.Common.{rules, ⊎_elim, add-one, length-set}
use Rattle.std.proofs.lemmas.Bool.{cases_lt, cases_eq, or_parts}
use Rattle.std.proofs.lemmas.Bool.Decides.{nat_tests}
use Rattle.std.proofs.lemmas.List.{length-map}
use Rattle.std.specs.Prelude.{slice_set, slice_get, unwrap_or, IfSome, IfNone, OnSome, get_or}
use Rattle.std.proofs.lemmas.List.{set-get_or}
use Rattle.std.proofs.lemmas.Option.{slice_get_past}
use Rattle.circular_buffer.proofs.Places.{slice_get-set_same, slice_get-set_other, slice_get-some}
use Rattle.station_core.specs.declared.TheConstants.{LAST}
use Rattle.station_core.specs.declared.Start.{Start}
use Rattle.station_core.specs.declared.Refusal.{Refusal}
use Rattle.station_core.specs.declared.Refusal.TheVariants.{UnknownStation, BadNumber, Double}
use Rattle.station_core.specs.declared.Refusal.TheVariants.{SignedOff, TooEarly}
use Rattle.station_core.specs.Series.{Series, series, window, slot_at, series_at, held_at}
use Rattle.station_core.specs.Series.{refusal_of, opened, with_held, counted, closed}
use Rattle.station_core.specs.Runs.{Arrived, arrived, message_at, ends, ready, is_signed, is_double}
use Rattle.station_core.specs.Runs.{refusal, taken_after}
use Rattle.station_core.specs.Progress.{Matches, AllMatch, IsPosting, IsEnding, ComesDue}
use Rattle.station_core.specs.Progress.{StartsFrom, AllStart}
use Rattle.station_core.proofs.SlotLemmas.{series_at_there, slot_shift}
use Rattle.station_core.proofs.SeriesLemmas.{matches_opened, matches_other, pending_taken}
use Rattle.station_core.proofs.SeriesLemmas.{pending_counted, ending_counted, matches_pending}
use Rattle.station_core.proofs.SeriesLemmas.{matches_closed, next_of, held_is_taken}

-- a test that finds no reason to refuse
tests_none : (a b c d e : Bool)
    → (if a then Some UnknownStation else
    (if b then Some BadNumber else
    (if c then Some Double else (if d then Some SignedOff else
    (if e then Some TooEarly else None))))) ≡ None
    → (a ≡ false) × (b ≡ false) × (c ≡ false) × (d ≡ false) × (e ≡ false)
tests_none true b c d e h = absurd (cc)
tests_none false true c d e h = absurd (cc)
tests_none false false true d e h = absurd (cc)
tests_none false false false true e h = absurd (cc)
tests_none false false false false true h = absurd (cc)
tests_none false false false false false h = (refl, refl, refl, refl, refl)

-- the facts about an arrival that isn't refused
pub record IsAccepted {M : Type 0} (signs : M → Bool) (stations : ℕ) (taken : List (Arrived M))
    (s n : ℕ) : Type 0 where
  pub within : s < stations
  pub low : ready signs taken s < n
  pub high : n ≤ ready signs taken s + window
  pub last : n ≤ LAST
  pub goes_on : is_signed signs taken s ≡ false
  pub free : message_at taken s n ≡ None

module _ {M : Type 0} where
  pub accepted : (signs : M → Bool) (stations : ℕ) (taken : List (Arrived M)) (s n : ℕ)
      → refusal signs stations taken s n ≡ None → IsAccepted signs stations taken s n
  accepted signs stations taken s n h =
      let tests = tests_none (nat_le stations s) ((n == 0) || nat_lt LAST n)
      (is_double signs taken s n) (is_signed signs taken s)
      (nat_lt (ready signs taken s + window) n) h in
      let number = or_parts (n == 0) (nat_lt LAST n) tests.1 in
      let double = or_parts (nat_le n (ready signs taken s))
      (not (is_signed signs taken s) && is_some (message_at taken s n)) tests.2 in
      record {
        within = let t = tests.0 in grind (arith, nat_tests);
        low = let t = double.0 in grind (arith, nat_tests);
        high = let t = tests.4 in grind (arith, nat_tests);
        last = let t = number.1 in grind (arith, nat_tests);
        goes_on = tests.3;
        free = let t : is_some (message_at taken s n) ≡ false = rw tests.3 at double.1 in
            search rules;
      }

  -- the list of taken messages after an arrival
  pub taken_refused : (signs : M → Bool) (stations : ℕ) (taken : List (Arrived M)) (r : Arrived M)
      (f : Refusal) → refusal signs stations taken r.station r.n ≡ Some f
      → taken_after signs stations taken r ≡ taken
  taken_refused signs stations taken r f h = rw h refl

  pub taken_accepted : (signs : M → Bool) (stations : ℕ) (taken : List (Arrived M)) (r : Arrived M)
      → refusal signs stations taken r.station r.n ≡ None
      → taken_after signs stations taken r ≡ taken ++ r ∷ []
  taken_accepted signs stations taken r h = rw h refl

  -- the series of a station after a change at one
  pub series_at_set_same : (all : List (Series M)) (s : ℕ) (q : Series M) → s < length all
      → series_at (slice_set all s q) s ≡ q
  series_at_set_same all s q h =
      series_at_there (slice_set all s q) s q (slice_get-set_same all s q h)

  pub series_at_set_other : (all : List (Series M)) (s t : ℕ) (q : Series M) → t ≢ s
      → series_at (slice_set all s q) t ≡ series_at all t
  series_at_set_other all s t q h =
      ap (λ (o : Option (Series M)). unwrap_or o (series 0 false []))
      (slice_get-set_other all s t q h)

  -- facts about the other stations stay true
  others_stay : (all : List (Series M)) (s : ℕ) (q : Series M) (P : ℕ → Series M → Type 0)
      → ((t : ℕ) → t < length all → t ≢ s → P t (series_at all t))
      → (t : ℕ) → t < length (slice_set all s q) → t ≢ s → P t (series_at (slice_set all s q) t)
  others_stay all s q P stays t h ne =
      rw (series_at_set_other all s t q ne) (stays t (omega (arith, length-set all s q)) ne)

  pub series_there : (all : List (Series M)) (s : ℕ) → s < length all
      → slice_get all s ≡ Some (series_at all s)
  series_there all s h = let p = slice_get-some all s h in
      p.1 ∙ ap Some (sym (series_at_there all s p.0 p.1))

  -- the test agrees with looking back
  pub refusal_agrees : (signs : M → Bool) (taken : List (Arrived M)) (all : List (Series M))
      (s n : ℕ) → AllMatch signs taken all
      → refusal_of all s n ≡ refusal signs (length all) taken s n
  refusal_agrees signs taken all s n every =
      ⊎_elim
      (λ h.
      let q : Series M = series_at all s in
      let ms : Matches signs taken s q = every.each s h in
      let there : nat_le (length all) s ≡ false = grind (arith, nat_tests) in
      let sign : ends signs taken s q.posted ≡ q.signed =
      ap (ends signs taken s) ms.count ∙ sym ms.sign in
      rw (series_there all s h, there, ← ms.count, sign)
      (⊎_elim
      (λ low. rw (held_is_taken signs taken s n q ms low) refl)
      (λ high. let le : nat_le n q.posted ≡ true = grind (arith, nat_tests) in rw le refl)
      (cases_lt q.posted n)))
      (λ h. let there : nat_le (length all) s ≡ true = grind (arith, nat_tests) in rw
      (slice_get_past all s h, there) refl)
      (cases_lt s (length all))

  -- the station of an arrival that isn't refused exists
  pub accepted_within : (all : List (Series M)) (s n : ℕ) → refusal_of all s n ≡ None
      → s < length all
  accepted_within all s n h =
      ⊎_elim (λ lt. lt) (λ ge. let e : refusal_of all s n ≡ Some UnknownStation = rw
      (slice_get_past all s ge) refl in absurd (cc)) (cases_lt s (length all))

  -- the stations at their start
  opened_at : (xs : List Start) (s : ℕ) → s < length xs → (start : Start)
      × (slice_get xs s ≡ Some start)
      × (slice_get (map (opened {M = M}) xs) s ≡ Some (opened start))
  opened_at [] s h = absurd (omega arith)
  opened_at (x ∷ xs) zero h = (x, refl, refl)
  opened_at (x ∷ xs) (suc s) h = opened_at xs s (omega arith)

  pub all_opened : (signs : M → Bool) (taken : List (Arrived M)) (starts : List Start)
      → AllStart signs taken starts → AllMatch signs taken (map opened starts)
  all_opened signs taken starts every = record {
    each = λ s h.
        let p = opened_at starts s (omega (arith, length-map starts (opened {M = M}))) in
        let from : StartsFrom signs taken s p.0 = every.each s p.0 p.1 in
        let q : series_at (map (opened {M = M}) starts) s ≡ opened p.0 =
        series_at_there (map (opened {M = M}) starts) s (opened p.0) p.2 in
        rw q (matches_opened signs taken s p.0 from.whole from.sign from.none_above);
  }

  -- an arrival is taken
  pub posting_taken : (signs : M → Bool) (taken : List (Arrived M)) (all : List (Series M))
      (s n : ℕ) (m : M) → AllMatch signs taken all → refusal_of all s n ≡ None
      → IsPosting signs (taken ++ arrived s n m ∷ []) s
      (slice_set all s (with_held (series_at all s) n m))
  posting_taken signs taken all s n m every none =
      let a : IsAccepted signs (length all) taken s n =
      accepted signs (length all) taken s n
      (sym (refusal_agrees signs taken all s n every) ∙ none) in
      let q : Series M = series_at all s in
      let ms : Matches signs taken s q = every.each s a.within in
      let off : q.signed ≡ false = ms.sign ∙ a.goes_on in
      let low : q.posted < n = rw ms.count a.low in
      let high : n ≤ q.posted + window = rw ms.count a.high in
      record {
        within = omega (arith, a.within, length-set all s (with_held q n m));
        here = rw (series_at_set_same all s (with_held q n m) a.within)
            (pending_taken signs taken (arrived s n m) q ms off low high a.free);
        others = others_stay all s (with_held q n m) (Matches signs (taken ++ arrived s n m ∷ []))
            (λ t h ne. matches_other signs taken (arrived s n m) t (series_at all t) ne
            (every.each t h));
      }

  -- the next message comes due
  pub posting_counted : (signs : M → Bool) (taken : List (Arrived M)) (all : List (Series M))
      (s : ℕ) (m : M) → IsPosting signs taken s all → slot_at (series_at all s).slots 0 ≡ Some m
      → signs m ≡ false → IsPosting signs taken s (slice_set all s (counted (series_at all s)))
  posting_counted signs taken all s m p here off =
      let q : Series M = series_at all s in
      record {
        within = omega (arith, p.within, length-set all s (counted q));
        here = rw (series_at_set_same all s (counted q) p.within)
            (pending_counted signs taken s q m p.here here off);
        others = others_stay all s (counted q) (Matches signs taken) p.others;
      }

  pub posting_ending : (signs : M → Bool) (taken : List (Arrived M)) (all : List (Series M)) (s : ℕ)
      (m : M) → IsPosting signs taken s all → slot_at (series_at all s).slots 0 ≡ Some m
      → signs m ≡ true → IsEnding signs taken s (slice_set all s (counted (series_at all s)))
  posting_ending signs taken all s m p here on =
      let q : Series M = series_at all s in
      record {
        within = omega (arith, p.within, length-set all s (counted q));
        here = rw (series_at_set_same all s (counted q) p.within)
            (ending_counted signs taken s q m p.here here on);
        others = others_stay all s (counted q) (Matches signs taken) p.others;
      }

  pub comes_due : (signs : M → Bool) (taken : List (Arrived M)) (all : List (Series M)) (s n : ℕ)
      (m : M) → IsPosting signs taken s all → slot_at (series_at all s).slots 0 ≡ Some m
      → n ≡ (series_at all s).posted + 1
      → ComesDue signs taken s n m (slice_set all s (counted (series_at all s)))
  comes_due signs taken all s n m p here e = record {
    message = rw (e, add-one) (sym (next_of signs taken s (series_at all s) p.here) ∙ here);
    goes_on = posting_counted signs taken all s m p here;
    ends = posting_ending signs taken all s m p here;
  }

  -- one station and the others are all of them
  all_from : (signs : M → Bool) (taken : List (Arrived M)) (all : List (Series M)) (s : ℕ)
      → Matches signs taken s (series_at all s)
      → ((t : ℕ) → t < length all → t ≢ s → Matches signs taken t (series_at all t))
      → AllMatch signs taken all
  all_from signs taken all s here others = record {
    each = λ t h. ⊎_elim (λ eq. rw eq here) (λ ne. others t h ne) (cases_eq t s);
  }

  -- nothing more comes due
  pub all_posted : (signs : M → Bool) (taken : List (Arrived M)) (all : List (Series M)) (s : ℕ)
      → IsPosting signs taken s all → slot_at (series_at all s).slots 0 ≡ None
      → AllMatch signs taken all
  all_posted signs taken all s p here =
      all_from signs taken all s (matches_pending signs taken s (series_at all s) p.here
      here) p.others

  -- the list of all series after a call on one station: its next message is counted, or nothing
  -- changes
  pub counted_among : (o : Option (ℕ × M)) (all items : List (Series M)) (s : ℕ) (q new : Series M)
      → items ≡ all → series_at all s ≡ q → OnSome o (new ≡ counted q)
      → OnSome o (slice_set items s new ≡ slice_set all s (counted (series_at all s)))
  counted_among None all items s q new same here e = tt
  counted_among (Some d) all items s q new same here e = rw (same, here, e) refl

  -- after the window moved up by one, each later number has the same message
  held_later : (q : Series M) (n : ℕ) → q.posted + 1 < n → held_at (counted q) n ≡ held_at q n
  held_later q n later =
      let above : nat_lt (q.posted + 1) n ≡ true = grind (arith, nat_tests) in
      let there : nat_lt q.posted n ≡ true = grind (arith, nat_tests) in
      let place : suc (n - (q.posted + 1) - 1) ≡ n - q.posted - 1 = omega arith in
      rw (above, there) (slot_shift q.slots (n - (q.posted + 1) - 1) ∙ ap (slot_at q.slots) place)

  pub stays_among : (o : Option (ℕ × M)) (all new : List (Series M)) (s : ℕ) → s < length all
      → OnSome o (new ≡ slice_set all s (counted (series_at all s)))
      → OnSome o ((n : ℕ) → (series_at all s).posted + 1 < n
      → held_at (series_at new s) n ≡ held_at (series_at all s) n)
  stays_among None all new s within e = tt
  stays_among (Some d) all new s within e = λ n later.
      let here : series_at new s ≡ counted (series_at all s) =
      ap (λ (l : List (Series M)). series_at l s) e ∙ series_at_there _ s _
      (slice_get-set_same all s (counted (series_at all s)) within) in
      ap (λ (q : Series M). held_at q n) here ∙ held_later (series_at all s) n later

  pub unchanged_among : (o : Option (ℕ × M)) (all items : List (Series M)) (s : ℕ)
      (q new : Series M) → items ≡ all → series_at all s ≡ q → q ≡ get_or items s q
      → IfNone o ((slot_at q.slots 0 ≡ None) × (new ≡ q))
      → IfNone o ((slot_at (series_at all s).slots 0 ≡ None) × (slice_set items s new ≡ all))
  unchanged_among None all items s q new same here read e =
      (rw here e.0, rw (e.1, read, set-get_or) same)
  unchanged_among (Some d) all items s q new same here read e = tt

  pub due_among : (o : Option (ℕ × M)) (all new : List (Series M)) (s : ℕ)
      → IfSome o (λ d. slot_at (series_at all s).slots 0 ≡ Some d.1)
      → IfSome o (λ d. (d.0 ≡ (series_at all s).posted + 1) × (d.0 ≤ LAST))
      → OnSome o (new ≡ slice_set all s (counted (series_at all s)))
      → IfSome o (λ d. (signs : M → Bool) (taken : List (Arrived M)) → IsPosting signs taken s all
      → ComesDue signs taken s d.0 d.1 new)
  due_among None all new s message number e = tt
  due_among (Some d) all new s message number e =
      λ signs taken posting. rw e (comes_due signs taken all s d.0 d.1 posting message number.0)

  pub posted_among : (o : Option (ℕ × M)) (all new : List (Series M)) (s : ℕ)
      → IfNone o ((slot_at (series_at all s).slots 0 ≡ None) × (new ≡ all))
      → IfNone o ((signs : M → Bool) (taken : List (Arrived M)) → IsPosting signs taken s all
      → AllMatch signs taken new)
  posted_among None all new s none =
      λ signs taken posting. rw none.1 (all_posted signs taken all s posting none.0)
  posted_among (Some d) all new s none = tt

  -- a station signs off
  pub all_closed : (signs : M → Bool) (taken : List (Arrived M)) (all : List (Series M)) (s : ℕ)
      → IsEnding signs taken s all
      → AllMatch signs taken (slice_set all s (closed (series_at all s)))
  all_closed signs taken all s p =
      let q : Series M = series_at all s in
      all_from signs taken (slice_set all s (closed q)) s
      (rw (series_at_set_same all s (closed q) p.within) (matches_closed signs taken s q p.here))
      (others_stay all s (closed q) (Matches signs taken) p.others)
