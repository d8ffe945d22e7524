-- The messages that one station's series holds, call by call.
use Rattle.std.proofs.Common.{◌≡◌, ◌≢◌, ℕ, suc, ◌+◌, ◌-◌, ◌<◌, ◌≤◌, ◌&&◌, not, nat_lt, Bool, true}
use Rattle.std.proofs.Common.{false, List, [], ◌∷◌, ◌++◌, length, drop, Some, None, is_some, inl}
use Rattle.std.proofs.Common.{inr, refl, ap, ◌∙◌, sym, arith, ⊎_elim, add-one, length-append}
use Rattle.std.proofs.Common.{length-drop, length-set}
use Rattle.std.proofs.lemmas.List.{length-replicate}
use Rattle.std.proofs.lemmas.Bool.{cases_Bool, cases_lt}
use Rattle.std.proofs.lemmas.Bool.Decides.{nat_tests}
use Rattle.std.specs.Prelude.{slice_set}
use Rattle.station_core.specs.declared.Start.{Start}
use Rattle.station_core.specs.Series.{Series, window, slot_at, held_at, opened, with_held, counted}
use Rattle.station_core.specs.Series.{closed}
use Rattle.station_core.specs.Runs.{Arrived, message_at, ends, unbroken, ready}
use Rattle.station_core.specs.Progress.{HoldsAbove, Matches, Pending, Ending}
use Rattle.station_core.proofs.SlotLemmas.{window_is, slot_set_same, slot_set_other, slot_shift}
use Rattle.station_core.proofs.SlotLemmas.{slot_empty, slot_past}
use Rattle.station_core.proofs.RunLemmas.{at_other_number, at_other_station, at_its_number}
use Rattle.station_core.proofs.RunLemmas.{ends_same, unbroken_same, ready_is, ready_holds}
use Rattle.station_core.proofs.RunLemmas.{ready_same, stops_at_sign_off, stops_at_missing}

module _ {M : Type 0} where
  -- a station at its start, from a posted list
  pub matches_opened : (signs : M → Bool) (taken : List (Arrived M)) (s : ℕ) (start : Start)
      → unbroken signs taken s start.posted ≡ true → start.signed ≡ ends signs taken s start.posted
      → ((n : ℕ) → start.posted < n → message_at taken s n ≡ None)
      → Matches signs taken s (opened start)
  matches_opened signs taken s start whole sign none =
      let at : message_at taken s (suc start.posted) ≡ None =
      none (suc start.posted) (omega arith) in
      let k : ready signs taken s ≡ start.posted =
      ready_is signs taken s start.posted whole
      (stops_at_missing signs taken s start.posted at) in
      record {
        count = sym k;
        sign = sign ∙ sym (ap (ends signs taken s) k);
        width = length-replicate window None;
        held = λ off. record {
          inside = λ i h. slot_empty window i ∙ sym (none (start.posted + (i + 1)) (omega arith));
          above = λ n h. none n (omega arith);
        };
        empty = λ on i. slot_empty window i;
      }

  -- another station's arrival
  pub matches_other : (signs : M → Bool) (taken : List (Arrived M)) (r : Arrived M) (t : ℕ)
      (q : Series M) → t ≢ r.station → Matches signs taken t q → Matches signs (taken ++ r ∷ []) t q
  matches_other signs taken r t q ne ms =
      let same : (n : ℕ) → message_at (taken ++ r ∷ []) t n ≡ message_at taken t n =
      λ n. at_other_station taken r t n (λ e. ne (sym e)) in
      let k : ready signs (taken ++ r ∷ []) t ≡ ready signs taken t =
      ready_same signs taken (taken ++ r ∷ []) t (λ n h. same n) in
      record {
        count = ms.count ∙ sym k;
        sign = ms.sign ∙ sym (ap (ends signs (taken ++ r ∷ []) t) k ∙ ends_same signs taken
            (taken ++ r ∷ []) t (ready signs taken t) (λ n h. same n));
        width = ms.width;
        held = λ off. record {
          inside = λ i h. (ms.held off).inside i h ∙ sym (same (q.posted + (i + 1)));
          above = λ n h. same n ∙ (ms.held off).above n h;
        };
        empty = ms.empty;
      }

  -- an arrival that is taken and held
  pub pending_taken : (signs : M → Bool) (taken : List (Arrived M)) (r : Arrived M) (q : Series M)
      → Matches signs taken r.station q → q.signed ≡ false → q.posted < r.n
      → r.n ≤ q.posted + window → message_at taken r.station r.n ≡ None
      → Pending signs (taken ++ r ∷ []) r.station (with_held q r.n r.message)
  pending_taken signs taken r q ms off low high none =
      let s : ℕ = r.station in
      let qs : List (Arrived M) = taken ++ r ∷ [] in
      let same : (n : ℕ) → n ≤ q.posted → message_at qs s n ≡ message_at taken s n =
      λ n h. at_other_number taken r s n (λ e. absurd (omega arith)) in
      record {
        whole = unbroken_same signs taken qs s q.posted same ∙ rw ms.count
            (ready_holds signs taken s);
        goes_on = ends_same signs taken qs s q.posted same ∙ rw ms.count (sym ms.sign ∙ off);
        sign = off;
        width = length-set q.slots (r.n - q.posted - 1) (Some r.message) ∙ ms.width;
        held = record {
          inside = λ i h. ⊎_elim
              (λ lt. held_other i h (λ e. absurd (omega arith)))
              (λ ge. ⊎_elim (λ lt. held_other i h (λ e. absurd (omega arith)))
              (λ ge'. held_here i h (omega arith)) (cases_lt (r.n - q.posted - 1) i))
              (cases_lt i (r.n - q.posted - 1));
          above = λ n h. at_other_number taken r s n (λ e. absurd (omega arith))
              ∙ (ms.held off).above n h;
        };
      }
    where
      held_other : (i : ℕ) → i < window → i ≢ r.n - q.posted - 1
          → slot_at (slice_set q.slots (r.n - q.posted - 1) (Some r.message)) i
          ≡ message_at (taken ++ r ∷ []) r.station (q.posted + (i + 1))
      held_other i h ne =
          slot_set_other q.slots (r.n - q.posted - 1) i r.message ne
          ∙ ((ms.held off).inside i h ∙ sym
          (at_other_number taken r r.station (q.posted + (i + 1)) (λ e. ne (omega arith))))

      held_here : (i : ℕ) → i < window → i ≡ r.n - q.posted - 1
          → slot_at (slice_set q.slots (r.n - q.posted - 1) (Some r.message)) i
          ≡ message_at (taken ++ r ∷ []) r.station (q.posted + (i + 1))
      held_here i h e =
          let n : q.posted + (i + 1) ≡ r.n = omega arith in
          rw (n, at_its_number taken r none, e)
          (slot_set_same q.slots (r.n - q.posted - 1) r.message (omega (arith, ms.width)))

  -- the first slot is that of the next number
  pub next_of : (signs : M → Bool) (taken : List (Arrived M)) (s : ℕ) (q : Series M)
      → Pending signs taken s q → slot_at q.slots 0 ≡ message_at taken s (suc q.posted)
  next_of signs taken s q p = let e : q.posted + (0 + 1) ≡ suc q.posted = omega arith in
      rw e at (p.held.inside 0 (omega (arith, window_is)))

  shifted : (taken : List (Arrived M)) (s : ℕ) (q : Series M) → length q.slots ≡ window
      → HoldsAbove taken s q → HoldsAbove taken s (counted q)
  shifted taken s q width held = record {
    inside = λ i h.
        slot_shift q.slots i
        ∙ ⊎_elim
        (λ lt. let e : q.posted + (suc i + 1) ≡ q.posted + 1 + (i + 1) = omega arith in rw e at
        (held.inside (suc i) lt))
        (λ ge. slot_past q.slots (suc i) (omega arith)
        ∙ sym (held.above (q.posted + 1 + (i + 1)) (omega arith)))
        (cases_lt (suc i) window);
    above = λ n h. held.above n (omega arith);
  }

  counted_width : (q : Series M) → length q.slots ≡ window → length (counted q).slots ≡ window
  counted_width q width =
      omega (
        arith,
        window_is,
        width,
        length-append (drop 1 q.slots) (None ∷ []),
        length-drop 1 q.slots,
      )

  -- one message is counted as posted
  counted_whole : (signs : M → Bool) (taken : List (Arrived M)) (s : ℕ) (q : Series M) (m : M)
      → Pending signs taken s q → message_at taken s (suc q.posted) ≡ Some m
      → unbroken signs taken s (q.posted + 1) ≡ true
  counted_whole signs taken s q m p at = rw add-one (rw (p.whole, at, p.goes_on) refl)

  pub pending_counted : (signs : M → Bool) (taken : List (Arrived M)) (s : ℕ) (q : Series M) (m : M)
      → Pending signs taken s q → slot_at q.slots 0 ≡ Some m → signs m ≡ false
      → Pending signs taken s (counted q)
  pending_counted signs taken s q m p here off =
      let at : message_at taken s (suc q.posted) ≡ Some m =
      sym (next_of signs taken s q p) ∙ here in
      record {
        whole = counted_whole signs taken s q m p at;
        goes_on = rw (add-one, at) off;
        sign = p.sign;
        width = counted_width q p.width;
        held = shifted taken s q p.width p.held;
      }

  pub ending_counted : (signs : M → Bool) (taken : List (Arrived M)) (s : ℕ) (q : Series M) (m : M)
      → Pending signs taken s q → slot_at q.slots 0 ≡ Some m → signs m ≡ true
      → Ending signs taken s (counted q)
  ending_counted signs taken s q m p here on =
      let at : message_at taken s (suc q.posted) ≡ Some m =
      sym (next_of signs taken s q p) ∙ here in
      record {
        whole = counted_whole signs taken s q m p at;
        ended = rw (add-one, at) on;
        width = counted_width q p.width;
      }

  -- nothing more comes due
  pub matches_pending : (signs : M → Bool) (taken : List (Arrived M)) (s : ℕ) (q : Series M)
      → Pending signs taken s q → slot_at q.slots 0 ≡ None → Matches signs taken s q
  matches_pending signs taken s q p here =
      let at : message_at taken s (suc q.posted) ≡ None = sym (next_of signs taken s q p) ∙ here in
      let k : ready signs taken s ≡ q.posted =
      ready_is signs taken s q.posted p.whole (stops_at_missing signs taken s q.posted at) in
      record {
        count = sym k;
        sign = p.sign ∙ sym (ap (ends signs taken s) k ∙ p.goes_on);
        width = p.width;
        held = λ off. p.held;
        empty = λ on i. let e = p.sign in absurd (cc);
      }

  -- the station is signed off
  pub matches_closed : (signs : M → Bool) (taken : List (Arrived M)) (s : ℕ) (q : Series M)
      → Ending signs taken s q → Matches signs taken s (closed q)
  matches_closed signs taken s q p =
      let k : ready signs taken s ≡ q.posted =
      ready_is signs taken s q.posted p.whole
      (stops_at_sign_off signs taken s q.posted p.ended) in
      record {
        count = sym k;
        sign = sym (ap (ends signs taken s) k ∙ p.ended);
        width = length-replicate (length q.slots) None ∙ p.width;
        held = λ off. absurd (cc);
        empty = λ on i. slot_empty (length q.slots) i;
      }

  -- the test at a station is that of looking back
  pub held_is_taken : (signs : M → Bool) (taken : List (Arrived M)) (s n : ℕ) (q : Series M)
      → Matches signs taken s q → q.posted < n
      → is_some (held_at q n) ≡ (not q.signed && is_some (message_at taken s n))
  held_is_taken signs taken s n q ms low =
      let lt : nat_lt q.posted n ≡ true = grind (arith, nat_tests) in
      let place : q.posted + (n - q.posted - 1 + 1) ≡ n = omega arith in
      elim (cases_Bool q.signed) [
        | inl e ↦ rw (lt, e, ms.empty e (n - q.posted - 1)) refl
        | inr e ↦ ⊎_elim
            (λ h. rw (lt, e, (ms.held e).inside (n - q.posted - 1) h, place) refl)
            (λ h. rw (
              lt,
              e,
              slot_past q.slots (n - q.posted - 1) (omega (arith, ms.width)),
              (ms.held e).above n (omega arith),
            ) refl)
            (cases_lt (n - q.posted - 1) window)
      ]
