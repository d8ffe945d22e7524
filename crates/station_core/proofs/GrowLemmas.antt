-- The effect of one more message on the ready messages, on a run, and on how a station may start.
use Rattle.std.proofs.Common.{◌≡◌, ◌≢◌, ℕ, suc, ◌+◌, ◌-◌, ◌<◌, ◌≤◌, Bool, true, false, List, []}
use Rattle.std.proofs.Common.{◌∷◌, ◌++◌, Some, refl, ap, ◌∙◌, sym, arith, ⊎_elim}
use Rattle.std.proofs.lemmas.Bool.{cases_lt}
use Rattle.station_core.specs.declared.Start.{Start}
use Rattle.station_core.specs.Runs.{Arrived, message_at, stops, ends, unbroken, ready, due, run}
use Rattle.station_core.specs.Progress.{StartsFrom}
use Rattle.station_core.proofs.RunLemmas.{at_other_number, at_other_station, at_its_number}
use Rattle.station_core.proofs.RunLemmas.{unbroken_down, ready_holds, ready_fails, ready_same}
use Rattle.station_core.proofs.RunLemmas.{unbroken_same, ends_same, due_same, due_split}
use Rattle.station_core.proofs.BoolLemmas.{down}

module _ {M : Type 0} where
  -- posted messages stay posted
  pub ready_grows : (signs : M → Bool) (rs : List (Arrived M)) (r : Arrived M)
      → ready signs rs r.station < r.n
      → ready signs rs r.station ≤ ready signs (rs ++ r ∷ []) r.station
  ready_grows signs rs r low =
      let s : ℕ = r.station in
      let qs : List (Arrived M) = rs ++ r ∷ [] in
      let here : unbroken signs qs s (ready signs rs s) ≡ true =
      unbroken_same signs rs qs s (ready signs rs s)
      (λ n h. at_other_number rs r s n (λ e. absurd (omega arith))) ∙ ready_holds signs rs s in
      ⊎_elim
      (λ lt.
      let e : ready signs rs s ≡ suc (ready signs qs s) +
      (ready signs rs s - suc (ready signs qs s)) = omega arith in
      let on : unbroken signs qs s (suc (ready signs qs s)) ≡ true =
      down (unbroken signs qs s) (unbroken_down signs qs s) (suc (ready signs qs s))
      (ready signs rs s - suc (ready signs qs s)) (rw e at here) in
      let off : unbroken signs qs s (suc (ready signs qs s)) ≡ false = ready_fails signs qs s in
      absurd (cc))
      (λ ge. ge)
      (cases_lt (ready signs qs s) (ready signs rs s))

  -- a run is the earlier run, and then the messages that came due
  pub run_grows : (signs : M → Bool) (rs : List (Arrived M)) (r : Arrived M)
      → ready signs rs r.station < r.n
      → run signs (rs ++ r ∷ []) r.station ≡ run signs rs r.station ++ due (rs ++ r ∷ []) r.station
      (ready signs rs r.station) (ready signs (rs ++ r ∷ []) r.station - ready signs
      rs r.station)
  run_grows signs rs r low =
      let s : ℕ = r.station in
      let qs : List (Arrived M) = rs ++ r ∷ [] in
      let grows : ready signs rs s ≤ ready signs qs s = ready_grows signs rs r low in
      let e : ready signs qs s ≡ ready signs rs s + (ready signs qs s - ready signs rs s) =
      omega arith in
      let z : 0 + ready signs rs s ≡ ready signs rs s = omega arith in
      ap (due qs s 0) e
      ∙ (due_split qs s 0 (ready signs rs s) (ready signs qs s - ready signs rs s)
      ∙ rw (
        z,
        due_same rs qs s 0 (ready signs rs s)
            (λ n h. at_other_number rs r s n (λ e. absurd (omega arith))),
      ) refl)

  pub ready_other : (signs : M → Bool) (rs : List (Arrived M)) (r : Arrived M) (t : ℕ)
      → r.station ≢ t → ready signs (rs ++ r ∷ []) t ≡ ready signs rs t
  ready_other signs rs r t ne = ready_same signs rs (rs ++ r ∷ []) t
      (λ n h. at_other_station rs r t n ne)

  pub run_other : (signs : M → Bool) (rs : List (Arrived M)) (r : Arrived M) (t : ℕ) → r.station ≢ t
      → run signs (rs ++ r ∷ []) t ≡ run signs rs t
  run_other signs rs r t ne =
      ap (due (rs ++ r ∷ []) t 0) (ready_other signs rs r t ne) ∙ due_same rs (rs ++ r ∷ []) t 0
      (ready signs rs t) (λ n h. at_other_station rs r t n ne)

  -- how a station starts from a posted list, message by message
  pub starts_empty : (signs : M → Bool) (s : ℕ)
      → StartsFrom signs [] s (record { posted = 0; signed = false })
  starts_empty signs s = record { whole = refl; sign = refl; none_above = λ n h. refl }

  pub starts_other : (signs : M → Bool) (rs : List (Arrived M)) (r : Arrived M) (t : ℕ)
      (start : Start) → r.station ≢ t → StartsFrom signs rs t start
      → StartsFrom signs (rs ++ r ∷ []) t start
  starts_other signs rs r t start ne from =
      let same : (n : ℕ) → message_at (rs ++ r ∷ []) t n ≡ message_at rs t n =
      λ n. at_other_station rs r t n ne in
      record {
        whole = unbroken_same signs rs (rs ++ r ∷ []) t start.posted (λ n h. same n) ∙ from.whole;
        sign = from.sign ∙ sym (ends_same signs rs (rs ++ r ∷ []) t start.posted (λ n h. same n));
        none_above = λ n h. same n ∙ from.none_above n h;
      }

  pub starts_next : (signs : M → Bool) (rs : List (Arrived M)) (r : Arrived M) (start : Start)
      → StartsFrom signs rs r.station start → start.signed ≡ false → r.n ≡ start.posted + 1
      → StartsFrom signs (rs ++ r ∷ []) r.station
      (record { posted = r.n; signed = signs r.message })
  starts_next signs rs r start from off e =
      let s : ℕ = r.station in
      let qs : List (Arrived M) = rs ++ r ∷ [] in
      let k : r.n ≡ suc start.posted = omega arith in
      let same : (i : ℕ) → i ≤ start.posted → message_at qs s i ≡ message_at rs s i =
      λ i h. at_other_number rs r s i (λ q. absurd (omega arith)) in
      let at : message_at qs s r.n ≡ Some r.message =
      at_its_number rs r (from.none_above r.n (omega arith)) in
      let at' : message_at qs s (suc start.posted) ≡ Some r.message =
      ap (message_at qs s) (sym k) ∙ at in
      let before : unbroken signs qs s start.posted ≡ true =
      unbroken_same signs rs qs s start.posted same ∙ from.whole in
      let on : ends signs qs s start.posted ≡ false =
      ends_same signs rs qs s start.posted same ∙ (sym from.sign ∙ off) in
      let whole : unbroken signs qs s (suc start.posted) ≡ true = rw (before, at', on) refl in
      record {
        whole = ap (unbroken signs qs s) k ∙ whole;
        sign = sym (ap (ends signs qs s) k ∙ ap (stops signs) at');
        none_above = λ i h. at_other_number rs r s i (λ q. absurd (omega arith)) ∙ from.none_above i
            (omega arith);
      }
