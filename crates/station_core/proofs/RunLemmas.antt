-- Lemmas on numbers in a list of taken messages.
use Rattle.std.proofs.Common.{◌≡◌, ◌≢◌, ℕ, zero, suc, ◌+◌, ◌-◌, ◌≤◌, ◌&&◌, ◌==◌, not, max, Bool}
use Rattle.std.proofs.Common.{true, false, if◌then◌else◌, List, [], ◌∷◌, ◌++◌, Option, Some, None}
use Rattle.std.proofs.Common.{is_some, refl, ap, ◌∙◌, arith, ⊎_elim, add-zero, add-suc, append-nil}
use Rattle.std.proofs.Common.{append_assoc, add_assoc}
use Rattle.std.proofs.lemmas.Bool.{cases_lt, and_parts, and_from, false_from_ne_true}
use Rattle.std.proofs.lemmas.Bool.Decides.{nat_tests}
use Rattle.station_core.specs.Runs.{Arrived, arrived, is_number, message_at, stops, ends, unbroken}
use Rattle.station_core.specs.Runs.{highest, ready, due}
use Rattle.station_core.proofs.BoolLemmas.{ended_test, greatest_holds, greatest_fails, greatest_is}

module _ {M : Type 0} where
  -- another number after one more arrival
  message_at_other : (rs : List (Arrived M)) (r : Arrived M) (s n : ℕ) → is_number s n r ≡ false
      → message_at (rs ++ r ∷ []) s n ≡ message_at rs s n
  message_at_other [] r s n h = rw h refl
  message_at_other (x ∷ rs) r s n h =
      ap (λ (o : Option M). if is_number s n x then Some x.message else o)
      (message_at_other rs r s n h)

  number_apart : (s n : ℕ) (r : Arrived M) → r.n ≢ n → is_number s n r ≡ false
  number_apart s n r h = false_from_ne_true (is_number s n r)
      (λ e. let q : (r.n == n) ≡ true = (and_parts (r.station == s) (r.n == n) e).1 in h
      (grind (arith, nat_tests)))

  station_apart : (s n : ℕ) (r : Arrived M) → r.station ≢ s → is_number s n r ≡ false
  station_apart s n r h = false_from_ne_true (is_number s n r)
      (λ e. let q : (r.station == s) ≡ true = (and_parts (r.station == s) (r.n == n) e).0 in h
      (grind (arith, nat_tests)))

  pub at_other_number : (rs : List (Arrived M)) (r : Arrived M) (s n : ℕ) → r.n ≢ n
      → message_at (rs ++ r ∷ []) s n ≡ message_at rs s n
  at_other_number rs r s n h = message_at_other rs r s n (number_apart s n r h)

  pub at_other_station : (rs : List (Arrived M)) (r : Arrived M) (s n : ℕ) → r.station ≢ s
      → message_at (rs ++ r ∷ []) s n ≡ message_at rs s n
  at_other_station rs r s n h = message_at_other rs r s n (station_apart s n r h)

  -- a later message under the same number changes nothing
  either_kept : (b : Bool) (a o o' : Option M) (m : M) → (o ≡ Some m → o' ≡ Some m)
      → (if b then a else o) ≡ Some m → (if b then a else o') ≡ Some m
  either_kept true a o o' m f h = h
  either_kept false a o o' m f h = f h

  pub message_at_kept : (rs : List (Arrived M)) (r : Arrived M) (s n : ℕ) (m : M)
      → message_at rs s n ≡ Some m → message_at (rs ++ r ∷ []) s n ≡ Some m
  message_at_kept [] r s n m h = absurd (cc)
  message_at_kept (x ∷ rs) r s n m h =
      either_kept (is_number s n x) (Some x.message) (message_at rs s n)
      (message_at (rs ++ r ∷ []) s n) m (message_at_kept rs r s n m) h

  -- the arrival's own number, if it was free
  either_none : (b : Bool) (x : M) (o o' : Option M) (m : M) → (o ≡ None → o' ≡ Some m)
      → (if b then Some x else o) ≡ None → (if b then Some x else o') ≡ Some m
  either_none true x o o' m f h = absurd (cc)
  either_none false x o o' m f h = f h

  message_at_new : (rs : List (Arrived M)) (r : Arrived M) (s n : ℕ) → message_at rs s n ≡ None
      → is_number s n r ≡ true → message_at (rs ++ r ∷ []) s n ≡ Some r.message
  message_at_new [] r s n h e = rw e refl
  message_at_new (x ∷ rs) r s n h e =
      either_none (is_number s n x) x.message (message_at rs s n) (message_at (rs ++ r ∷ []) s n)
      r.message (λ none. message_at_new rs r s n none e) h

  pub at_its_number : (rs : List (Arrived M)) (r : Arrived M) → message_at rs r.station r.n ≡ None
      → message_at (rs ++ r ∷ []) r.station r.n ≡ Some r.message
  at_its_number rs r h = message_at_new rs r r.station r.n h
      (and_from (r.station == r.station) (r.n == r.n) (grind (arith, nat_tests))
      (grind (arith, nat_tests)))

  -- no number that was taken is above the highest
  highest_step : (b : Bool) (m : M) (o : Option M) (n k h : ℕ) → (b ≡ true → n ≤ k)
      → (is_some o ≡ true → n ≤ h) → is_some (if b then Some m else o) ≡ true → n ≤ max k h
  highest_step true m o n k h f g e = let q = f refl in omega arith
  highest_step false m o n k h f g e = let q = g e in omega arith

  pub highest_bound : (rs : List (Arrived M)) (s n : ℕ) → is_some (message_at rs s n) ≡ true
      → n ≤ highest rs
  highest_bound [] s n h = absurd (cc)
  highest_bound (r ∷ rs) s n h =
      highest_step (is_number s n r) r.message (message_at rs s n) n r.n (highest rs)
      (λ e. let q : (r.n == n) ≡ true = (and_parts (r.station == s) (r.n == n) e).1 in grind
      (arith, nat_tests)) (highest_bound rs s n) h

  -- an unbroken run, one message shorter
  pub unbroken_down : (signs : M → Bool) (rs : List (Arrived M)) (s j : ℕ)
      → unbroken signs rs s (suc j) ≡ true → unbroken signs rs s j ≡ true
  unbroken_down signs rs s j h =
      (and_parts (unbroken signs rs s j)
      (is_some (message_at rs s (suc j)) && not (ends signs rs s j)) h).0

  pub unbroken_found : (signs : M → Bool) (rs : List (Arrived M)) (s j : ℕ)
      → unbroken signs rs s (suc j) ≡ true → is_some (message_at rs s (suc j)) ≡ true
  unbroken_found signs rs s j h =
      let last =
      (and_parts (unbroken signs rs s j)
      (is_some (message_at rs s (suc j)) && not (ends signs rs s j)) h).1 in
      (and_parts (is_some (message_at rs s (suc j))) (not (ends signs rs s j)) last).0

  bound_of : (signs : M → Bool) (rs : List (Arrived M)) (s k : ℕ) → unbroken signs rs s k ≡ true
      → k ≤ highest rs
  bound_of signs rs s zero h = omega arith
  bound_of signs rs s (suc k) h = highest_bound rs s (suc k) (unbroken_found signs rs s k h)

  -- the ready count is determined by the two numbers around it
  pub ready_is : (signs : M → Bool) (rs : List (Arrived M)) (s k : ℕ) → unbroken signs rs s k ≡ true
      → unbroken signs rs s (suc k) ≡ false → ready signs rs s ≡ k
  ready_is signs rs s k on off =
      greatest_is (unbroken signs rs s) (highest rs) k (unbroken_down signs rs s) refl on off
      (bound_of signs rs s k on)

  pub ready_holds : (signs : M → Bool) (rs : List (Arrived M)) (s : ℕ)
      → unbroken signs rs s (ready signs rs s) ≡ true
  ready_holds signs rs s = greatest_holds (unbroken signs rs s) (highest rs) refl

  pub ready_fails : (signs : M → Bool) (rs : List (Arrived M)) (s : ℕ)
      → unbroken signs rs s (suc (ready signs rs s)) ≡ false
  ready_fails signs rs s =
      ⊎_elim (greatest_fails (unbroken signs rs s) (highest rs))
      (λ ge. false_from_ne_true (unbroken signs rs s (suc (ready signs rs s)))
      (λ on. let h = bound_of signs rs s (suc (ready signs rs s)) on in (omega arith)))
      (cases_lt (ready signs rs s) (highest rs))

  -- a run stops at a sign-off, and at a missing number
  pub stops_at_sign_off : (signs : M → Bool) (rs : List (Arrived M)) (s j : ℕ)
      → ends signs rs s j ≡ true → unbroken signs rs s (suc j) ≡ false
  stops_at_sign_off signs rs s j h =
      ended_test (unbroken signs rs s j) (is_some (message_at rs s (suc j))) (ends signs rs s j) h

  missing_test : (a : Bool) (o : Option M) (e : Bool) → o ≡ None
      → (a && (is_some o && not e)) ≡ false
  missing_test false o e h = refl
  missing_test true o e h = rw h refl

  pub stops_at_missing : (signs : M → Bool) (rs : List (Arrived M)) (s j : ℕ)
      → message_at rs s (suc j) ≡ None → unbroken signs rs s (suc j) ≡ false
  stops_at_missing signs rs s j h =
      missing_test (unbroken signs rs s j) (message_at rs s (suc j)) (ends signs rs s j) h

  -- two lists that agree on a station up to a number
  pub ends_same : (signs : M → Bool) (rs qs : List (Arrived M)) (s k : ℕ)
      → ((n : ℕ) → n ≤ k → message_at qs s n ≡ message_at rs s n)
      → ends signs qs s k ≡ ends signs rs s k
  ends_same signs rs qs s zero f = refl
  ends_same signs rs qs s (suc k) f = ap (stops signs) (f (suc k) (omega arith))

  pub unbroken_same : (signs : M → Bool) (rs qs : List (Arrived M)) (s k : ℕ)
      → ((n : ℕ) → n ≤ k → message_at qs s n ≡ message_at rs s n)
      → unbroken signs qs s k ≡ unbroken signs rs s k
  unbroken_same signs rs qs s zero f = refl
  unbroken_same signs rs qs s (suc k) f =
      rw (
        unbroken_same signs rs qs s k (λ n h. f n (omega arith)),
        f (suc k) (omega arith),
        ends_same signs rs qs s k (λ n h. f n (omega arith)),
      ) refl

  pub ready_same : (signs : M → Bool) (rs qs : List (Arrived M)) (s : ℕ)
      → ((n : ℕ) → n ≤ suc (ready signs rs s) → message_at qs s n ≡ message_at rs s n)
      → ready signs qs s ≡ ready signs rs s
  ready_same signs rs qs s f =
      ready_is signs qs s (ready signs rs s)
      (unbroken_same signs rs qs s (ready signs rs s) (λ n h. f n (omega arith))
      ∙ ready_holds signs rs s)
      (unbroken_same signs rs qs s (suc (ready signs rs s)) f ∙ ready_fails signs rs s)

  pub due_same : (rs qs : List (Arrived M)) (s k d : ℕ)
      → ((n : ℕ) → n ≤ k + d → message_at qs s n ≡ message_at rs s n) → due qs s k d ≡ due rs s k d
  due_same rs qs s k zero f = refl
  due_same rs qs s k (suc d) f =
      rw (due_same rs qs s k d (λ n h. f n (omega arith)), f (k + suc d) (omega arith)) refl

  -- the due messages, in two parts
  pub due_split : (rs : List (Arrived M)) (s k d e : ℕ)
      → due rs s k (d + e) ≡ due rs s k d ++ due rs s (k + d) e
  due_split rs s k d zero = rw (add-zero, append-nil) refl
  due_split rs s k d (suc e) = rw (
    add-suc d e,
    due_split rs s k d e,
    append_assoc,
    add_assoc,
    add-suc d e,
  ) refl

  -- the due messages, with one more
  pub due_next : (rs : List (Arrived M)) (s k j : ℕ) (m : M) → k ≤ j
      → message_at rs s (suc j) ≡ Some m
      → due rs s k (suc j - k) ≡ due rs s k (j - k) ++ arrived s (suc j) m ∷ []
  due_next rs s k j m le at =
      let e : suc j - k ≡ suc (j - k) = omega arith in
      let n : k + suc (j - k) ≡ suc j = omega arith in
      rw (e, n, at) refl
