-- The next number of a station is posted at once.
use Rattle.std.proofs.Common.{◌≡◌, ℕ, suc, ◌+◌, ◌-◌, ◌<◌, ◌≤◌, ◌==◌, ◌&&◌, Bool, true, false, List}
use Rattle.std.proofs.Common.{[], ◌∷◌, ◌++◌, Option, None, Some, length, refl, sym, subst, ◌∙◌}
use Rattle.std.proofs.Common.{arith, ⊎_elim, true≢false, length-append, is_some, not, nat_le}
use Rattle.std.proofs.Common.{nat_lt, fold}
use Rattle.std.proofs.lemmas.Bool.{cases_lt}
use Rattle.std.proofs.lemmas.Bool.Decides.{nat_tests}
use Rattle.nest_core.specs.Museum.{Museum}
use Rattle.posting_core.specs.Messages.{is_sign_off}
use Rattle.posting_core.specs.declared.entry.Entry.{Entry}
use Rattle.posting_core.specs.declared.message.Message.{Message}
use Rattle.station_core.specs.declared.TheConstants.{LAST}
use Rattle.station_core.specs.Runs.{Arrived, arrived, due, ends, is_signed, message_at}
use Rattle.station_core.specs.Runs.{numbered, ready, refusal, unbroken}
use Rattle.station_core.specs.Series.{window}
use Rattle.station_core.proofs.BoolLemmas.{down}
use Rattle.station_core.proofs.RunLemmas.{at_its_number, at_other_number, ends_same, ready_fails}
use Rattle.station_core.proofs.RunLemmas.{ready_holds, unbroken_down, unbroken_found, unbroken_same}
use Rattle.hub_core.specs.declared.hub.answer.Answer.TheVariants.{Posted}
use Rattle.hub_core.specs.declared.hub.answer.Arrival.{Arrival}
use Rattle.hub_core.specs.Points.{point, post, reply}
use Rattle.desk_core.specs.Sent.{own_arrival}

none_there : {M : Type 0} (whole : Bool) (o : Option M) (ended : Bool) → whole ≡ true
    → ended ≡ false → (whole && (is_some o && not ended)) ≡ false → o ≡ None
none_there whole None ended w e h = refl
none_there whole (Some m) ended w e h = absurd (true≢false (rw (w, e) at h))

one_number : {M : Type 0} (s n : ℕ) (o : Option M) → is_some o ≡ true
    → length (numbered s n o) ≡ 1
one_number s n None h = absurd (true≢false (sym h))
one_number s n (Some m) h = refl

module _ {M : Type 0} (signs : M → Bool) (rs : List (Arrived M)) (s : ℕ) (m : M)
    (goes : is_signed signs rs s ≡ false) where
  abbrev k : ℕ
  k = ready signs rs s

  abbrev next : Arrived M
  next = arrived s (suc k) m

  abbrev qs : List (Arrived M)
  qs = rs ++ next ∷ []

  -- the next number was not taken
  pub free : message_at rs s (suc k) ≡ None
  free = none_there (unbroken signs rs s k) (message_at rs s (suc k)) (ends signs rs s k)
      (ready_holds signs rs s) goes (ready_fails signs rs s)

  same : (n : ℕ) → n ≤ k → message_at qs s n ≡ message_at rs s n
  same n h = at_other_number rs next s n (λ e. absurd (omega (arith, e, h)))

  goes_on : unbroken signs qs s (suc k) ≡ true
  goes_on =
      rw (
        unbroken_same signs rs qs s k same ∙ ready_holds signs rs s,
        at_its_number rs next free,
        ends_same signs rs qs s k same ∙ goes,
      ) refl

  -- it is ready once it is taken
  pub longer : suc k ≤ ready signs qs s
  longer = ⊎_elim
      (λ lt.
      let e : suc k ≡ suc (ready signs qs s) + (suc k - suc (ready signs qs s)) =
      omega (arith, lt) in
      let on : unbroken signs qs s (suc (ready signs qs s)) ≡ true =
      down (unbroken signs qs s) (unbroken_down signs qs s) (suc (ready signs qs s))
      (suc k - suc (ready signs qs s)) (subst (λ n. unbroken signs qs s n ≡ true) e goes_on) in
      absurd (true≢false (sym on ∙ ready_fails signs qs s)))
      (λ ge. ge)
      (cases_lt (ready signs qs s) (suc k))

  some_due : (d : ℕ) → ready signs qs s ≡ suc (k + d) → 1 ≤ length (due qs s k (suc d))
  some_due d e =
      let at : suc (k + d) ≡ k + suc d = omega arith in
      let on : unbroken signs qs s (suc (k + d)) ≡ true =
      subst (λ n. unbroken signs qs s n ≡ true) e (ready_holds signs qs s) in
      let there : is_some (message_at qs s (k + suc d)) ≡ true =
      subst (λ n. is_some (message_at qs s n) ≡ true) at (unbroken_found signs qs s (k + d) on) in
      let one = one_number s (k + suc d) (message_at qs s (k + suc d)) there in
      let all = length-append (due qs s k d)
      (numbered s (k + suc d) (message_at qs s (k + suc d))) in
      omega (arith, one, all)

  -- something comes due
  pub is_due : 1 ≤ length (due qs s k (ready signs qs s - k))
  is_due =
      let more = longer in
      let d : ℕ = ready signs qs s - suc k in
      let e : ready signs qs s ≡ suc (k + d) = omega (arith, more) in
      let same_count : suc d ≡ ready signs qs s - k = omega (arith, more) in
      subst (λ n. 1 ≤ length (due qs s k n)) same_count (some_due d e)

count_posted : (S : Museum) (depth : ℕ) (P : List Entry) (rs : List (Arrived Message))
    → length (fold (post S depth) P rs) ≡ length P + length rs
count_posted S depth P [] = omega arith
count_posted S depth P (r ∷ rs) =
    let more = count_posted S depth (post S depth P r) rs in omega (arith, more)

some_window : 1 ≤ window
unfolding window
some_window = omega arith

module _ (S : Museum) (depth : ℕ) (O : List Entry) (A : List Arrival) (s : ℕ) (m : Message)
    (known : s < length S.stations)
    (goes : is_signed is_sign_off (point S depth O A).taken s ≡ false)
    (few : ready is_sign_off (point S depth O A).taken s < LAST) where
  abbrev taken : List (Arrived Message)
  taken = (point S depth O A).taken

  abbrev last : ℕ
  last = ready is_sign_off taken s

  not_refused : refusal is_sign_off (length S.stations) taken s (last + 1) ≡ None
  not_refused =
      let there : nat_le (length S.stations) s ≡ false = grind (arith, nat_tests) in
      let some : (last + 1 == 0) ≡ false = grind (arith, nat_tests) in
      let small : nat_lt LAST (last + 1) ≡ false = grind (arith, nat_tests) in
      let new : nat_le (last + 1) last ≡ false = grind (arith, nat_tests) in
      let one : last + 1 ≡ suc last = omega arith in
      let near : nat_lt (last + window) (last + 1) ≡ false =
      (let wide = some_window in grind (arith, nat_tests)) in
      let none : message_at taken s (last + 1) ≡ None =
      rw one (free is_sign_off taken s m goes) in
      rw (there, some, small, new, goes, none, near) refl

  abbrev after : List (Arrived Message)
  after = taken ++ arrived s (last + 1) m ∷ []

  now_due : 1 ≤ length (due after s last (ready is_sign_off after s - last))
  now_due =
      let one : last + 1 ≡ suc last = omega arith in
      rw one (is_due is_sign_off taken s m goes)

  -- the message of a desk is posted
  pub own_posted : (first : ℕ) × (end : ℕ)
      × (reply S depth O A (own_arrival S depth O A s m) ≡ Posted first end)
  own_posted =
      let P = (point S depth O A).posted in
      let come = due after s last (ready is_sign_off after s - last) in
      let count = count_posted S depth P come in
      let differs : (length P == length (fold (post S depth) P come)) ≡ false =
      (let some = now_due in grind (arith, nat_tests)) in (
        length P + 1,
        length (fold (post S depth) P come),
        rw (not_refused, differs) refl,
      )
