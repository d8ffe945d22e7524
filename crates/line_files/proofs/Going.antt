-- How far the messages of a station go, found number by number.
use Rattle.std.proofs.Common.{◌≡◌, ℕ, suc, ◌+◌, Bool, true, false, List, Some, None, refl, ap, ◌∙◌}
use Rattle.std.proofs.Common.{arith, subst, sym}
use Rattle.station_core.specs.Runs.{Arrived, message_at, stops, ends, unbroken, ready, is_signed}
use Rattle.station_core.proofs.RunLemmas.{ready_is, stops_at_missing, stops_at_sign_off}

module _ {M : Type 0} (signs : M → Bool) (them : List (Arrived M)) (s : ℕ) where
  -- numbers 1 to n are there, and none is a sign-off
  pub record GoesTo (n : ℕ) : Type 0 where
    pub whole : unbroken signs them s n ≡ true
    pub goes_on : ends signs them s n ≡ false

  -- the messages go to number n, which is a sign-off or not
  pub record Stops (n : ℕ) (signed : Bool) : Type 0 where
    pub last : ready signs them s ≡ n
    pub sign : is_signed signs them s ≡ signed

  pub goes_to_none : GoesTo 0
  goes_to_none = record { whole = refl; goes_on = refl }

  one_more : (n : ℕ) (m : M) → GoesTo n → message_at them s (suc n) ≡ Some m
      → unbroken signs them s (suc n) ≡ true
  one_more n m goes at = let whole = goes.whole in let goes_on = goes.goes_on in
      rw (whole, goes_on, at) refl

  next_ends : (n : ℕ) (m : M) → message_at them s (suc n) ≡ Some m
      → ends signs them s (suc n) ≡ signs m
  next_ends n m at = ap (stops signs) at

  next : (n : ℕ) → n + 1 ≡ suc n
  next n = omega arith

  pub goes_more : (n : ℕ) (m : M) → GoesTo n → message_at them s (n + 1) ≡ Some m
      → signs m ≡ false → GoesTo (n + 1)
  goes_more n m goes at unsigned =
      let at' = subst (λ k. message_at them s k ≡ Some m) (next n) at in
      subst GoesTo (sym (next n)) (record {
        whole = one_more n m goes at';
        goes_on = next_ends n m at' ∙ unsigned;
      })

  stopped : (n : ℕ) → unbroken signs them s n ≡ true → unbroken signs them s (suc n) ≡ false
      → Stops n (ends signs them s n)
  stopped n on off = let last = ready_is signs them s n on off in
      record { last = last; sign = ap (ends signs them s) last }

  pub stops_missing : (n : ℕ) → GoesTo n → message_at them s (n + 1) ≡ None → Stops n false
  stops_missing n goes at =
      let at' = subst (λ k. message_at them s k ≡ None) (next n) at in
      subst (Stops n) goes.goes_on
      (stopped n goes.whole (stops_at_missing signs them s n at'))

  pub stops_signed : (n : ℕ) (m : M) → GoesTo n → message_at them s (n + 1) ≡ Some m
      → signs m ≡ true → Stops (n + 1) true
  stops_signed n m goes at sign =
      let at' = subst (λ k. message_at them s k ≡ Some m) (next n) at in
      let ended = next_ends n m at' ∙ sign in
      subst (λ k. Stops k true) (sym (next n))
      (subst (Stops (suc n)) ended
      (stopped (suc n) (one_more n m goes at') (stops_at_sign_off signs them s (suc n) ended)))
