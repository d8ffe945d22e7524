-- Defines how a series agrees with the list of all messages taken: between arrivals, and while
-- messages come due one by one.
use Rattle.std.specs.Prelude.{◌≡◌, ◌≢◌, ℕ, ◌+◌, ◌<◌, Bool, true, false, List, length, slice_get}
use Rattle.std.specs.Prelude.{Some, None}
use Rattle.station_core.specs.declared.Start.{Start}
use Rattle.station_core.specs.Series.{Series, window, slot_at, series_at}
use Rattle.station_core.specs.Runs.{Arrived, message_at, ends, unbroken, ready, is_signed}

module _ {M : Type 0} where
  -- Each slot holds the message taken under its number, and none was taken above the window.
  pub record HoldsAbove (taken : List (Arrived M)) (s : ℕ) (q : Series M) : Type 0 where
    pub inside : (i : ℕ) → i < window → slot_at q.slots i ≡ message_at taken s (q.posted + (i + 1))
    pub above : (n : ℕ) → q.posted + window < n → message_at taken s n ≡ None

  -- Between arrivals: the series has posted the ready messages. Until the sign-off is posted it
  -- holds the later messages that were taken; after it, none.
  pub record Matches (signs : M → Bool) (taken : List (Arrived M)) (s : ℕ)
      (q : Series M) : Type 0 where
    pub count : q.posted ≡ ready signs taken s
    pub sign : q.signed ≡ is_signed signs taken s
    pub width : length q.slots ≡ window
    pub held : q.signed ≡ false → HoldsAbove taken s q
    pub empty : q.signed ≡ true → (i : ℕ) → slot_at q.slots i ≡ None

  -- While messages come due: those posted are unbroken and have no sign-off, and the rest is held.
  pub record Pending (signs : M → Bool) (taken : List (Arrived M)) (s : ℕ)
      (q : Series M) : Type 0 where
    pub whole : unbroken signs taken s q.posted ≡ true
    pub goes_on : ends signs taken s q.posted ≡ false
    pub sign : q.signed ≡ false
    pub width : length q.slots ≡ window
    pub held : HoldsAbove taken s q

  -- The sign-off came due last. Nothing held above it will be posted, and `sign_off` drops it.
  pub record Ending (signs : M → Bool) (taken : List (Arrived M)) (s : ℕ)
      (q : Series M) : Type 0 where
    pub whole : unbroken signs taken s q.posted ≡ true
    pub ended : ends signs taken s q.posted ≡ true
    pub width : length q.slots ≡ window

  -- A station may start from these posted messages: they are unbroken, and none was taken above.
  pub record StartsFrom (signs : M → Bool) (taken : List (Arrived M)) (s : ℕ)
      (start : Start) : Type 0 where
    pub whole : unbroken signs taken s start.posted ≡ true
    pub sign : start.signed ≡ ends signs taken s start.posted
    pub none_above : (n : ℕ) → start.posted < n → message_at taken s n ≡ None

  -- All stations may start from the list.
  pub record AllStart (signs : M → Bool) (taken : List (Arrived M))
      (starts : List Start) : Type 0 where
    pub each : (s : ℕ) (start : Start) → slice_get starts s ≡ Some start
        → StartsFrom signs taken s start

  -- Every station agrees with the list.
  pub record AllMatch (signs : M → Bool) (taken : List (Arrived M))
      (all : List (Series M)) : Type 0 where
    pub each : (s : ℕ) → s < length all → Matches signs taken s (series_at all s)

  -- Messages of station s come due; the other stations agree with the list.
  pub record IsPosting (signs : M → Bool) (taken : List (Arrived M)) (s : ℕ)
      (all : List (Series M)) : Type 0 where
    pub within : s < length all
    pub here : Pending signs taken s (series_at all s)
    pub others : (t : ℕ) → t < length all → t ≢ s → Matches signs taken t (series_at all t)

  -- The sign-off of station s came due last; the other stations agree with the list.
  pub record IsEnding (signs : M → Bool) (taken : List (Arrived M)) (s : ℕ)
      (all : List (Series M)) : Type 0 where
    pub within : s < length all
    pub here : Ending signs taken s (series_at all s)
    pub others : (t : ℕ) → t < length all → t ≢ s → Matches signs taken t (series_at all t)

  -- Message m comes due: it was taken as number n of station s, which then goes on, or ends if m is
  -- a sign-off.
  pub record ComesDue (signs : M → Bool) (taken : List (Arrived M)) (s n : ℕ) (m : M)
      (all : List (Series M)) : Type 0 where
    pub message : message_at taken s n ≡ Some m
    pub goes_on : signs m ≡ false → IsPosting signs taken s all
    pub ends : signs m ≡ true → IsEnding signs taken s all
