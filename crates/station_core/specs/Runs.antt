-- Defines hold-back on the list of all messages taken, read from its beginning each time. This is
-- the plain meaning; a `Series` keeps only the messages that are still needed.
use Rattle.std.specs.Prelude.{ℕ, ◌+◌, ◌==◌, ◌||◌, ◌&&◌, not, nat_lt, nat_le, max, Bool, true, false}
use Rattle.std.specs.Prelude.{if◌then◌else◌, List, [], ◌∷◌, ◌++◌, Option, Some, None, is_some}
use Rattle.std.specs.Prelude.{is_none, zero, suc}
use Rattle.station_core.specs.declared.TheConstants.{LAST}
use Rattle.station_core.specs.declared.Refusal.{Refusal}
use Rattle.station_core.specs.declared.Refusal.TheVariants.{UnknownStation, BadNumber, Double}
use Rattle.station_core.specs.declared.Refusal.TheVariants.{SignedOff, TooEarly}
use Rattle.station_core.specs.Series.{window}

-- A message with its station and its number.
pub record Arrived (M : Type 0) : Type 0 where
  pub station : ℕ
  pub n : ℕ
  pub message : M

-- The greatest number up to n that passes the test, or 0.
abbrev pub greatest : (ℕ → Bool) → ℕ → ℕ
greatest p zero = zero
greatest p (suc n) = if p (suc n) then suc n else greatest p n

module _ {M : Type 0} where
  -- A message by its three fields.
  abbrev pub arrived : ℕ → ℕ → M → Arrived M
  arrived s n m = record { station = s; n = n; message = m }

  -- The message is number n of station s.
  abbrev pub is_number : ℕ → ℕ → Arrived M → Bool
  is_number s n r = (r.station == s) && (r.n == n)

  -- The message taken as number n of station s.
  abbrev pub message_at : List (Arrived M) → ℕ → ℕ → Option M
  message_at [] s n = None
  message_at (r ∷ rs) s n = if is_number s n r then Some r.message else message_at rs s n

  -- The highest number of any station.
  abbrev pub highest : List (Arrived M) → ℕ
  highest [] = 0
  highest (r ∷ rs) = max r.n (highest rs)

  -- There is a message, and it is a sign-off.
  abbrev pub stops : (M → Bool) → Option M → Bool
  stops signs None = false
  stops signs (Some m) = signs m

  -- Number k of station s is a sign-off.
  abbrev pub ends : (M → Bool) → List (Arrived M) → ℕ → ℕ → Bool
  ends signs taken s zero = false
  ends signs taken s (suc k) = stops signs (message_at taken s (suc k))

  -- Numbers 1 to k of station s were all taken, and none of 1 to k - 1 is a sign-off.
  abbrev pub unbroken : (M → Bool) → List (Arrived M) → ℕ → ℕ → Bool
  unbroken signs taken s zero = true
  unbroken signs taken s (suc k) =
      unbroken signs taken s k
      && (is_some (message_at taken s (suc k)) && not (ends signs taken s k))

  -- The number of posted messages of station s: the length of its longest unbroken prefix.
  abbrev pub ready : (M → Bool) → List (Arrived M) → ℕ → ℕ
  ready signs taken s = greatest (unbroken signs taken s) (highest taken)

  -- The last posted message of station s is a sign-off.
  abbrev pub is_signed : (M → Bool) → List (Arrived M) → ℕ → Bool
  is_signed signs taken s = ends signs taken s (ready signs taken s)

  -- The number is posted. Before the sign-off is posted, a number that is held is a double, too;
  -- afterwards the messages held above it no longer count.
  abbrev pub is_double : (M → Bool) → List (Arrived M) → ℕ → ℕ → Bool
  is_double signs taken s n =
      nat_le n (ready signs taken s)
      || (not (is_signed signs taken s) && is_some (message_at taken s n))

  -- The first refusal that holds for number n of station s, with this many stations:
  -- UnknownStation, BadNumber, Double, SignedOff, TooEarly.
  abbrev pub refusal : (M → Bool) → ℕ → List (Arrived M) → ℕ → ℕ → Option Refusal
  refusal signs stations taken s n =
      if nat_le stations s then Some UnknownStation
      else (if (n == 0) || nat_lt LAST n then Some BadNumber
      else (if is_double signs taken s n then Some Double
      else (if is_signed signs taken s then Some SignedOff
      else (if nat_lt (ready signs taken s + window) n then Some TooEarly else None))))

  -- The list after one more arrival, which is added unless it is refused.
  abbrev pub taken_after : (M → Bool) → ℕ → List (Arrived M) → Arrived M → List (Arrived M)
  taken_after signs stations taken r =
      if is_none (refusal signs stations taken r.station r.n) then taken ++ r ∷ [] else taken

  -- Message n of station s as a list of one, or empty if there is none.
  abbrev pub numbered : ℕ → ℕ → Option M → List (Arrived M)
  numbered s n None = []
  numbered s n (Some m) = arrived s n m ∷ []

  -- Messages k + 1 to k + d of station s, in order.
  abbrev pub due : List (Arrived M) → ℕ → ℕ → ℕ → List (Arrived M)
  due taken s k zero = []
  due taken s k (suc d) = due taken s k d ++ numbered s (k + suc d) (message_at taken s (k + suc d))

  -- The posted messages of station s, in order.
  abbrev pub run : (M → Bool) → List (Arrived M) → ℕ → List (Arrived M)
  run signs taken s = due taken s 0 (ready signs taken s)
