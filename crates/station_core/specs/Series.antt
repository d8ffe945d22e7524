-- Defines the view of a station: how many of its messages are posted, whether it has signed off,
-- and a window of the messages that are held back until the gap before them closes.
use Rattle.std.specs.Prelude.{◌≡◌, ℕ, ◌+◌, ◌-◌, ◌≤◌, ◌==◌, ◌||◌, nat_lt, nat_le, Bool, true, false}
use Rattle.std.specs.Prelude.{if◌then◌else◌, List, [], ◌∷◌, ◌++◌, length, drop, replicate}
use Rattle.std.specs.Prelude.{slice_get, slice_set, Option, Some, None, is_some, option_and_then}
use Rattle.std.specs.Prelude.{unwrap_or, count_by, refl}
use Rattle.std.specs.Coded.{Coded, code_by, coded×, coded_list, coded_option, coded_bool, coded_ℕ}
use Rattle.circular_buffer.specs.Buffer.{Buffer}
use Rattle.station_core.specs.declared.TheConstants.{WINDOW, LAST}
use Rattle.station_core.specs.declared.Refusal.{Refusal}
use Rattle.station_core.specs.declared.Refusal.TheVariants.{UnknownStation, BadNumber, Double}
use Rattle.station_core.specs.declared.Refusal.TheVariants.{SignedOff, TooEarly}
use Rattle.station_core.specs.declared.Start.{Start}

-- A station may send this many numbers, 256, above its posted messages. Defined apart from `WINDOW`
-- so that proofs need not unfold the number.
unfoldable pub window : ℕ
window = WINDOW

-- Messages 1 to `posted` are posted. `signed`: the last of them is a sign-off. Slot i holds message
-- posted + 1 + i, if it has arrived.
pub record Series (M : Type 0) : Type 0 where
  pub posted : ℕ
  pub signed : Bool
  pub slots : List (Option M)

module _ {M : Type 0} where
  -- A series by its three fields.
  abbrev pub series : ℕ → Bool → List (Option M) → Series M
  series k b xs = record { posted = k; signed = b; slots = xs }

  -- The code of a series: that of its three fields.
  abbrev pub series_code : Coded M → Coded (Series M)
  series_code c =
      code_by (ℕ × (Bool × List (Option M)))
      (coded× coded_ℕ (coded× coded_bool (coded_list (coded_option c))))
      (λ q. (q.posted, (q.signed, q.slots))) (λ p. series p.0 p.1.0 p.1.1) (λ _. refl)

  -- The message held in slot i.
  abbrev pub slot_at : List (Option M) → ℕ → Option M
  slot_at slots i = option_and_then (λ x. x) (slice_get slots i)

  -- The invariant of the ring: it has one place for each number of the window, nothing is held
  -- above the highest number that arrived, and neither count is above 999,999.
  pub record FitsWindow (posted highest : ℕ) (ring : Buffer (Option M)) : Type 0 where
    pub count : posted ≤ LAST
    pub last : highest ≤ LAST
    pub width : length ring.items ≡ window
    pub room : ring.capacity ≡ window
    pub none_above : (i : ℕ) → highest ≤ posted + i → slot_at ring.items i ≡ None

  -- The message held under the next number, in the first slot.
  abbrev pub next_held : Series M → Option M
  next_held q = slot_at q.slots 0

  -- The message held under number n.
  abbrev pub held_at : Series M → ℕ → Option M
  held_at q n = if nat_lt q.posted n then slot_at q.slots (n - q.posted - 1) else None

  -- The number of messages held.
  abbrev pub held_count : Series M → ℕ
  held_count q = count_by is_some q.slots

  -- The first refusal that holds for number n, at a known station: BadNumber, Double, SignedOff,
  -- TooEarly.
  abbrev pub refusal_at : Series M → ℕ → Option Refusal
  refusal_at q n =
      if (n == 0) || nat_lt LAST n then Some BadNumber
      else (if nat_le n q.posted || is_some (held_at q n) then Some Double
      else (if q.signed then Some SignedOff
      else (if nat_lt (q.posted + window) n then Some TooEarly else None)))

  -- The same for a station that may not exist, which is UnknownStation.
  abbrev pub refusal_in : Option (Series M) → ℕ → Option Refusal
  refusal_in None n = Some UnknownStation
  refusal_in (Some q) n = refusal_at q n

  -- The first refusal that holds for number n of station s.
  abbrev pub refusal_of : List (Series M) → ℕ → ℕ → Option Refusal
  refusal_of all s n = refusal_in (slice_get all s) n

  -- A station as it starts, with nothing held.
  abbrev pub opened : Start → Series M
  opened s = series s.posted s.signed (replicate window None)

  -- Message m is held under number n.
  abbrev pub with_held : Series M → ℕ → M → Series M
  with_held q n m = series q.posted q.signed (slice_set q.slots (n - q.posted - 1) (Some m))

  -- The next number is posted. The window moves up by one, and held messages stay held under their
  -- own numbers.
  abbrev pub counted : Series M → Series M
  counted q = series (q.posted + 1) q.signed (drop 1 q.slots ++ None ∷ [])

  -- The station has signed off, with nothing held.
  abbrev pub closed : Series M → Series M
  closed q = series q.posted true (replicate (length q.slots) None)

  -- The series of station s. One that doesn't exist has nothing posted.
  abbrev pub series_at : List (Series M) → ℕ → Series M
  series_at all s = unwrap_or (slice_get all s) (series 0 false [])
