-- Worked rows of the definitions. A message is a number, and 9 signs off.
use Rattle.std.proofs.Common.{◌≡◌, ℕ, ◌==◌, Bool, true, false, List, [], ◌∷◌, Some, None, refl}
use Rattle.std.proofs.Common.{subst, slice_get, zero, suc}
use Rattle.std.specs.Prelude.{map}
use Rattle.station_core.specs.declared.Refusal.TheVariants.{UnknownStation, BadNumber, Double}
use Rattle.station_core.specs.declared.Refusal.TheVariants.{SignedOff, TooEarly}
use Rattle.station_core.specs.declared.Start.{Start}
use Rattle.station_core.specs.declared.TheConstants.{LAST}
use Rattle.station_core.specs.Series.{window, series, opened, held_count}
use Rattle.station_core.specs.Runs.{Arrived, arrived, message_at, ready, is_signed, refusal}
use Rattle.station_core.specs.Runs.{taken_after, due, run}
use Rattle.station_core.specs.Progress.{AllMatch, StartsFrom}
use Rattle.station_core.proofs.StationLemmas.{all_opened}
use Rattle.station_core.proofs.GrowLemmas.{starts_empty}

abbrev signs : ℕ → Bool
signs m = m == 9

abbrev sent : ℕ → ℕ → ℕ → Arrived ℕ
sent = arrived

-- station 0 sends these numbers in this order
abbrev sends : List ℕ → List (Arrived ℕ)
sends [] = []
sends (n ∷ ns) = sent 0 n n ∷ sends ns

window_of_256 : window ≡ 256
unfolding window
window_of_256 = refl

last_of_999999 : LAST ≡ 999999
last_of_999999 = refl

-- held, then posted: 3, 2, 1 arrive
held_while_1_is_missing : ready signs (sends (3 ∷ 2 ∷ [])) 0 ≡ 0
held_while_1_is_missing = refl

then_posted : ready signs (sends (3 ∷ 2 ∷ 1 ∷ [])) 0 ≡ 3
then_posted = refl

in_order : run signs (sends (3 ∷ 2 ∷ 1 ∷ [])) 0 ≡ sent 0 1 1 ∷ sent 0 2 2 ∷ sent 0 3 3 ∷ []
in_order = refl

-- 2 and 3 come due after 1, and another station's 2 doesn't
due_behind_1 : due (sent 0 3 3 ∷ sent 0 2 2 ∷ sent 1 2 7 ∷ sent 0 1 1 ∷ []) 0 0 3 ≡ sent 0 1 1
    ∷ sent 0 2 2 ∷ sent 0 3 3 ∷ []
due_behind_1 = refl

other_station : ready signs (sends (3 ∷ 2 ∷ 1 ∷ [])) 1 ≡ 0
other_station = refl

-- a double: the first message under a number counts
first_counts : message_at (sent 0 1 5 ∷ sent 0 1 6 ∷ []) 0 1 ≡ Some 5
first_counts = refl

posted_double : refusal signs 1 (sends (1 ∷ [])) 0 1 ≡ Some Double
posted_double = refl

held_double : refusal signs 1 (sends (3 ∷ [])) 0 3 ≡ Some Double
held_double = refl

double_is_not_taken : taken_after signs 1 (sent 0 1 5 ∷ []) (sent 0 1 6) ≡ sent 0 1 5 ∷ []
double_is_not_taken = refl

-- the window's edges
too_early : refusal signs 1 [] 0 257 ≡ Some TooEarly
unfolding window
too_early = refl

last_of_the_window : refusal signs 1 [] 0 256 ≡ None
unfolding window
last_of_the_window = refl

number_0 : refusal signs 1 [] 0 0 ≡ Some BadNumber
number_0 = refl

number_past_the_last : refusal signs 1 [] 0 1000000 ≡ Some BadNumber
number_past_the_last = refl

no_such_station : refusal signs 1 [] 1 1 ≡ Some UnknownStation
no_such_station = refl

-- a sign-off: 4 and 5 are held, then 1, 2 and the sign-off 3
abbrev signed_at_3 : List (Arrived ℕ)
signed_at_3 = sent 0 4 4 ∷ sent 0 5 5 ∷ sent 0 1 1 ∷ sent 0 2 2 ∷ sent 0 3 9 ∷ []

posted_up_to_it : ready signs signed_at_3 0 ≡ 3
posted_up_to_it = refl

is_signed_by_it : is_signed signs signed_at_3 0 ≡ true
is_signed_by_it = refl

run_up_to_it : run signs signed_at_3 0 ≡ sent 0 1 1 ∷ sent 0 2 2 ∷ sent 0 3 9 ∷ []
run_up_to_it = refl

given_up : refusal signs 1 signed_at_3 0 4 ≡ Some SignedOff
given_up = refl

sent_again : refusal signs 1 signed_at_3 0 2 ≡ Some Double
sent_again = refl

far_above : refusal signs 1 signed_at_3 0 68 ≡ Some SignedOff
far_above = refl

-- a sign-off that is held stops nothing yet
held_sign_off : is_signed signs (sent 0 1 1 ∷ sent 0 3 9 ∷ []) 0 ≡ false
held_sign_off = refl

-- 2 and 4 are held while 1 and 3 are missing
two_held : held_count {M = ℕ} (series 0 false (None ∷ Some 2 ∷ None ∷ Some 4 ∷ [])) ≡ 2
two_held = refl

-- a station with nothing posted holds nothing of an empty list
abbrev nothing : Start
nothing = record { posted = 0; signed = false }

may_start : (s : ℕ) (start : Start) → slice_get (nothing ∷ []) s ≡ Some start
    → StartsFrom signs [] s start
may_start zero start h =
    let e : nothing ≡ start = cc in
    subst (λ (x : Start). StartsFrom signs [] 0 x) e (starts_empty signs 0)
may_start (suc s) start h = absurd (cc)

nothing_posted : AllMatch signs [] (map opened (nothing ∷ []))
nothing_posted = all_opened signs [] (nothing ∷ []) (record { each = may_start })
