-- Defines which lists of entries can be posted: those in which each entry has the next number of
-- its station, and the verdict that the entries before it lead to.
use Rattle.std.specs.Prelude.{ℕ, ◌≡◌, ◌+◌, ◌<◌, ◌≤◌, ◌==◌, ◌&&◌, Bool, false, List, [], ◌∷◌, length}
use Rattle.std.specs.Prelude.{if◌then◌else◌}
use Rattle.std.specs.List.{list_any}
use Rattle.nest_core.specs.Museum.{Museum}
use Rattle.posting_core.specs.declared.TheConstants.{LAST_NUMBER}
use Rattle.posting_core.specs.declared.entry.Entry.{Entry}
use Rattle.posting_core.specs.Messages.{is_sign_off}
use Rattle.posting_core.specs.Verdicts.{verdict}

-- The number of entries of a station.
abbrev pub count_at : ℕ → List Entry → ℕ
count_at station [] = 0
count_at station (e ∷ P) = (if e.station == station then 1 else 0) + count_at station P

-- The station's sign-off is posted.
abbrev pub is_signed_off : ℕ → List Entry → Bool
is_signed_off station P = list_any (λ e. (e.station == station) && is_sign_off e.message) P

-- The entry may follow the entries P: its station is in the setup and has not signed off, its
-- number is the station's next, at most 999,999 (`LAST_NUMBER`), and its verdict is the one after
-- P.
pub record Follows (S : Museum) (depth : ℕ) (P : List Entry) (e : Entry) : Type 0 where
  pub known : e.station < length S.stations
  pub next : e.n ≡ count_at e.station P + 1
  pub few : e.n ≤ LAST_NUMBER
  pub unsigned : is_signed_off e.station P ≡ false
  pub judged : e.verdict ≡ verdict S depth P e.message

-- Each entry may follow those before it.
abbrev pub IsLawful : Museum → ℕ → List Entry → Type 0
IsLawful S depth [] = Unit {0}
IsLawful S depth (e ∷ P) = Follows S depth P e × IsLawful S depth P
