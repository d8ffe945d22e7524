-- Defines why a store can't be opened with a setup, and the arrivals that an opened hub stands for.
use Rattle.std.specs.Prelude.{ℕ, ◌≡◌, ◌⊎◌, ◌+◌, ◌==◌, ◌&&◌, nat_le, not, All, Bool, true, false}
use Rattle.std.specs.Prelude.{List, [], ◌∷◌, ◌++◌, length, map, reverse, Option, Some, None, Err}
use Rattle.nest_core.specs.Museum.{Museum}
use Rattle.posting_core.specs.declared.entry.Entry.{Entry}
use Rattle.posting_core.specs.declared.message.Message.{Message}
use Rattle.posting_core.specs.Messages.{is_sign_off}
use Rattle.posting_core.specs.Book.{Book}
use Rattle.posting_core.specs.Growing.{HasGrown}
use Rattle.posting_core.specs.Lawful.{Follows, IsLawful}
use Rattle.station_core.specs.Series.{Series, opened}
use Rattle.station_core.specs.Progress.{AllMatch}
use Rattle.station_core.specs.declared.Start.{Start}
use Rattle.station_core.specs.declared.TheConstants.{LAST}
use Rattle.register_store.specs.declared.store_fault.StoreFault.{StoreFault}
use Rattle.register_store.specs.declared.store_fault.StoreFault.TheVariants.{NoMemory, Store}
use Rattle.register_store.specs.declared.store_fault.StoreFault.TheVariants.{OtherSetup, Damaged}
use Rattle.register_store.specs.declared.store_fault.StoreFault.TheVariants.{OtherVersion}
use Rattle.register_store.specs.StoredRows.{Content, AreSame, IsBoundTo, HasList, HasRows}
use Rattle.register_store.specs.Holdings.{Holding, Has, Comes, IsBound}
use Rattle.hub_core.specs.Points.{arrival_of}
use Rattle.hub_core.specs.StandsFor.{State, StandsFor, InStep, HasStore}
use Rattle.register_store.specs.Registers.{CountsRefusal, is_failure, IsBindFault, IsOfStation}
use Rattle.register_store.specs.Registers.{IsFirstWrong, bound_to}

-- Entry number `at` is the first that may not follow those before it.
pub record IsFirstUnlawful (S : Museum) (depth : ℕ) (O : List Entry) (at : ℕ) : Type 0 where
  pub before : List Entry
  pub entry : Entry
  pub after : List Entry
  pub all : O ≡ after ++ entry ∷ before
  pub count : length before + 1 ≡ at
  pub lawful : IsLawful S depth before
  pub wrong : Follows S depth before entry → ⊥

-- Why a list of entries can't be posted again: no memory, or an entry that the rules don't allow.
abbrev pub IsJudgeFault : Museum → ℕ → List Entry → StoreFault → Type 0
IsJudgeFault S depth O NoMemory = Unit {0}
IsJudgeFault S depth O (Damaged at) = IsFirstUnlawful S depth O at
IsJudgeFault S depth O Store = ⊥
IsJudgeFault S depth O OtherSetup = ⊥
IsJudgeFault S depth O OtherVersion = ⊥

-- The same of one entry, after P.
abbrev pub IsEntryFault : Museum → ℕ → List Entry → Entry → StoreFault → Type 0
IsEntryFault S depth P e NoMemory = Unit {0}
IsEntryFault S depth P e (Damaged at) = (length P + 1 ≡ at) × (Follows S depth P e → ⊥)
IsEntryFault S depth P e Store = ⊥
IsEntryFault S depth P e OtherSetup = ⊥
IsEntryFault S depth P e OtherVersion = ⊥

-- A station that starts so may send number n next: the number after its posted ones, at most
-- 999,999, and no sign-off before it.
abbrev pub may_send : Option Start → ℕ → Bool
may_send None n = false
may_send (Some start) n = (n == start.posted + 1) && (nat_le n LAST && not start.signed)

-- The store is bound to the setup, and row `at` is that of no entry.
abbrev pub HasWrongRow : Museum → Content → ℕ → Type 0
HasWrongRow S c at = (depth : ℕ) × IsBoundTo S depth c × IsFirstWrong (length S.stations) at c

-- The store is bound to the setup and has a list of entries of its stations, but fewer than came
-- before the newest growth: the later ones are gone. The fault is Damaged(0).
pub record HasTooFew (S : Museum) (c : Content) (at : ℕ) : Type 0 where
  pub zero : at ≡ 0
  pub depth : ℕ
  pub bound : IsBoundTo S depth c
  pub entries : List Entry
  pub list : HasList entries c
  pub stationed : All (IsOfStation (length S.stations)) entries
  pub few : HasGrown S.growths (length entries) → ⊥

-- The store is bound to the setup and has a list of entries of its stations, all those before the
-- newest growth among them, and entry `at` breaks the rules.
pub record HasWrongEntry (S : Museum) (c : Content) (at : ℕ) : Type 0 where
  pub depth : ℕ
  pub bound : IsBoundTo S depth c
  pub entries : List Entry
  pub list : HasList entries c
  pub stationed : All (IsOfStation (length S.stations)) entries
  pub grown : HasGrown S.growths (length entries)
  pub wrong : IsFirstUnlawful S depth entries at

-- The store is bound to the setup and has a lawful list with all entries before the newest growth,
-- but its rows of spots, loan lines and last days are not those of looking back. The fault is
-- Damaged(0).
pub record HasOtherRows (S : Museum) (c : Content) (at : ℕ) : Type 0 where
  pub zero : at ≡ 0
  pub depth : ℕ
  pub bound : IsBoundTo S depth c
  pub entries : List Entry
  pub list : HasList entries c
  pub lawful : IsLawful S depth entries
  pub grown : HasGrown S.growths (length entries)
  pub wrong : HasRows S entries c → ⊥

-- The list of a bound store is wrong: in a row, in its length, in an entry, or in the rows kept
-- beside the entries.
abbrev pub HasWrongList : Museum → Content → ℕ → Type 0
HasWrongList S c at =
    HasWrongRow S c at ⊎ (HasTooFew S c at ⊎ (HasWrongEntry S c at ⊎ HasOtherRows S c at))

-- Why the list of a bound store can't be restored in a ledger.
abbrev pub IsRestoreFault : Museum → Content → StoreFault → Type 0
IsRestoreFault S c NoMemory = Unit {0}
IsRestoreFault S c Store = Unit {0}
IsRestoreFault S c OtherVersion = ⊥
IsRestoreFault S c OtherSetup = ⊥
IsRestoreFault S c (Damaged at) = HasWrongList S c at

-- Why the rows of spots, loan lines and last days aren't those of looking back through P.
abbrev pub IsRowsFault : Museum → List Entry → Content → StoreFault → Type 0
IsRowsFault S P c NoMemory = Unit {0}
IsRowsFault S P c Store = Unit {0}
IsRowsFault S P c OtherVersion = ⊥
IsRowsFault S P c OtherSetup = ⊥
IsRowsFault S P c (Damaged at) = (at ≡ 0) × (HasRows S P c → ⊥)

-- Why a store can't be opened with a setup. Each cause comes only if none before it holds.
abbrev pub IsOpenFault : Museum → Content → StoreFault → Type 0
IsOpenFault S c NoMemory = Unit {0}
IsOpenFault S c Store = Unit {0}
IsOpenFault S c OtherVersion = IsBindFault S c OtherVersion
IsOpenFault S c OtherSetup = IsBindFault S c OtherSetup
IsOpenFault S c (Damaged at) = IsBindFault S c (Damaged at) ⊎ HasWrongList S (bound_to S c) at

-- Why a session without a store can't begin: no memory, or its setup has grown after some entry,
-- and nothing is posted.
abbrev pub IsSessionFault : Museum → StoreFault → Type 0
IsSessionFault S NoMemory = Unit {0}
IsSessionFault S Store = ⊥
IsSessionFault S OtherVersion = ⊥
IsSessionFault S OtherSetup = ⊥
IsSessionFault S (Damaged at) = (at ≡ 0) × (HasGrown S.growths 0 → ⊥)

-- If the store is quiet, only a lack of memory or a failing store keeps it from being opened with
-- the setup: no other fault has its cause. By law (`laws::stored_list_opens`) the rows of a lawful
-- list are so, if it has all entries before the newest growth.
abbrev pub OpensAgain : Holding → Museum → Type 0
OpensAgain store S =
    Has store (λ c. (fault : StoreFault) → IsOpenFault S c fault → is_failure fault ≡ true)

-- The hub stands for the list that the store had, which has all entries before the newest growth of
-- the setup: so the next entry is judged by all that the setup lists. The store is bound to its
-- setup, and otherwise as it was.
pub record Opened {R : Type 0} (holding : R → Holding) (S : Museum) (register : R)
    (hub : State R) : Type 0 where
  pub setup : hub.book.museum ≡ S
  pub stands : StandsFor holding hub hub.book.posted []
  pub grown : HasGrown S.growths (length hub.book.posted)
  pub comes : Comes (holding register) (holding hub.register)
      (λ c d. HasList hub.book.posted c × IsBound S c d)

-- The entries P are posted in a ledger that had none, each allowed by the rules, and the stations
-- start from them.
pub record IsJudged (old : Book) (P : List Entry) (starts : List Start) (new : Book) : Type 0 where
  pub museum : new.museum ≡ old.museum
  pub depth : new.depth ≡ old.depth
  pub posted : new.posted ≡ P
  pub lawful : IsLawful new.museum new.depth new.posted
  pub in_step : InStep (map opened starts) new.museum new.posted

-- The stations go on from the ledger's posted list.
pub record GoesOn (sequences : List (Series Message)) (book : Book) : Type 0 where
  pub in_step : InStep sequences book.museum book.posted
  pub series : AllMatch is_sign_off (map arrival_of (reverse book.posted)) sequences

-- A new ledger has the store's list, with all entries before the newest growth, and the stations go
-- on from it.
pub record IsRestored (store : Holding) (old : Book) (sequences : List (Series Message))
    (new : Book) : Type 0 where
  pub museum : new.museum ≡ old.museum
  pub goes_on : GoesOn sequences new
  pub grown : HasGrown new.museum.growths (length new.posted)
  pub stored : HasStore store new

-- A ledger of the setup has the list that the store had, with all entries before the newest growth,
-- the store is bound to the setup, and the stations go on from that list.
pub record IsPrepared (old new : Holding) (S : Museum) (sequences : List (Series Message))
    (book : Book) : Type 0 where
  pub museum : book.museum ≡ S
  pub goes_on : GoesOn sequences book
  pub grown : HasGrown S.growths (length book.posted)
  pub stored : HasStore new book
  pub comes : Comes old new (λ c d. HasList book.posted c × IsBound S c d)

-- The store isn't opened, for this cause. It is as it was, or bound.
abbrev pub IsNotOpened : Museum → StoreFault → Content → Content → Type 0
IsNotOpened S fault c d = IsOpenFault S c fault × (AreSame c d ⊎ IsBound S c d)

-- A failed opening adds one to the count if its fault is Store.
abbrev pub CountsFault : ℕ → ℕ → StoreFault → Type 0
CountsFault old new fault = CountsRefusal {T = Unit {0}} old new (Err fault)
