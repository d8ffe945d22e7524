-- Defines a run: a head with the setup, an empty line, and the lines to replay without a store. `i`
-- and `i'` are the bytes that the reader has left before and after, `o` and `o'` those that the
-- writer holds.
use Rattle.std.specs.Prelude.{ℕ, ◌≡◌, ◌≤◌, ◌<◌, ◌⊎◌, nat_lt, Bool, false, List, [], length, Option}
use Rattle.std.specs.Prelude.{Some, None, IfSome, if◌then◌else◌}
use Rattle.std.specs.Option.{option_map}
use Rattle.std.specs.List.{list_any}
use Rattle.std.specs.Io.KnownBytes.{Consumes, Keeps}
use Rattle.nest_core.specs.Museum.{Museum}
use Rattle.nest_core.specs.SetupRows.{rows_of, museum_of, setup_fault}
use Rattle.nest_core.specs.declared.setup_fault.SetupFault.{SetupFault}
use Rattle.nest_core.specs.declared.setup_fault.SetupFault.TheVariants as setup
use Rattle.register_store.specs.declared.plain.TheConstants.{NEW_DEPTH}
use Rattle.register_store.specs.declared.no_store.NoStore.{NoStore}
use Rattle.register_store.specs.NoStore.{in_no_store}
use Rattle.hub_core.specs.declared.replay_fault.ReplayFault.{ReplayFault}
use Rattle.hub_core.specs.declared.replay_fault.ReplayFault.TheVariants as replay
use Rattle.hub_core.specs.declared.stream.head.TheConstants.{LONGEST_HEAD}
use Rattle.hub_core.specs.declared.run_fault.RunFault.{RunFault}
use Rattle.hub_core.specs.declared.run_fault.RunFault.TheVariants.{NoMemory, Store, ReadFailed}
use Rattle.hub_core.specs.declared.run_fault.RunFault.TheVariants.{WriteFailed, Setup, HeadTooLong}
use Rattle.hub_core.specs.Reading.{HasNoFeed}
use Rattle.hub_core.specs.Lines.{pieces, ended, is_blank, head, after_head}
use Rattle.hub_core.specs.LineText.{text}
use Rattle.hub_core.specs.StandsFor.{State, IsFresh}
use Rattle.hub_core.specs.Replayed.{AfterFault}

-- The first fault of a head: HeadTooLong, then that of its setup.
abbrev pub head_fault : List ℕ → Option RunFault
head_fault bytes =
    if nat_lt LONGEST_HEAD (length bytes) then Some HeadTooLong
    else option_map Setup (setup_fault bytes)

-- The setup in the head of the bytes.
abbrev pub setup_in : List ℕ → Museum
setup_in bytes = museum_of (rows_of (head bytes))

-- The text that a run writes for its bytes: the replies to the lines after the head, starting with
-- nothing posted.
abbrev pub run_text : List ℕ → List ℕ
run_text bytes = text (setup_in bytes) NEW_DEPTH [] [] (after_head bytes)

-- The bytes have a whole empty line.
abbrev pub has_empty_line : List ℕ → Bool
has_empty_line bytes = list_any is_blank (pieces (ended bytes))

-- Part of a head was read: its empty line has not ended, and it isn't too long so far.
pub record InHead (i i' : Option (List ℕ)) : Type 0 where
  pub bytes : List ℕ
  pub read : Consumes i i' bytes
  pub part : has_empty_line bytes ≡ false
  pub short : length (head bytes) ≤ LONGEST_HEAD

-- The head and its empty line were read, and the head isn't too long.
abbrev pub TakesHead : Option (List ℕ) → Option (List ℕ) → List ℕ → Type 0
TakesHead i i' taken =
    IfSome i (λ bytes. (taken ≡ head bytes) × (length taken ≤ LONGEST_HEAD)
    × (i' ≡ Some (after_head bytes)))

-- Why a line of a head could not be read, if the head has room for this many more bytes.
abbrev pub IsLineFault : ℕ → List ℕ → RunFault → Type 0
IsLineFault room line NoMemory = length (head line) ≤ room
IsLineFault room line Store = ⊥
IsLineFault room line ReadFailed = length (head line) ≤ room
IsLineFault room line WriteFailed = ⊥
IsLineFault room line (Setup fault) = ⊥
IsLineFault room line HeadTooLong = room < length (head line)

-- The start of a line of a head was taken.
pub record StopsInLine (i i' : Option (List ℕ)) (room : ℕ) (fault : RunFault) : Type 0 where
  pub bytes : List ℕ
  pub taken : Consumes i i' bytes
  pub one : HasNoFeed bytes
  pub cause : IsLineFault room bytes fault

-- Why a run ended before its lines.
abbrev pub BeforeLines : Option (List ℕ) → Option (List ℕ) → RunFault → Type 0
BeforeLines i i' NoMemory = InHead i i' ⊎ ((taken : List ℕ) × TakesHead i i' taken)
BeforeLines i i' Store = ⊥
BeforeLines i i' ReadFailed = InHead i i'
BeforeLines i i' WriteFailed = ⊥
BeforeLines i i' (Setup fault) =
    IfSome i (λ bytes. (head_fault (head bytes) ≡ Some (Setup fault))
    × (i' ≡ Some (after_head bytes)))
BeforeLines i i' HeadTooLong = IfSome i (λ bytes. head_fault (head bytes) ≡ Some HeadTooLong)

-- A setup's fault as a run's.
abbrev pub told_fault : SetupFault → RunFault
told_fault setup.NotCsv = Setup setup.NotCsv
told_fault (setup.BadKind row) = Setup (setup.BadKind row)
told_fault (setup.BadFields row) = Setup (setup.BadFields row)
told_fault (setup.BadCode row) = Setup (setup.BadCode row)
told_fault (setup.Repeated row) = Setup (setup.Repeated row)
told_fault (setup.UnknownNormal row) = Setup (setup.UnknownNormal row)
told_fault (setup.TooMany row) = Setup (setup.TooMany row)
told_fault setup.NoStation = Setup setup.NoStation
told_fault setup.NoMemory = NoMemory

-- A replay's fault as a run's.
abbrev pub run_fault : ReplayFault → RunFault
run_fault replay.NoMemory = NoMemory
run_fault replay.Store = Store
run_fault replay.ReadFailed = ReadFailed
run_fault replay.WriteFailed = WriteFailed

-- The head was read and has no fault, and the hub has its setup.
abbrev pub OpensHub : Option (List ℕ) → Option (List ℕ) → State NoStore → Type 0
OpensHub i i' hub =
    IfSome i (λ bytes. (head_fault (head bytes) ≡ None) × (i' ≡ Some (after_head bytes))
    × IsFresh in_no_store hub (setup_in bytes))

-- The head has no fault, and a fault came in the lines. The end is that of a replay over the run's
-- hub.
abbrev pub InLines : Option (List ℕ) → Option (List ℕ) → Option (List ℕ) → Option (List ℕ)
    → ReplayFault → Type 0
InLines i i' o o' fault = IfSome i (λ bytes. (head_fault (head bytes) ≡ None)
    × ((hub : State NoStore)
    × AfterFault (setup_in bytes) NEW_DEPTH [] []
    (Some (after_head bytes)) i' o o' in_no_store hub fault))

-- The end of a run after a fault: before the lines, with nothing written, or in the lines.
abbrev pub AfterRun : Option (List ℕ) → Option (List ℕ) → Option (List ℕ) → Option (List ℕ)
    → RunFault → Type 0
AfterRun i i' o o' fault =
    (BeforeLines i i' fault × Keeps o o')
    ⊎ ((met : ReplayFault) × (fault ≡ run_fault met) × InLines i i' o o' met)
