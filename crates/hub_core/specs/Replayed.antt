-- Defines how a replay can end. `i` and `i'` are the bytes that the reader has left before and
-- after, `o` and `o'` those that the writer holds.
use Rattle.std.specs.Prelude.{ℕ, ◌≡◌, ◌≤◌, ◌++◌, Bool, true, false, List, Option, OnSome, Result}
use Rattle.std.specs.Prelude.{OnOk, IfErr, length, take}
use Rattle.std.specs.Io.KnownBytes.{Appends, Consumes, IsAtEnd}
use Rattle.nest_core.specs.Museum.{Museum}
use Rattle.posting_core.specs.declared.entry.Entry.{Entry}
use Rattle.register_store.specs.Holdings.{Holding}
use Rattle.hub_core.specs.declared.hub.answer.Arrival.{Arrival}
use Rattle.hub_core.specs.declared.replay_fault.ReplayFault.{ReplayFault}
use Rattle.hub_core.specs.declared.replay_fault.ReplayFault.TheVariants.{NoMemory, Store}
use Rattle.hub_core.specs.declared.replay_fault.ReplayFault.TheVariants.{ReadFailed, WriteFailed}
use Rattle.hub_core.specs.Faults.{CountsReplay}
use Rattle.hub_core.specs.Lines.{lines, ended}
use Rattle.hub_core.specs.LineText.{text, arrivals}
use Rattle.hub_core.specs.StandsFor.{State, StandsFor, TakesSome}

-- The lines that were read. At the end of the input the last line needs no line feed.
abbrev pub lines_read : Bool → List ℕ → List ℕ
lines_read true bytes = bytes
lines_read false bytes = ended bytes

-- All lines that were read are answered.
pub record Answered {Q : Type 0} (S : Museum) (depth : ℕ) (O : List Entry) (A : List Arrival)
    (i i' o o' : Option (List ℕ)) (holding : Q → Holding) (hub : State Q)
    (at_end : Bool) : Type 0 where
  pub bytes : List ℕ
  pub read : Consumes i i' bytes
  pub end : at_end ≡ true → OnSome i (IsAtEnd i')
  pub written : Appends o o' (text S depth O A (lines_read at_end bytes))
  pub stands : StandsFor holding hub O (A ++ arrivals S (lines_read at_end bytes))

-- All lines that were read are taken, and k bytes of their replies are written.
pub record CutShort {Q : Type 0} (S : Museum) (depth : ℕ) (O : List Entry) (A : List Arrival)
    (i i' o o' : Option (List ℕ)) (holding : Q → Holding) (hub : State Q) : Type 0 where
  pub bytes : List ℕ
  pub at_end : Bool
  pub k : ℕ
  pub read : Consumes i i' bytes
  pub end : at_end ≡ true → OnSome i (IsAtEnd i')
  pub written : Appends o o' (take k (text S depth O A (lines_read at_end bytes)))
  pub stands : StandsFor holding hub O (A ++ arrivals S (lines_read at_end bytes))

-- All lines before the one that met the fault are answered. The hub has taken the arrival of that
-- line, or not, or was stopped at it.
pub record BrokenOff {Q : Type 0} (S : Museum) (depth : ℕ) (O : List Entry) (A : List Arrival)
    (i i' o o' : Option (List ℕ)) (holding : Q → Holding) (hub : State Q) : Type 0 where
  pub before : List ℕ
  pub line : List ℕ
  pub read : Consumes i i' (before ++ line)
  pub whole : ended before ≡ before
  pub one : length (lines line) ≤ 1
  pub written : Appends o o' (text S depth O A before)
  pub stands : TakesSome holding hub O (A ++ arrivals S before) (arrivals S line)

-- The end after each fault.
abbrev pub AfterFault : {Q : Type 0} → Museum → ℕ → List Entry → List Arrival → Option (List ℕ)
    → Option (List ℕ) → Option (List ℕ) → Option (List ℕ) → (Q → Holding) → State Q → ReplayFault
    → Type 0
AfterFault S depth O A i i' o o' holding hub NoMemory = BrokenOff S depth O A i i' o o' holding hub
AfterFault S depth O A i i' o o' holding hub Store = BrokenOff S depth O A i i' o o' holding hub
AfterFault S depth O A i i' o o' holding hub ReadFailed =
    Answered S depth O A i i' o o' holding hub false
AfterFault S depth O A i i' o o' holding hub WriteFailed =
    CutShort S depth O A i i' o o' holding hub

-- The end of a replay: after a fault as above; without one the hub isn't down. Its setup and depth
-- limit never change.
pub record EndsReplay {Q T : Type 0} (holding : Q → Holding) (refusals : Q → ℕ)
    (i i' o o' : Option (List ℕ)) (old new : State Q) (result : Result T ReplayFault) : Type 0 where
  pub faults : IfErr result
      (λ fault. (O : List Entry) (A : List Arrival) → StandsFor holding old O A
      → AfterFault old.book.museum old.book.depth O A i i' o o' holding new fault)
  pub up : OnOk result (new.down ≡ false)
  pub count : CountsReplay (refusals old.register) (refusals new.register) result
  pub museum : new.book.museum ≡ old.book.museum
  pub depth : new.book.depth ≡ old.book.depth
