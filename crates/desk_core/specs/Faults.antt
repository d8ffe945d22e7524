-- Defines how the faults of a line and of the streams become those of a desk.
use Rattle.hub_core.specs.Faults.{replay_fault}
use Rattle.hub_core.specs.declared.replay_fault.ReplayFault.{ReplayFault}
use Rattle.hub_core.specs.declared.replay_fault.ReplayFault.TheVariants as replay
use Rattle.desk_core.specs.declared.desk_fault.DeskFault.{DeskFault}
use Rattle.desk_core.specs.declared.desk_fault.DeskFault.TheVariants.{LogFailed, NoMemory}
use Rattle.desk_core.specs.declared.desk_fault.DeskFault.TheVariants.{ReadFailed, Store}
use Rattle.desk_core.specs.declared.desk_fault.DeskFault.TheVariants.{WriteFailed}
use Rattle.desk_core.specs.declared.line_fault.LineFault.{LineFault}
use Rattle.desk_core.specs.declared.line_fault.LineFault.TheVariants.{Hub, Log}

-- A fault of the input, of the output or of the hub.
abbrev pub of_replay : ReplayFault → DeskFault
of_replay replay.NoMemory = NoMemory
of_replay replay.Store = Store
of_replay replay.ReadFailed = ReadFailed
of_replay replay.WriteFailed = WriteFailed

-- A fault of a line.
abbrev pub of_line : LineFault → DeskFault
of_line (Hub fault) = of_replay (replay_fault fault)
of_line Log = LogFailed
