-- Defines the fault of work for each fault of what it calls.
use Rattle.desk_core.specs.declared.desk_fault.DeskFault.{DeskFault}
use Rattle.desk_core.specs.declared.desk_fault.DeskFault.TheVariants as desk
use Rattle.hub_core.specs.declared.replay_fault.ReplayFault.{ReplayFault}
use Rattle.hub_core.specs.declared.replay_fault.ReplayFault.TheVariants as replay
use Rattle.register_store.specs.declared.store_fault.StoreFault.{StoreFault}
use Rattle.register_store.specs.declared.store_fault.StoreFault.TheVariants as store
use Rattle.reports.specs.declared.fault.PrintFault.{PrintFault}
use Rattle.reports.specs.declared.fault.PrintFault.TheVariants as print
use Rattle.work_core.specs.declared.fault.WorkFault.{WorkFault}
use Rattle.work_core.specs.declared.fault.WorkFault.TheVariants.{LogFailed, NoMemory, ReadFailed}
use Rattle.work_core.specs.declared.fault.WorkFault.TheVariants.{Store, WriteFailed}

abbrev pub of_store : StoreFault → WorkFault
of_store store.NoMemory = NoMemory
of_store fault = Store fault

abbrev pub of_replay : ReplayFault → WorkFault
of_replay replay.NoMemory = NoMemory
of_replay replay.Store = Store store.Store
of_replay replay.ReadFailed = ReadFailed
of_replay replay.WriteFailed = WriteFailed

abbrev pub of_desk : DeskFault → WorkFault
of_desk desk.NoMemory = NoMemory
of_desk desk.Store = Store store.Store
of_desk desk.ReadFailed = ReadFailed
of_desk desk.WriteFailed = WriteFailed
of_desk desk.LogFailed = LogFailed

abbrev pub of_printing : PrintFault → WorkFault
of_printing print.NoMemory = NoMemory
of_printing print.WriteFailed = WriteFailed
