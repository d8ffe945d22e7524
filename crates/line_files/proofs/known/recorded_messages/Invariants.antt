use Rattle.std.proofs.Common.{◌≡◌, ℕ, map, nat_eq, take}
use Rattle.std.specs.HashMap.{get}
use Rattle.station_core.specs.Runs.{message_at}
use Rattle.hub_core.specs.Points.{arrival_of}
use Rattle.line_files.proofs.known.recorded_messages.Given as goal

-- the messages of the entries so far
abbrev pub invariant-loop-entry : goal.invariant-loop-entry
invariant-loop-entry l = (q : ℕ) → get nat_eq l.known q
    ≡ message_at (map arrival_of (take l.entry-index l.entries)) l.station q
