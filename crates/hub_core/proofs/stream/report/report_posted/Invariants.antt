use Rattle.std.proofs.Common.{List, ◌++◌, take}
use Rattle.hub_core.specs.declared.outcome.Outcome.{Outcome}
use Rattle.hub_core.proofs.OutcomeLemmas.{from_first}
use Rattle.hub_core.proofs.stream.report.report_posted.Given as goal

abbrev pub invariant-loop-i : goal.invariant-loop-i
invariant-loop-i g l = (before : List Outcome) → g.V.Watch.has_seen l.fn.watch before
    → g.V.Watch.has_seen l.watch (before ++ from_first l.first (take l.i l.entries))
