use Rattle.std.proofs.Common.{◌≡◌, ◌+◌, ◌++◌, drop, map, take}
use Rattle.line_files.specs.Known.{Messages, HasMessages, file_messages}
use Rattle.line_files.specs.Standings.{findings}
use Rattle.line_files.proofs.finding.findings.Given as goal

-- the findings so far, and those to come
abbrev pub invariant-loop-i : goal.invariant-loop-i
invariant-loop-i l = record {
  found : (them : Messages) → HasMessages l.initial.known l.station them
      → l.found.items
      ++ findings l.setup l.station (them ++ file_messages l.setup l.station
      (take l.i (map (λ line. line.now) l.lines)))
      (l.i + 1) (drop l.i (map (λ line. line.now) l.lines))
      ≡ findings l.setup l.station them 1 (map (λ line. line.now) l.lines);
  known : (them : Messages) → HasMessages l.initial.known l.station them
      → HasMessages l.known l.station
      (them ++ file_messages l.setup l.station (take l.i (map (λ line. line.now) l.lines)));
}
