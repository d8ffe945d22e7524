use Rattle.std.proofs.Common.{◌<◌, arith, length, nat_eq, map, refl}
use Rattle.std.specs.HashMap.{get}
use Rattle.line_files.specs.Standings.{findings}
use Rattle.line_files.proofs.Walk.{findings_at_first, findings_more, known_all, known_at_first}
use Rattle.line_files.proofs.Walk.{known_more, line_at, none_left, to_end, within}
use Rattle.line_files.proofs.finding.findings.Goals as goal

pub loop-i-init : goal.loop-i-init
loop-i-init c = record {
  found = λ them has. rw c.new-found.ensures.items
      (findings_at_first c.args.setup.now c.args.station them
      (map (λ line. line.now) c.args.lines.now));
  known = λ them has. known_at_first c.args.station (get nat_eq c.args.known.now) them has;
}

pub loop-i-preserved : goal.loop-i-preserved
loop-i-preserved c =
    let lines = c.args.lines.now in
    let below : c.loop-i.i < length lines =
    omega (arith, c.loop-i-test.true, c.loop-i.auto.i-end) in
    let inside = within lines c.loop-i.i below in
    let is = line_at lines c.loop-i.i _ below in record {
      found = λ them has.
          findings_more c.args.setup.now c.args.station (get nat_eq c.loop-i.known) them
          (map (λ line. line.now) lines) c.loop-i.i _ _ _ _ _ inside is
          (c.loop-i.invariant.known them has) c.in_ok-finding.ensures.found
          c.in_ok-add_finding.ensures (c.loop-i.invariant.found them has);
      known = λ them has.
          known_more c.args.setup.now c.args.station (get nat_eq c.loop-i.known) _ them
          (map (λ line. line.now) lines) c.loop-i.i _ inside is
          (c.loop-i.invariant.known them has) c.in_ok-finding.ensures.known;
    }

pub returns-clause-found : goal.returns-clause-found
returns-clause-found c = λ them has.
    let past = to_end c.args.lines.now c.loop-i.i (omega (arith, c.loop-i-test.false)) in
    none_left (findings c.args.setup.now c.args.station _ _) _ c.loop-i.i _ _ refl past
    (c.loop-i.invariant.found them has)

pub returns-clause-known : goal.returns-clause-known
returns-clause-known c = λ them has.
    let past = to_end c.args.lines.now c.loop-i.i (omega (arith, c.loop-i-test.false)) in
    known_all c.args.setup.now c.args.station (get nat_eq c.loop-i.known) them _ c.loop-i.i past
    (c.loop-i.invariant.known them has)
