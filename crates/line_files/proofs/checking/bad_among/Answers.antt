use Rattle.std.proofs.Common.{◌+◌, ◌<◌, arith, length, map, refl}
use Rattle.line_files.specs.Checked.{bad_from}
use Rattle.line_files.proofs.Bads.{bads_more}
use Rattle.line_files.proofs.Walk.{line_at, none_left, to_end, within}
use Rattle.line_files.proofs.checking.bad_among.Goals as goal

pub loop-i-preserved : goal.loop-i-preserved
loop-i-preserved c =
    let lines = c.args.lines.now in
    let below : c.loop-i.i < length lines =
    omega (arith, c.loop-i-test.true, c.loop-i.auto.i-end) in
    bads_more (map (λ line. line.now) lines) c.loop-i.i _ _ _ _
    (within lines c.loop-i.i below)
    (line_at lines c.loop-i.i _ below)
    c.in_ok-add_bad.ensures c.loop-i.invariant

pub returns : goal.returns
returns c =
    let past = to_end c.args.lines.now c.loop-i.i (omega (arith, c.loop-i-test.false)) in
    none_left (bad_from (c.loop-i.i + 1)) _ c.loop-i.i _ _ refl past c.loop-i.invariant
