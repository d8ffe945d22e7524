use Rattle.std.proofs.Common.{arith}
use Rattle.std.proofs.KnownBytes.{Keeps-trans}
use Rattle.hub_core.proofs.LineTaken.{line_fed, line_last, line_open}
use Rattle.hub_core.proofs.line.bytes.next_line.Goals as goal

pub returns-in-Feed-clause-line : goal.returns-in-Feed-clause-line
returns-in-Feed-clause-line g c =
    let inv = c.loop-reads.invariant.0 in
    line_fed _ _ _ _ _ _ inv.0 _ inv.1 inv.2 inv.3 c.in_ok-take_piece.ensures.piece c.in-Feed.is

pub returns-in-Input-clause-line : goal.returns-in-Input-clause-line
returns-in-Input-clause-line g c =
    let inv = c.loop-reads.invariant.0 in
    line_last _ _ _ _ _ _ inv.0 _ inv.1 inv.2 inv.3 c.in_ok-take_piece.ensures.piece c.in-Input.is

pub loop-reads-preserved : goal.loop-reads-preserved
loop-reads-preserved g c =
    let inv = c.loop-reads.invariant.0 in (
      line_open _ _ _ _ _ _ inv.0 _ inv.1 inv.2 inv.3 c.in_ok-take_piece.ensures.piece c.in-Open.is,
      Keeps-trans _ _ _ c.loop-reads.invariant.1 c.flush_before_wait.ensures.kept,
      omega (arith, c.take_piece.ensures.reads, c.loop-reads.invariant.2),
    )
