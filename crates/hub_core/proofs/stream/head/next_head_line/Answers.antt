use Rattle.std.proofs.Common.{◌≡◌, ◌≤◌, ◌⊎◌, ◌∙◌, ap, sym, inl, inr, length, true, false, arith}
use Rattle.hub_core.specs.Lines.{is_empty, without_return}
use Rattle.hub_core.proofs.LineTaken.{line_fed, line_last, line_open}
use Rattle.hub_core.proofs.HeadLemmas.{line_too_long, line_fits}
use Rattle.hub_core.proofs.stream.head.next_head_line.Goals.{
  else-len-room-via-then-len-room+else-not-is_blank,
}
use Rattle.hub_core.proofs.stream.head.next_head_line.Goals.{else-len-room-via-else-len-room}
use Rattle.hub_core.proofs.stream.head.next_head_line.Goals as goal

pub returns-in-Feed-clause-line : goal.returns-in-Feed-clause-line
returns-in-Feed-clause-line g c =
    let inv = c.loop-reads.invariant.1 in
    line_fed _ _ _ _ _ _ inv.0 _ inv.1 inv.2 inv.3 c.in_ok-take_piece.ensures.piece c.in-Feed.is

pub returns-in-Input-clause-line : goal.returns-in-Input-clause-line
returns-in-Input-clause-line g c =
    let inv = c.loop-reads.invariant.1 in
    line_last _ _ _ _ _ _ inv.0 _ inv.1 inv.2 inv.3 c.in_ok-take_piece.ensures.piece c.in-Input.is

pub returns-then-not-is_blank-clause-fault : goal.returns-then-not-is_blank-clause-fault
returns-then-not-is_blank-clause-fault g c =
    let inv = c.loop-reads.invariant.1 in
    let more = line_open _ _ _ _ _ _ inv.0 _ inv.1 inv.2 inv.3 c.in_ok-take_piece.ensures.piece
    c.in-Open.is in
    let kept = c.take_piece.new.line.items in
    let full : is_empty (without_return kept) ≡ false =
    ap (λ l. is_empty (without_return l)) (sym c.as_slice.ensures.value)
    ∙ sym c.is_blank.ensures ∙ c.if-not-is_blank.true in
    record {
      bytes = more.0;
      taken = more.1;
      one = more.2;
      cause = line_too_long c.args.room kept more.0 more.2 more.3 (omega arith) full;
    }

pub loop-reads-preserved : goal.loop-reads-preserved
loop-reads-preserved g c =
    let inv = c.loop-reads.invariant.1 in
    let more = line_open _ _ _ _ _ _ inv.0 _ inv.1 inv.2 inv.3 c.in_ok-take_piece.ensures.piece
    c.in-Open.is in
    let kept = c.take_piece.new.line.items in
    let short : (length kept ≤ c.args.room) ⊎ (is_empty (without_return kept) ≡ true) =
    elim c.else-len-room.branch [
      | else-len-room-via-then-len-room+else-not-is_blank w ↦
          inr (ap (λ l. is_empty (without_return l)) (sym w.as_slice.ensures.value)
          ∙ sym w.is_blank.ensures ∙ w.if-not-is_blank.false)
      | else-len-room-via-else-len-room w ↦ inl (omega arith)
    ] in (
      omega (arith, c.take_piece.ensures.reads),
      (more.0, more.1, more.2, more.3, line_fits c.args.room kept more.0 more.2 more.3 short),
    )
