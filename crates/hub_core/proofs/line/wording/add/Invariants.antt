use Rattle.std.proofs.Common.{◌≡◌, ◌≤◌, ◌+◌, ◌++◌, length, flat_map, take, string_bytes, string_len}
use Rattle.std.proofs.Common.{string_capacity}
use Rattle.hub_core.proofs.line.wording.add.Given as goal

abbrev pub invariant-loop-piece : goal.invariant-loop-piece
invariant-loop-piece l = record {
  text : string_bytes l.text ≡ string_bytes l.fn.text ++ flat_map (λ piece. piece.now)
      (take l.piece-index l.pieces);
  len : string_len l.text ≡ string_len l.fn.text + length
      (flat_map (λ piece. piece.now) (take l.piece-index l.pieces));
  capacity : string_capacity l.fn.text ≤ string_capacity l.text;
}
