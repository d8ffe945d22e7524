use Rattle.std.proofs.Common.{◌≡◌, ◌++◌, flat_map, take}
use Rattle.desk_core.proofs.texts.add.Given as goal

abbrev pub invariant-loop-piece : goal.invariant-loop-piece
invariant-loop-piece l =
    l.text.items ≡ l.fn.text.items ++ flat_map (λ piece. piece.now) (take l.piece-index l.pieces)
