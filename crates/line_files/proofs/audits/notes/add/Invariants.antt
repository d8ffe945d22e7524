use Rattle.std.proofs.Common.{◌≡◌, ◌++◌, flat_map, string_bytes, take}
use Rattle.line_files.proofs.audits.notes.add.Given as goal

abbrev pub invariant-loop-piece : goal.invariant-loop-piece
invariant-loop-piece l =
    string_bytes l.text
    ≡ string_bytes l.fn.text ++ flat_map (λ piece. piece.now) (take l.piece-index l.pieces)
