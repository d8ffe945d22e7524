use Rattle.std.proofs.Common.{arith, rules, List, ℕ, [], Bor, length, ◌<◌}
use Rattle.std.proofs.lemmas.List.Folds.{length-flat_map-take}
use Rattle.std.proofs.lemmas.Grind.{common_steps}
use Rattle.hub_core.proofs.line.wording.add.Goals as goal

pub loop-piece-preserved : goal.loop-piece-preserved
loop-piece-preserved c = grind (arith, common_steps)

pub returns-in_err-push_str : goal.returns-in_err-push_str
returns-in_err-push_str c = record {
  text = search rules;
  room = λ fits.
      let within : c.loop-piece.piece-index < length c.args.pieces.now = omega arith in
      let there = length-flat_map-take (λ (piece : Bor (List ℕ)). piece.now) c.args.pieces.now
      c.loop-piece.piece-index (record { ref_ptr = (0, 0); now = [] }) within in
      absurd (omega (
        arith,
        there,
        c.in_err-push_str.ensures.full,
        c.loop-piece.invariant.len,
        c.loop-piece.invariant.capacity,
        fits,
      ));
  capacity = omega arith;
}
