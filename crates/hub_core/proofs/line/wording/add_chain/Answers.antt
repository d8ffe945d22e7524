use Rattle.std.proofs.Common.{arith, rules, ℕ, [], length, ◌<◌, true≢false, ap, sym, length-append}
use Rattle.std.proofs.lemmas.List.Folds.{length-flat_map-take}
use Rattle.std.proofs.lemmas.Grind.{common_steps}
use Rattle.hub_core.specs.LineText.{container_text}
use Rattle.hub_core.proofs.RoomLemmas.{chain_length, container_length}
use Rattle.hub_core.proofs.line.wording.add_chain.Goals as goal

pub loop-container-preserved : goal.loop-container-preserved
loop-container-preserved c = grind (arith, common_steps)

pub returns-in_err-add : goal.returns-in_err-add
returns-in_err-add c = record {
  text = search rules;
  room = λ fits.
      let i : ℕ = c.loop-container.container-index in
      let within : i < length c.args.chain.now = omega arith in
      let there = length-flat_map-take (container_text c.args.setup.now) c.args.chain.now
      i 0 within in
      let whole = chain_length c.args.setup.now c.args.chain.now i within in
      let own = container_length c.args.setup.now _ _ c.thing_code.ensures in
      let spelled = ap length c.as_str.ensures.text in
      let code = length-append c.as_str.result.now [] in
      let invariant = c.loop-container.invariant in
      absurd (true≢false
      (sym (c.in_err-add.ensures.room
      (omega (
        arith,
        fits,
        there,
        whole,
        own,
        spelled,
        code,
        invariant.len,
        invariant.capacity,
      )))));
  capacity = search rules;
}
