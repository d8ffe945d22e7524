use Rattle.std.proofs.Common.{◌≡◌, ◌≤◌, ◌+◌, ◌++◌, length, string_bytes, string_len}
use Rattle.std.proofs.Common.{string_capacity, take, codes}
use Rattle.std.specs.Prelude.{flat_map}
use Rattle.hub_core.specs.LineText.{container_text}
use Rattle.hub_core.proofs.line.wording.add_chain.Given as goal

abbrev pub invariant-loop-container : goal.invariant-loop-container
invariant-loop-container l = record {
  text : string_bytes l.text ≡ string_bytes l.fn.text
      ++ (codes " in" ++ flat_map (container_text l.setup) (take l.container-index l.chain));
  len : string_len l.text ≡ string_len l.fn.text + length
      (codes " in" ++ flat_map (container_text l.setup) (take l.container-index l.chain));
  capacity : string_capacity l.fn.text ≤ string_capacity l.text;
}
