use Rattle.std.proofs.Common.{◌+◌, sym, ap, ◌∙◌, [], ◌∷◌, ◌++◌, subst, map, refl}
use Rattle.std.specs.List.{range_with_len}
use Rattle.std.proofs.lemmas.List.FromFn.{map-range_with_len_more}
use Rattle.seal_core.specs.HeadBuilder.{Holds}
use Rattle.seal_core.specs.Leaves.{entry_leaf}
use Rattle.seal_core.proofs.workers.head_of_block.Goals as goal

pub loop-i-preserved : goal.loop-i-preserved
loop-i-preserved c =
    let leaf_at = entry_leaf c.args.ledger.now in
    let before = map leaf_at (range_with_len c.args.first c.loop-i.i) in
    let leaf = c.as_bytes.ensures.value ∙ c.in_ok-leaf.ensures in
    record {
      count = c.add.ensures.count ∙ ap (λ n. n + 1) c.loop-i.invariant.count;
      leaves = subst (Holds c.add.new.self)
          (ap (λ x. before ++ x ∷ []) leaf
          ∙ sym (map-range_with_len_more leaf_at c.args.first c.loop-i.i _ refl))
          (c.add.ensures.leaves before c.loop-i.invariant.leaves);
    }
