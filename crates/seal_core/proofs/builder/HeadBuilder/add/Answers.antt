use Rattle.std.proofs.Common.{◌∙◌, ◌+◌, [], ◌∷◌, ap, sym, refl, subst, map}
use Rattle.std.proofs.lemmas.List.{length_push, map_push}
use Rattle.seal_core.specs.Hashes.{leaf_hash}
use Rattle.seal_core.specs.HeadBuilder.{Holds}
use Rattle.seal_core.specs.Peaks.{ArePeaks}
use Rattle.seal_core.proofs.Heads.{head_of-one}
use Rattle.seal_core.proofs.builder.HeadBuilder.add.Goals as goal

pub returns-clause-leaves : goal.returns-clause-leaves
unfolding Holds
returns-clause-leaves c = λ leaves held.
    let leaf = c.args.leaf.now in (
      ap (λ n. n + 1) held.0 ∙ sym (length_push leaves leaf),
      subst (ArePeaks 0 (c.args.self.now.count + 1) c.add_peak.new.peaks)
          (sym (map_push leaf_hash leaves leaf))
          (c.add_peak.ensures 0 (map leaf_hash leaves) (leaf_hash leaf ∷ []) held.1 refl
          (c.leaf_hash.ensures ∙ sym (head_of-one (leaf_hash leaf)))),
    )
