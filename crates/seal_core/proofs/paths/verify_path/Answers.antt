use Rattle.std.proofs.Common.{◌∙◌, ap, sym, Some, rules, [], length}
use Rattle.std.proofs.lemmas.List.{get_or_default}
use Rattle.seal_core.specs.Hashes.{leaf_hash}
use Rattle.seal_core.specs.Paths.{audit_path, root_from}
use Rattle.seal_core.proofs.Complete.{audit_path-complete}
use Rattle.seal_core.proofs.TreePaths.{other_leaf_collides}
use Rattle.seal_core.proofs.paths.verify_path.Goals as goal

pub returns-clause-exact : goal.returns-clause-exact
returns-clause-exact c = search rules

pub returns-clause-complete : goal.returns-clause-complete
returns-clause-complete c = λ leaves has is own.
    let hash = leaf_hash c.args.leaf.now in
    (returns-clause-exact c).1
    (ap (root_from hash c.args.index c.args.size) own
    ∙ (ap (λ n. root_from hash c.args.index n (audit_path c.args.index leaves)) (sym has.0)
    ∙ (audit_path-complete leaves c.args.index c.args.leaf.now is ∙ ap Some has.1)))

pub returns-clause-sound : goal.returns-clause-sound
returns-clause-sound c = λ leaves other has is differ proves.
    let hash = leaf_hash c.args.leaf.now in
    other_leaf_collides leaves c.args.index other c.args.leaf.now c.args.path.now is
    (λ k d lt. ap length (get_or_default c.args.path.now k d [] lt) ∙ c.told-path k lt)
    (ap (λ n. root_from hash c.args.index n c.args.path.now) has.0
    ∙ ((returns-clause-exact c).0 proves ∙ ap Some (sym has.1)))
    differ
