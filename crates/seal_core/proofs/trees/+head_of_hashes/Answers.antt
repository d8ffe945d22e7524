use Rattle.std.proofs.Common.{◌≡◌, ◌∙◌, [], take, ap, sym, rules}
use Rattle.std.proofs.lemmas.List.{nil_from_length}
use Rattle.seal_core.specs.Hashes.{node_hash}
use Rattle.seal_core.specs.Trees.{head_of}
use Rattle.seal_core.proofs.Heads.{head_of-nil, head_of-single, head_of-halves}
use Rattle.seal_core.proofs.trees.+head_of_hashes.Goals as goal

pub returns-then-is_empty : goal.returns-then-is_empty
returns-then-is_empty t c =
    let none : c.args.hashes.now ≡ [] = nil_from_length c.args.hashes.now (search rules) in
    c.empty_head.ensures ∙ sym (ap head_of none ∙ head_of-nil)

pub returns-then-hashes-eq1 : goal.returns-then-hashes-eq1
returns-then-hashes-eq1 t c = head_of-single c.args.hashes.now [] c.if-hashes-eq1.true

pub returns : goal.returns
returns t c =
    let hashes = c.args.hashes.now in
    let size = c.left_size.ensures in
    let parts = c.split_at.ensures in
    c.node_hash.ensures
    ∙ (ap (λ h. node_hash h c.head_of_hashes-2.result)
    (c.head_of_hashes.ensures ∙ ap head_of parts.front)
    ∙ (ap (λ h. node_hash (head_of (take c.left_size.result hashes)) h)
    (c.head_of_hashes-2.ensures ∙ ap head_of parts.back)
    ∙ sym (head_of-halves hashes c.left_size.result size.power size.smaller size.largest)))
