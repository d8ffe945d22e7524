use Rattle.std.proofs.Common.{◌∙◌, ap, sym, rules, Some, option_map}
use Rattle.seal_core.specs.Hashes.{node_hash}
use Rattle.seal_core.proofs.Roots.{root-single, root-too_long, root-too_short, root-left}
use Rattle.seal_core.proofs.Roots.{root-right}
use Rattle.seal_core.proofs.paths.+root_from_hash.Goals as goal

pub returns-then-is_empty : goal.returns-then-is_empty
returns-then-is_empty t c =
    sym (root-single c.args.index c.args.size c.args.hash c.args.path.now c.if-size-eq1.true
    (search rules))

pub returns-else-is_empty : goal.returns-else-is_empty
returns-else-is_empty t c =
    sym (root-too_long c.args.index c.args.size c.args.hash c.args.path.now c.if-size-eq1.true
    (search rules))

pub returns-in_err-sibling : goal.returns-in_err-sibling
returns-in_err-sibling t c =
    let split = c.left_size-left.ensures in
    c.from_residual.ensures
    ∙ sym (root-too_short c.left_size-left.result c.args.index c.args.size c.args.hash
    c.args.path.now split.power split.smaller split.largest c.in_err-sibling.ensures.cases)

pub returns-in_err-child : goal.returns-in_err-child
returns-in_err-child t c =
    let split = c.left_size-left.ensures in
    let sibling = c.in_ok-sibling.sibling.now in
    c.from_residual-in_err-child.ensures
    ∙ (ap (option_map (λ left. node_hash left sibling)) c.in_err-child.ensures
    ∙ sym (root-left c.left_size-left.result c.args.index c.args.size c.args.hash sibling
    c.args.path.now c.in_ok-sibling.lower.now split.power split.smaller split.largest
    c.if-index-left.true c.in_ok-sibling.ensures.cases.0))

pub returns-in_err-child-2 : goal.returns-in_err-child-2
returns-in_err-child-2 t c =
    let split = c.left_size-left.ensures in
    let sibling = c.in_ok-sibling.sibling.now in
    c.from_residual-in_err-child-2.ensures
    ∙ (ap (option_map (λ right. node_hash sibling right)) c.in_err-child-2.ensures
    ∙ sym (root-right c.left_size-left.result c.args.index c.args.size c.args.hash sibling
    c.args.path.now c.in_ok-sibling.lower.now split.power split.smaller split.largest
    c.if-index-left.false c.in_ok-sibling.ensures.cases.0))

pub returns-in_ok-child : goal.returns-in_ok-child
returns-in_ok-child t c =
    let split = c.left_size-left.ensures in
    let sibling = c.in_ok-sibling.sibling.now in
    ap Some c.node_hash.ensures
    ∙ (ap (option_map (λ left. node_hash left sibling)) c.in_ok-child.ensures
    ∙ sym (root-left c.left_size-left.result c.args.index c.args.size c.args.hash sibling
    c.args.path.now c.in_ok-sibling.lower.now split.power split.smaller split.largest
    c.if-index-left.true c.in_ok-sibling.ensures.cases.0))

pub returns-in_ok-child-2 : goal.returns-in_ok-child-2
returns-in_ok-child-2 t c =
    let split = c.left_size-left.ensures in
    let sibling = c.in_ok-sibling.sibling.now in
    ap Some c.node_hash-else-index-left.ensures
    ∙ (ap (option_map (λ right. node_hash sibling right)) c.in_ok-child-2.ensures
    ∙ sym (root-right c.left_size-left.result c.args.index c.args.size c.args.hash sibling
    c.args.path.now c.in_ok-sibling.lower.now split.power split.smaller split.largest
    c.if-index-left.false c.in_ok-sibling.ensures.cases.0))
