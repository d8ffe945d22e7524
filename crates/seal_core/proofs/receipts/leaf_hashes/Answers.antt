use Rattle.std.proofs.Common.{◌∙◌, ◌++◌, [], ◌∷◌, List, ℕ, ap, ap₂}
use Rattle.seal_core.specs.Hashes.{leaf_hash}
use Rattle.seal_core.proofs.MoreLeaves.{hashes_more}
use Rattle.seal_core.proofs.receipts.leaf_hashes.Goals as goal

pub loop-i-preserved : goal.loop-i-preserved
loop-i-preserved c =
    c.in_ok-push.ensures.items
    ∙ ap₂ (λ (hashes : List (List ℕ)) (hash : List ℕ). hashes ++ hash ∷ []) c.loop-i.invariant
    (c.leaf_hash.ensures ∙ ap leaf_hash (c.as_bytes.ensures.value ∙ c.in_ok-leaf.ensures))
    ∙ hashes_more c.args.ledger.now c.loop-i.i
