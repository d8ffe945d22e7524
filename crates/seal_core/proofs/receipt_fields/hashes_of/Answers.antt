use Rattle.std.proofs.Common.{◌++◌, ◌∙◌, [], ◌∷◌, ℕ, List, ap₂, sym}
use Rattle.std.proofs.lemmas.List.{take_more}
use Rattle.std.specs.Option.{unwrap_or}
use Rattle.std.proofs.Common.{ap}
use Rattle.seal_core.proofs.HashItems.{hash_at}
use Rattle.seal_core.proofs.receipt_fields.hashes_of.Goals as goal

pub returns-in_default : goal.returns-in_default
returns-in_default c = λ hashes all same.
    let at = hash_at c.args.values.now hashes c.loop-value.value-index c.value-item.result
    c.loop-value-test.true c.value-item.is all same in
    let found = c.in_default.ensures _ at.is_hash at.spelled in cc found

pub loop-value-preserved : goal.loop-value-preserved
loop-value-preserved c = λ hashes all same.
    let at = hash_at c.args.values.now hashes c.loop-value.value-index c.value-item.result
    c.loop-value-test.true c.value-item.is all same in
    let found = c.in-Some.ensures _ at.is_hash at.spelled in
    c.in_ok-push.ensures.items
    ∙ ap₂ (λ (front : List (List ℕ)) (hash : List ℕ). front ++ hash ∷ [])
    (c.loop-value.invariant hashes all same) (ap (λ o. unwrap_or o []) found)
    ∙ sym (take_more hashes c.loop-value.value-index [] at.within)
