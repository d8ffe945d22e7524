use Rattle.std.proofs.Common.{◌≡◌, ℕ, ◌-◌, ◌<◌, Bool, true, false, List, Some, None, refl}
use Rattle.std.proofs.Common.{ap, ◌∙◌, nat_lt, subst}
use borrow.Author.Tests.{ltb-true}
use Rattle.std.specs.Prelude.{string_bytes, if◌then◌else◌, Option}
use Rattle.seal_core.specs.Hashes.{leaf_hash}
use Rattle.seal_core.specs.Paths.{root_from}
use Rattle.seal_core.specs.Leaves.{entry_leaf, leaves}
use Rattle.seal_core.proofs.LeafNumbers.{leaf_at, leaf_count}
use Rattle.seal_core.proofs.laws.other_entries_collide.Goals as goal

-- a head is computed only for an index within the tree
chosen : (b : Bool) (found : Option (List ℕ)) (head : List ℕ)
    → (if b then found else None) ≡ Some head → b ≡ true
chosen true found head h = refl
chosen false found head h = cc

within : (hash : List ℕ) (i n : ℕ) (path : List (List ℕ)) (head : List ℕ)
    → root_from hash i n path ≡ Some head → i < n
within hash i n path head h = ltb-true i n (chosen (nat_lt i n) _ head h)

pub returns : goal.returns
returns c = λ B seal receipt held holds hashes size head differ.
    let i = receipt.entry - 1 in
    let n = seal.entries in
    let computed : root_from (leaf_hash (string_bytes receipt.line)) i n receipt.path.items
    ≡ Some receipt.head =
    subst (λ (k : ℕ). root_from (leaf_hash (string_bytes receipt.line)) i k receipt.path.items
    ≡ Some receipt.head) size holds.computed in
    let among : i < n = within _ i n receipt.path.items receipt.head computed in
    c.other_leaf_collides.ensures (leaves B n) i (entry_leaf B i) (string_bytes receipt.line)
    receipt.path.items (leaf_at B n i among) hashes
    (ap (λ k. root_from (leaf_hash (string_bytes receipt.line)) i k receipt.path.items)
    (leaf_count B n) ∙ computed ∙ ap Some (head ∙ held.head))
    differ
