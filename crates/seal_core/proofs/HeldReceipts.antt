-- The receipt of an entry holds.
use Rattle.std.proofs.Common.{◌≡◌, ℕ, ◌-◌, ◌<◌, ◌≤◌, Some, arith, sym, subst}
use Rattle.seal_core.specs.Hashes.{leaf_hash}
use Rattle.seal_core.specs.Paths.{audit_path, root_from}
use Rattle.seal_core.specs.Trees.{tree_head}
use Rattle.seal_core.proofs.Complete.{audit_path-complete}
use Rattle.posting_core.specs.Book.{Book}
use Rattle.seal_core.specs.declared.receipt.Receipt.{Receipt}
use Rattle.seal_core.specs.Leaves.{entry_leaf, leaves}
use Rattle.seal_core.specs.Receipts.{IsReceipt, ReceiptHolds}
use Rattle.seal_core.proofs.LeafNumbers.{leaf_at, leaf_count}

-- of an entry within the tree
computed : (B : Book) (entry size : ℕ) → 0 < entry → entry ≤ size
    → root_from (leaf_hash (entry_leaf B (entry - 1))) (entry - 1) size
    (audit_path (entry - 1) (leaves B size)) ≡ Some (tree_head (leaves B size))
computed B entry size numbered among =
    let i = entry - 1 in
    let L = leaves B size in
    subst (λ (n : ℕ). root_from (leaf_hash (entry_leaf B i)) i n (audit_path i L)
    ≡ Some (tree_head L)) (leaf_count B size)
    (audit_path-complete L i (entry_leaf B i) (leaf_at B size i (omega (arith, numbered, among))))

pub receipt_holds : (B : Book) (entry size : ℕ) (receipt : Receipt) → 0 < entry → entry ≤ size
    → IsReceipt B entry size receipt → ReceiptHolds receipt
receipt_holds B entry size receipt numbered among is =
    record {
      numbered = subst (λ (n : ℕ). 0 < n) (sym is.entry) numbered;
      computed = rw (is.entry, is.size, is.line, is.path, is.head)
          (computed B entry size numbered among);
    }
