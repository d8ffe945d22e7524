-- Defines the receipt of an entry, when a receipt holds, and its text.
use Rattle.std.specs.Prelude.{ℕ, ◌≡◌, ◌-◌, ◌<◌, ◌≤◌, Some, length, string_bytes}
use Rattle.seal_core.specs.Hashes.{leaf_hash}
use Rattle.seal_core.specs.Paths.{audit_path, root_from}
use Rattle.seal_core.specs.Trees.{tree_head}
use Rattle.posting_core.specs.Book.{Book}
use Rattle.seal_core.specs.declared.receipt.Receipt.{Receipt}
use Rattle.seal_core.specs.Leaves.{entry_leaf, leaves}

-- The entry is among the first `size` entries, and these are posted.
pub record IsSealed (B : Book) (entry size : ℕ) : Type 0 where
  pub numbered : 0 < entry
  pub among : entry ≤ size
  pub posted : size ≤ length B.posted

-- It is the receipt of the entry with this number, in the tree of the first entries, so many.
pub record IsReceipt (B : Book) (number count : ℕ) (receipt : Receipt) : Type 0 where
  pub entry : receipt.entry ≡ number
  pub size : receipt.size ≡ count
  pub line : string_bytes receipt.line ≡ entry_leaf B (number - 1)
  pub path : receipt.path.items ≡ audit_path (number - 1) (leaves B count)
  pub head : receipt.head ≡ tree_head (leaves B count)

-- The receipt holds: the head is computed from the line and the path. No record is needed.
pub record ReceiptHolds (receipt : Receipt) : Type 0 where
  pub numbered : 0 < receipt.entry
  pub computed : root_from (leaf_hash (string_bytes receipt.line)) (receipt.entry - 1) receipt.size
      receipt.path.items ≡ Some receipt.head
