-- Defines the lines that a museum gives out: seals and receipts.
use Rattle.std.specs.Prelude.{ℕ, ◌≡◌, ◌++◌, List, Option, codes}
use Rattle.seal_core.specs.Trees.{tree_head}
use Rattle.posting_core.specs.Book.{Book}
use Rattle.seal_core.specs.Leaves.{leaves}
use Rattle.seal_core.specs.ReceiptTexts.{receipt_text}
use Rattle.seal_core.specs.Receipts.{IsReceipt}
use Rattle.seal_core.specs.Seals.{seal_text, sealed_count}
use Rattle.seal_core.specs.declared.receipt.Receipt.{Receipt}
use Rattle.seal_core.specs.declared.seal.Seal.{Seal}

-- The seal of the first entries, so many.
abbrev pub seal_of : Book → ℕ → Seal
seal_of B count = record { entries = count; head = tree_head (leaves B count) }

abbrev pub seal_line : Book → Option ℕ → List ℕ
seal_line B upto = seal_text (seal_of B (sealed_count B upto)) ++ codes "\n"

-- The text is the receipt of the entry, and a line feed.
pub record IsReceiptLine (B : Book) (entry : ℕ) (upto : Option ℕ) (text : List ℕ) : Type 0 where
  pub receipt : Receipt
  pub is : IsReceipt B entry (sealed_count B upto) receipt
  pub printed : text ≡ receipt_text receipt ++ codes "\n"
