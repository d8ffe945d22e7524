-- Defines the result of checking a receipt in a file, and the printed text.
use Rattle.std.specs.Prelude.{ℕ, ◌≡◌, ◌++◌, ◌↔◌, [], Bool, IsTrue, List, codes}
use Rattle.std.specs.Prelude.{if◌then◌else◌, string_bytes}
use Rattle.seal_core.specs.ReceiptReadings.{IsWhole}
use Rattle.seal_core.specs.ReceiptTexts.{receipt_text}
use Rattle.seal_core.specs.Receipts.{ReceiptHolds}
use Rattle.seal_core.specs.Seals.{seal_text}
use Rattle.seal_core.specs.declared.receipt.Receipt.{Receipt}
use Rattle.seal_core.specs.declared.receipt_fault.ReceiptFault.{ReceiptFault}
use Rattle.seal_core.specs.declared.receipt_fault.ReceiptFault.TheVariants.{NoMemory, NotReceipt}
use Rattle.seal_core.specs.declared.seal.Seal.{Seal}
use Rattle.seal_core.specs.FileLines.{trimmed}
use Rattle.seal_core.specs.SealChecks.{seal_row}
use Rattle.codes_core.specs.VisibleText.{on_one_line}

-- The seal that a receipt belongs to.
abbrev pub seal_of_receipt : Receipt → Seal
seal_of_receipt receipt = record { entries = receipt.size; head = receipt.head }

-- The receipt's seal and its entry, each on a line. Control characters of the entry are written by
-- their numbers: a forged receipt could have some.
abbrev pub shown : Receipt → List ℕ
shown receipt = codes "seal " ++ seal_text (seal_of_receipt receipt) ++ codes "\nentry "
    ++ on_one_line (string_bytes receipt.line) ++ codes "\n"

-- 12 holds, and the seal and the entry; or 12 broken.
abbrev pub receipt_check_text : Receipt → Bool → List ℕ
receipt_check_text receipt holds =
    seal_row receipt.entry holds ++ (if holds then shown receipt else [])

-- The result of checking a file that has the text of a receipt, and the printed text.
pub record ChecksReceipt (bytes text : List ℕ) (holds : Bool) : Type 0 where
  pub receipt : Receipt
  pub read : receipt_text receipt ≡ trimmed bytes
  pub right : IsTrue holds ↔ ReceiptHolds receipt
  pub printed : text ≡ receipt_check_text receipt holds

-- The file has the text of a receipt, as a program writes it.
pub record HasReceipt (bytes : List ℕ) : Type 0 where
  pub receipt : Receipt
  pub whole : IsWhole receipt
  pub written : receipt_text receipt ≡ trimmed bytes

-- Why no receipt of the file is checked.
abbrev pub IsNoReceipt : List ℕ → ReceiptFault → Type 0
IsNoReceipt bytes NotReceipt = ¬ HasReceipt bytes
IsNoReceipt bytes NoMemory = Unit {0}
