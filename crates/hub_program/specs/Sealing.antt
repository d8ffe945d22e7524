-- Defines the text that `seal` and `receipt` print. `o` and `o'` are the bytes of the output
-- before and after.
use Rattle.std.specs.Prelude.{ℕ, ◌≡◌, ◌++◌, Bool, List, Option}
use Rattle.std.specs.Io.KnownBytes.{Appends}
use Rattle.posting_core.specs.Book.{Book}
use Rattle.seal_core.specs.Printing.{IsReceiptLine}
use Rattle.seal_core.specs.ReceiptChecks.{ChecksReceipt}
use Rattle.seal_core.specs.SealChecks.{Checks}

-- Whether the seals in a file hold, and a note if there is help. The result is whether the file has
-- a seal, and each line that is not empty is a seal that holds.
pub record PrintsChecks (L : Book) (bytes : List ℕ) (o o' : Option (List ℕ))
    (notes notes' : List ℕ) (fine : Bool) : Type 0 where
  pub text : List ℕ
  pub help : List ℕ
  pub checked : Checks L bytes text fine help
  pub printed : Appends o o' text
  pub noted : notes' ≡ notes ++ help

-- The receipt of an entry.
pub record PrintsReceipt (L : Book) (entry : ℕ) (upto : Option ℕ) (o o' : Option (List ℕ))
    : Type 0 where
  pub text : List ℕ
  pub is : IsReceiptLine L entry upto text
  pub printed : Appends o o' text

-- Whether the receipt in a file holds, which is the result.
pub record PrintsReceiptCheck (bytes : List ℕ) (o o' : Option (List ℕ)) (holds : Bool)
    : Type 0 where
  pub text : List ℕ
  pub checked : ChecksReceipt bytes text holds
  pub printed : Appends o o' text
