-- Defines the seal of a record, its text, and when a seal holds.
use Rattle.std.specs.Prelude.{ℕ, ◌≡◌, ◌≤◌, ◌++◌, List, codes, decimal, length, if◌then◌else◌}
use Rattle.std.specs.Prelude.{Bool, Option, unwrap_or}
use Rattle.hex.specs.Hex.{encode_lower}
use Rattle.seal_core.specs.Trees.{tree_head}
use Rattle.posting_core.specs.Book.{Book}
use Rattle.seal_core.specs.declared.seal.Seal.{Seal}
use Rattle.seal_core.specs.Leaves.{leaves}

-- The number of entries to seal: all of them, unless a number is given.
abbrev pub sealed_count : Book → Option ℕ → ℕ
sealed_count B upto = unwrap_or upto (length B.posted)

-- The record has the entries that were sealed, and they are as they were: the seal holds.
pub record Holds (B : Book) (seal : Seal) : Type 0 where
  pub posted : seal.entries ≤ length B.posted
  pub head : seal.head ≡ tree_head (leaves B seal.entries)

-- 80000 sha256:1029.., with the 64 digits of the head in lower case.
abbrev pub seal_text : Seal → List ℕ
seal_text seal = decimal seal.entries ++ codes " sha256:" ++ encode_lower seal.head

-- 80000 holds, or 80000 broken.
abbrev pub check_text : ℕ → Bool → List ℕ
check_text n holds = decimal n ++ (if holds then codes " holds" else codes " broken")
