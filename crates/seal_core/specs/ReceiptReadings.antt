-- Defines when a receipt is whole, and when two receipts are the same.
use Rattle.std.specs.Prelude.{ℕ, ◌≡◌, ◌<◌, ◌^◌, All, List, length, string_bytes}
use Rattle.std.specs.Str.{IsUtf8}
use Rattle.hex.specs.Hex.{IsBytes}
use Rattle.seal_core.specs.declared.receipt.Receipt.{Receipt}

-- The list has the 32 bytes of a hash.
pub record IsHash (hash : List ℕ) : Type 0 where
  pub few : length hash ≡ 32
  pub are_bytes : IsBytes hash

-- Its numbers and hashes have their sizes, and its line is UTF-8, as those of every receipt that a
-- program holds are.
pub record IsWhole (receipt : Receipt) : Type 0 where
  pub entry : receipt.entry < 2 ^ 32
  pub text : IsUtf8 (string_bytes receipt.line)
  pub size : receipt.size < 2 ^ 32
  pub head : IsHash receipt.head
  pub path : All IsHash receipt.path.items

-- The two receipts are the same.
pub record IsSame (found receipt : Receipt) : Type 0 where
  pub entry : found.entry ≡ receipt.entry
  pub line : string_bytes found.line ≡ string_bytes receipt.line
  pub size : found.size ≡ receipt.size
  pub head : found.head ≡ receipt.head
  pub path : found.path.items ≡ receipt.path.items
