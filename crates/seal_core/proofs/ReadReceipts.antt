-- The text of a receipt reads as its object.
use Rattle.std.proofs.Common.{◌≡◌, ℕ, ◌≤◌, ◌<◌, ◌^◌, List, [], ◌∷◌, map, Some, arith, refl}
use Rattle.hex.specs.Hex.{encode_lower}
use Rattle.json.specs.Json as values
use Rattle.json.specs.Tree as tree
use Rattle.json.specs.Tree.{HasNumbers, ItemsHaveNumbers}
use Rattle.json.proofs.Printed.Decimals.{IsNumber-decimal}
use Rattle.serde_json.specs.Data.{string}
use Rattle.serde_json.specs.Read as serde
use Rattle.serde_json.specs.Read.{max_depth, read}
use Rattle.serde_json.specs.View.{items_of}
use Rattle.serde_json.specs.Written.{items_outline, outline}
use Rattle.serde_json.proofs.Numbers.{number_of-decimal}
use Rattle.register_store.proofs.ReadTexts.{read_compact}
use Rattle.seal_core.specs.declared.receipt.Receipt.{Receipt}
use Rattle.seal_core.specs.ReceiptReadings.{IsWhole}
use Rattle.seal_core.specs.ReceiptTexts.{receipt_json, receipt_text}

-- the path's texts

abbrev texts : List (List ℕ) → values.Items
texts hashes = items_outline (items_of (map string (map encode_lower hashes)))

texts_numbers : (hashes : List (List ℕ)) → ItemsHaveNumbers (texts hashes)
texts_numbers [] = tt
texts_numbers (hash ∷ hashes) = (tt, texts_numbers hashes)

flat : (hashes : List (List ℕ)) → tree.items_depth (texts hashes) ≡ 0
flat [] = refl
flat (hash ∷ hashes) = rw (flat hashes) refl

texts_back : (hashes : List (List ℕ))
    → serde.of_items (texts hashes) ≡ Some (items_of (map string (map encode_lower hashes)))
texts_back [] = refl
texts_back (hash ∷ hashes) = rw (texts_back hashes) refl

-- the object

few : (n k : ℕ) → n ≡ k → k ≤ 2 → n ≤ max_depth
few n k same small = omega arith

numbers : (r : Receipt) → IsWhole r → HasNumbers (outline (receipt_json r))
numbers r whole = (
  IsNumber-decimal r.entry (omega (arith, whole.entry)),
  (
    tt,
    (
      tt,
      (
        texts_numbers r.path.items,
        (IsNumber-decimal r.size (omega (arith, whole.size)), tt),
      ),
    ),
  ),
)

shallow : (r : Receipt) → tree.depth (outline (receipt_json r)) ≤ max_depth
shallow r = few _ 2 (rw (flat r.path.items) refl) (omega arith)

back : (r : Receipt) → IsWhole r
    → serde.of_json (outline (receipt_json r)) ≡ Some (receipt_json r)
back r whole =
    let entry : r.entry < 2 ^ 64 = omega (arith, whole.entry) in
    let size : r.size < 2 ^ 64 = omega (arith, whole.size) in
    rw (
      number_of-decimal r.entry entry,
      number_of-decimal r.size size,
      texts_back r.path.items,
    ) refl

pub read_back : (r : Receipt) → IsWhole r → read (receipt_text r) ≡ Some (receipt_json r)
read_back r whole = read_compact (receipt_json r) (receipt_json r) (numbers r whole) (shallow r)
    (back r whole)
