use Rattle.std.proofs.Common.{◌≡◌, All, List, ℕ, map, take}
use Rattle.hex.specs.Hex.{encode_lower}
use Rattle.serde_json.specs.Data.{string}
use Rattle.borrowed_json.specs.View.{view}
use Rattle.seal_core.specs.ReceiptReadings.{IsHash}
use Rattle.seal_core.proofs.receipt_fields.hashes_of.Given as goal

-- the hashes so far
abbrev pub invariant-loop-value : goal.invariant-loop-value
invariant-loop-value l = (hashes : List (List ℕ)) → All IsHash hashes
    → map view l.values ≡ map string (map encode_lower hashes)
    → l.hashes.items ≡ take l.value-index hashes
