-- The leaves of a record by number, and the receipts of its entries.
use Rattle.std.proofs.Common.{◌≡◌, ℕ, ◌<◌, []}
use Rattle.std.proofs.Common.{Some, length, map, ap, ◌∙◌, arith}
use Rattle.std.specs.List.{slice_get}
use Rattle.std.proofs.lemmas.List.FromFn.{get_or-map-range_with_len, length-map-range_with_len}
use Rattle.std.proofs.lemmas.Option.{slice_get-get_or}
use Rattle.std.proofs.lemmas.List.{length-map}
use Rattle.seal_core.specs.Hashes.{leaf_hash}
use Rattle.posting_core.specs.Book.{Book}
use Rattle.seal_core.specs.Leaves.{entry_leaf, leaves}

pub leaf_count : (B : Book) (n : ℕ) → length (leaves B n) ≡ n
leaf_count B n = length-map-range_with_len (entry_leaf B) 0 n

pub leaf_at : (B : Book) (n i : ℕ) → i < n → slice_get (leaves B n) i ≡ Some (entry_leaf B i)
leaf_at B n i within =
    let count = leaf_count B n in
    slice_get-get_or (leaves B n) i [] (omega (arith, count, within))
    ∙ ap Some (get_or-map-range_with_len (entry_leaf B) 0 n i i [] within (omega arith))

pub hash_count : (B : Book) (n : ℕ) → length (map leaf_hash (leaves B n)) ≡ n
hash_count B n = length-map (leaves B n) leaf_hash ∙ leaf_count B n
