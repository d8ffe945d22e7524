-- The leaves of one more entry, and their hashes.
use Rattle.std.proofs.Common.{◌≡◌, ℕ, ◌+◌, [], ◌∷◌, ◌++◌, arith, map, sym, ap, ◌∙◌}
use Rattle.std.proofs.lemmas.List.FromFn.{map-range_with_len_more}
use Rattle.std.proofs.lemmas.List.{map-append}
use Rattle.seal_core.specs.Hashes.{leaf_hash}
use Rattle.posting_core.specs.Book.{Book}
use Rattle.seal_core.specs.Leaves.{entry_leaf, leaves}

pub leaves_more : (B : Book) (n : ℕ) → leaves B (n + 1) ≡ leaves B n ++ entry_leaf B n ∷ []
leaves_more B n = map-range_with_len_more (entry_leaf B) 0 n n (omega arith)

pub hashes_more : (B : Book) (n : ℕ) → map leaf_hash (leaves B n) ++ leaf_hash (entry_leaf B n) ∷ []
    ≡ map leaf_hash (leaves B (n + 1))
hashes_more B n = sym (map-append leaf_hash (leaves B n) (entry_leaf B n ∷ []))
    ∙ ap (map leaf_hash) (sym (leaves_more B n))
