-- One more field of a heading.
use Rattle.std.proofs.Common.{◌≡◌, ℕ, ◌+◌, ◌<◌, true, false, cond, List, [], ◌∷◌, ◌++◌, length}
use Rattle.std.proofs.Common.{get_or, drop, refl, sym, ap, ◌∙◌}
use Rattle.std.proofs.lemmas.List.{at_drop_more}
use Rattle.table_core.specs.Columns.{is_unknown, unknown_from}

-- the unknown fields from this one on
pub unknown_more : (words : List (List ℕ)) (i : ℕ) (word : List ℕ) → i < length words
    → word ≡ get_or words i word → unknown_from (i + 1) (drop i words)
    ≡ cond (is_unknown word) ((i + 1) ∷ []) []
    ++ unknown_from (i + 1 + 1) (drop (i + 1) words)
unknown_more words i word below here =
    let more : List ℕ = unknown_from (i + 1 + 1) (drop (i + 1) words) in
    at_drop_more (unknown_from (i + 1)) words i word below
    ∙ ap (λ w. cond (is_unknown w) ((i + 1) ∷ more) more) (sym here)
    ∙ elim (is_unknown word) as (λ b. cond b ((i + 1) ∷ more) more
    ≡ cond b ((i + 1) ∷ []) [] ++ more) [ true ↦ refl | false ↦ refl ]
