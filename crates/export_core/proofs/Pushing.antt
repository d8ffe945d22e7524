-- Rows that are pushed one after another.
use Rattle.std.proofs.Common.{Global, String, ◌≡◌, ◌∙◌, ℕ, ◌+◌, ◌++◌, ◌∷◌, [], List, ap, arith}
use Rattle.std.proofs.Common.{map, sym}
use Rattle.std.specs.Prelude.{string_bytes}
use Rattle.std.specs.List.{range_with_len}
use Rattle.std.proofs.lemmas.List.{map-append}
use Rattle.std.proofs.lemmas.List.FromFn.{map-range_with_len_more}

-- a row is pushed
pub pushed : (rows more : List (String Global)) (row : String Global) (text : List ℕ)
    → more ≡ rows ++ row ∷ [] → string_bytes row ≡ text
    → map string_bytes more ≡ map string_bytes rows ++ text ∷ []
pushed rows more row text push is =
    ap (map string_bytes) push
    ∙ (map-append string_bytes rows (row ∷ [])
    ∙ ap (λ t. map string_bytes rows ++ t ∷ []) is)

-- the row of the next number is pushed
pub numbered_more : (f : ℕ → List ℕ) (n : ℕ) (rows more : List (String Global))
    (row : String Global) → more ≡ rows ++ row ∷ [] → string_bytes row ≡ f n
    → map string_bytes rows ≡ map f (range_with_len 0 n)
    → map string_bytes more ≡ map f (range_with_len 0 (n + 1))
numbered_more f n rows more row push is before =
    let next : 0 + n ≡ n = omega arith in
    pushed rows more row (f n) push is
    ∙ (ap (λ t. t ++ f n ∷ []) before ∙ sym (map-range_with_len_more f 0 n n next))
