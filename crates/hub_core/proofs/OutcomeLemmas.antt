-- The outcomes of posted entries.
use Rattle.std.proofs.Common.{◌≡◌, ℕ, zero, suc, ◌+◌, ◌-◌, ◌<◌, ◌≤◌, List, [], ◌∷◌, ◌++◌, length}
use Rattle.std.proofs.Common.{map, take, drop, get_or, refl, ap, ◌∙◌, sym, arith, length-take-le}
use Rattle.std.specs.Prelude.{reverse}
use Rattle.std.proofs.lemmas.List.{take_more, map-append, drop-append-le, reverse-reverse}
use Rattle.posting_core.specs.declared.entry.Entry.{Entry}
use Rattle.hub_core.specs.declared.outcome.Outcome.{Outcome}
use Rattle.hub_core.specs.declared.outcome.Outcome.TheVariants as outcome
use Rattle.hub_core.specs.Outcomes.{posted_outcomes}

-- the outcomes of these entries, listed oldest first, from number `first` on
abbrev pub from_first : ℕ → List Entry → List Outcome
from_first first es = map (λ (e : Entry). outcome.Posted e.verdict) (drop (first - 1) es)

drop_few : (n : ℕ) (es : List Entry) → length es ≤ n → drop n es ≡ []
drop_few zero [] h = refl
drop_few (suc n) [] h = refl
drop_few zero (e ∷ es) h = absurd (omega arith)
drop_few (suc n) (e ∷ es) h = drop_few n es (omega arith)

take_few : (n : ℕ) (es : List Entry) → length (take n es) ≤ n
take_few zero es = omega arith
take_few (suc n) [] = omega arith
take_few (suc n) (e ∷ es) = let few = take_few n es in omega arith

take_whole : (n : ℕ) (es : List Entry) → length es ≤ n → take n es ≡ es
take_whole zero [] h = refl
take_whole (suc n) [] h = refl
take_whole zero (e ∷ es) h = absurd (omega arith)
take_whole (suc n) (e ∷ es) h = ap (λ (xs : List Entry). e ∷ xs) (take_whole n es (omega arith))

-- none before that number
pub from_start : (first start : ℕ) (es : List Entry) → start ≡ first - 1
    → from_first first (take start es) ≡ []
from_start first start es e =
    let few = take_few start es in
    ap (map (λ (e : Entry). outcome.Posted e.verdict))
    (drop_few (first - 1) (take start es) (omega (arith, few)))

-- one more entry
pub from_more : (first i : ℕ) (es : List Entry) (d : Entry) → first ≤ i + 1 → i < length es
    → from_first first (take (i + 1) es) ≡ from_first first (take i es) ++ outcome.Posted
    (get_or es i d).verdict ∷ []
from_more first i es d low less =
    let count = length-take-le i es (omega arith) in
    ap (from_first first) (take_more es i d less)
    ∙ ap (map (λ (e : Entry). outcome.Posted e.verdict))
    (drop-append-le (first - 1) (take i es) (get_or es i d ∷ []) (omega (arith, count)))
    ∙ map-append (λ (e : Entry). outcome.Posted e.verdict) (drop (first - 1) (take i es))
    (get_or es i d ∷ [])

-- all of them
pub from_all : (first i : ℕ) (es : List Entry) → length es ≤ i
    → from_first first (take i es) ≡ posted_outcomes first (reverse es)
from_all first i es h = ap (from_first first) (take_whole i es h ∙ sym (reverse-reverse es))
