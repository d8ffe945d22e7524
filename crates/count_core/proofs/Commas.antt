-- The digits of a number, written one by one with commas.
use Rattle.std.specs.Prelude.{ℕ, ◌≡◌, ◌+◌, ◌-◌, ◌<◌, ◌^◌, ◌++◌, List, ◌∷◌, length, drop, decimal}
use Rattle.std.specs.Prelude.{slice_index, []}
use Rattle.std.specs.Str.{IsAscii}
use Rattle.std.proofs.Common.{arith, ap, sym, subst, ◌∙◌, append_assoc}
use Rattle.std.proofs.lemmas.Fmt.{IsAscii-decimal}
use Rattle.std.proofs.lemmas.List.{drop_more, length-drop}
use Rattle.count_core.specs.Summaries.{comma_after, with_commas}

-- one more digit
pub one_more : (digits before text now : List ℕ) (i digit after : ℕ)
    → text ++ with_commas (drop i digits) ≡ before ++ with_commas digits
    → now ≡ text ++ digit ∷ comma_after after → digit ≡ slice_index digits i → i < length digits
    → after ≡ length digits - i - 1
    → now ++ with_commas (drop (i + 1) digits) ≡ before ++ with_commas digits
one_more digits before text now i digit after up adds is within left =
    let rest = with_commas (drop (i + 1) digits) in
    let same : after ≡ length (drop (i + 1) digits) =
    omega (arith, length-drop (i + 1) digits, left) in
    ap (λ t. t ++ rest) adds ∙ append_assoc text (digit ∷ comma_after after) rest
    ∙ ap (λ n. text ++ (digit ∷ comma_after n ++ rest)) same
    ∙ ap (λ d. text ++ with_commas (d ∷ drop (i + 1) digits)) is
    ∙ ap (λ ds. text ++ with_commas ds) (sym (drop_more digits i 0 within)) ∙ up

pub digits_ascii : (n : ℕ) (digits : List ℕ) → digits ≡ decimal n → n < 2 ^ 64 → IsAscii digits
digits_ascii n digits is few = subst IsAscii (sym is) (IsAscii-decimal n few)
