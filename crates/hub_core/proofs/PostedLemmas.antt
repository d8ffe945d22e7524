-- The lines of posted entries.
use Rattle.std.proofs.Common.{◌≡◌, ℕ, zero, suc, ◌+◌, ◌-◌, ◌<◌, ◌≤◌, Bool, true, false}
use Rattle.std.proofs.Common.{if◌then◌else◌, List, [], ◌∷◌, ◌++◌, length, take, drop, get_or, refl}
use Rattle.std.proofs.Common.{ap, ◌∙◌, sym, subst, arith, length-append, length-take-le}
use Rattle.std.proofs.lemmas.Bool.Decides.{nat_tests}
use Rattle.std.specs.Prelude.{reverse, nat_lt}
use Rattle.std.proofs.lemmas.List.{take_more, take-append-drop, length-reverse, reverse-append}
use Rattle.posting_core.specs.declared.entry.Entry.{Entry}
use Rattle.posting_core.specs.VerdictNames.{verdict_name}
use Rattle.hub_core.specs.Replies.{posted_line}
use Rattle.hub_core.specs.LineText.{posted_lines}

-- entries before the number have no line
pub posted_none : (station : List ℕ) (first : ℕ) (P : List Entry) → length P < first
    → posted_lines station first P ≡ []
posted_none station first [] h = refl
posted_none station first (e ∷ P) h =
    let low : nat_lt (length P + 1) first ≡ true = grind (arith, nat_tests) in
    ap (λ t. if t then [] else posted_lines station first P ++ posted_line station e.n
    (length P + 1) (verdict_name e.verdict)) low

posted_one : (station : List ℕ) (first : ℕ) (e : Entry) (P : List Entry) → first ≤ length P + 1
    → posted_lines station first (e ∷ P) ≡ posted_lines station first P ++ posted_line station e.n
    (length P + 1) (verdict_name e.verdict)
posted_one station first e P h =
    let high : nat_lt (length P + 1) first ≡ false = grind (arith, nat_tests) in
    ap (λ t. if t then [] else posted_lines station first P ++ posted_line station e.n
    (length P + 1) (verdict_name e.verdict)) high

-- one more entry
pub posted_more : (station : List ℕ) (first i : ℕ) (es : List Entry) (d : Entry) → i < length es
    → first ≤ i + 1
    → posted_lines station first (reverse (take (i + 1) es)) ≡ posted_lines station first
    (reverse (take i es)) ++ posted_line station (get_or es i d).n (i + 1)
    (verdict_name (get_or es i d).verdict)
posted_more station first i es d less high =
    let P : List Entry = reverse (take i es) in
    let count : length P ≡ i = length-reverse (take i es) ∙ length-take-le i es (omega arith) in
    let e : Entry = get_or es i d in
    let back : reverse (take (i + 1) es) ≡ e ∷ P =
    ap reverse (take_more es i d less) ∙ reverse-append (take i es) (e ∷ []) in
    ap (posted_lines station first) back
    ∙ posted_one station first e P (omega arith)
    ∙ ap (λ n. posted_lines station first P ++ posted_line station e.n (n + 1)
    (verdict_name e.verdict)) count

take_few : (n : ℕ) (es : List Entry) → length (take n es) ≤ n
take_few zero es = omega arith
take_few (suc n) [] = omega arith
take_few (suc n) (e ∷ es) = let few = take_few n es in omega arith

-- no lines for entries before the number
pub posted_start : (station : List ℕ) (first start : ℕ) (es : List Entry) → start ≡ first - 1
    → posted_lines station first (reverse (take start es)) ≡ []
posted_start station zero start es e =
    ap (λ (n : ℕ). posted_lines station 0 (reverse (take n es))) e
posted_start station (suc n) start es e =
    let few = take_few start es in
    posted_none station (suc n) (reverse (take start es))
    (let back = length-reverse (take start es) in omega (arith, few, back))

-- more entries remove no line
posted_longer : (station : List ℕ) (first : ℕ) (P Q : List Entry)
    → length (posted_lines station first P) ≤ length (posted_lines station first (Q ++ P))
posted_longer station first P [] = omega arith
posted_longer station first P (e ∷ Q) =
    let few = posted_longer station first P Q in
    longer_by (nat_lt (length (Q ++ P) + 1) first) few refl
  where
    longer_by : (low : Bool) → length (posted_lines station first P) ≤ length
        (posted_lines station first (Q ++ P)) → nat_lt (length (Q ++ P) + 1) first ≡ low
        → length (posted_lines station first P) ≤ length (posted_lines station first (e ∷ (Q ++ P)))
    longer_by true few h =
        let less : length (Q ++ P) + 1 < first = grind (arith, nat_tests) in
        let both = length-append Q P in
        let none = ap length (posted_none station first P (omega (arith, less, both))) in
        omega (arith, none)
    longer_by false few h =
        let high : first ≤ length (Q ++ P) + 1 = grind (arith, nat_tests) in
        let one = ap length (posted_one station first e (Q ++ P) high) in
        let both = length-append (posted_lines station first (Q ++ P))
        (posted_line station e.n (length (Q ++ P) + 1) (verdict_name e.verdict)) in
        omega (arith, few, one, both)

-- the lines so far with the next one are no longer than all
pub posted_within : (station : List ℕ) (first i : ℕ) (es : List Entry) (e : Entry) (word : List ℕ)
    → e ≡ get_or es i e → word ≡ verdict_name e.verdict → i < length es → first ≤ i + 1
    → length (posted_lines station first (reverse (take i es))) + length
    (posted_line station e.n (i + 1) word) ≤ length (posted_lines station first (reverse es))
posted_within station first i es e word is named less high =
    let so_far : List ℕ = posted_lines station first (reverse (take i es)) in
    let one = ap length (posted_more station first i es e less high) in
    let both = length-append so_far
    (posted_line station (get_or es i e).n (i + 1) (verdict_name (get_or es i e).verdict)) in
    let longer = posted_longer station first (reverse (take (i + 1) es))
    (reverse (drop (i + 1) es)) in
    let back : reverse es ≡ reverse (drop (i + 1) es) ++ reverse (take (i + 1) es) =
    ap reverse (sym (take-append-drop (i + 1) es)) ∙ reverse-append (take (i + 1) es)
    (drop (i + 1) es) in
    let all = ap (λ (P : List Entry). length (posted_lines station first P)) back in
    subst (λ (w : List ℕ). length so_far + length (posted_line station e.n (i + 1) w) ≤ length
    (posted_lines station first (reverse es))) (sym named)
    (subst (λ (x : Entry). length so_far + length
    (posted_line station x.n (i + 1) (verdict_name x.verdict)) ≤ length
    (posted_lines station first (reverse es))) (sym is)
    (omega (arith, one, both, longer, all)))
