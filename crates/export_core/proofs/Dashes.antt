-- The last dash of a code.
use Rattle.std.proofs.Common.{◌≡◌, ℕ, ◌+◌, ◌<◌, ◌==◌, ◌||◌, ◌∙◌, ◌∷◌, [], Bool, List, ap, arith}
use Rattle.std.proofs.Common.{add-one, cond, drop, false, get_or, length, refl, subst, suc, sym}
use Rattle.std.proofs.Common.{take, true, zero}
use Rattle.std.proofs.lemmas.Bool.Decides.{nat_tests}
use Rattle.std.proofs.lemmas.List.Folds.{list_any_at}
use Rattle.export_core.specs.Setups.{before_last_dash, has_dash}

next : (e : ℕ) → suc e + 1 ≡ suc (e + 1)
next e = add-one (suc e) ∙ ap suc (sym (add-one e))

-- there is none from the next byte on, and none here
pub no_dash : (t : List ℕ) (e d : ℕ) → e < length t → (get_or t e d ≡ 45 → ⊥)
    → has_dash (drop (e + 1) t) ≡ false → has_dash (drop e t) ≡ false
no_dash [] e d within other none = absurd (omega (arith, within))
no_dash (x ∷ xs) zero d within other none =
    let here : (x == 45) ≡ false = grind (arith, nat_tests, other) in
    ap (λ b. b || has_dash xs) here ∙ none
no_dash (x ∷ xs) (suc e) d within other none =
    no_dash xs e d (omega (arith, within)) other
    (subst (λ k. has_dash (drop k (x ∷ xs)) ≡ false) (next e) none)

-- the last dash is here
pub dash_here : (t : List ℕ) (e d : ℕ) → e < length t → get_or t e d ≡ 45
    → has_dash (drop (e + 1) t) ≡ false → take e t ≡ before_last_dash t
dash_here [] e d within is none = absurd (omega (arith, within))
dash_here (x ∷ xs) zero d within is none =
    sym (ap (λ b. cond b (x ∷ before_last_dash xs) []) none)
dash_here (x ∷ xs) (suc e) d within is none =
    let less : e < length xs = omega (arith, within) in
    let none_there : has_dash (drop (e + 1) xs) ≡ false =
    subst (λ k. has_dash (drop k (x ∷ xs)) ≡ false) (next e) none in
    let dash : (get_or xs e d == 45) ≡ true = grind (arith, nat_tests, is) in
    let later : has_dash xs ≡ true = list_any_at (λ b. b == 45) xs e d less dash in
    ap (λ l. x ∷ l) (dash_here xs e d less is none_there)
    ∙ sym (ap (λ b. cond b (x ∷ before_last_dash xs) []) later)

or_false : (a b : Bool) → (a || b) ≡ false → b ≡ false
or_false true b h = absurd (cc h)
or_false false b h = h

-- there is none
pub no_dash_at_all : (t : List ℕ) → has_dash t ≡ false → [] ≡ before_last_dash t
no_dash_at_all [] none = refl
no_dash_at_all (x ∷ xs) none =
    sym (ap (λ b. cond b (x ∷ before_last_dash xs) []) (or_false (x == 45) (has_dash xs) none))
