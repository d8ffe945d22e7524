-- A text without the byte order mark before it.
use Rattle.std.specs.Prelude.{◌≡◌, ℕ, ◌==◌, ◌&&◌, Bool, true, false, cond, List, [], ◌∷◌, drop}
use Rattle.std.specs.Prelude.{nat_eq}
use Rattle.std.specs.Prelude.{refl}
use Rattle.std.specs.List.{starts_with}
use Rattle.std.proofs.Common.{ap, ◌∙◌}
use Rattle.std.proofs.lemmas.Cmp.{nat_eq_equiv}
use Rattle.csv.specs.Reading.{strip_bom}
use Rattle.table_core.specs.Marks.{mark}

-- by whether the text begins with a byte order mark
stripped : (bytes : List ℕ) → cond (starts_with nat_eq bytes mark) (drop 3 bytes) bytes
    ≡ strip_bom bytes
unfolding strip_bom
stripped [] = refl
stripped (a ∷ []) = by (nat_eq 0xEF a)
  where
    by : (p : Bool) → cond (p && false) [] (a ∷ []) ≡ a ∷ []
    by true = refl
    by false = refl
stripped (a ∷ b ∷ []) = by (nat_eq 0xEF a) (nat_eq 0xBB b)
  where
    by : (p q : Bool) → cond (p && (q && false)) [] (a ∷ b ∷ []) ≡ a ∷ b ∷ []
    by true true = refl
    by true false = refl
    by false q = refl
stripped (a ∷ b ∷ c ∷ rest) =
    ap (λ (p : Bool). cond (p && (nat_eq 0xBB b && (nat_eq 0xBF c && true))) rest
    (a ∷ b ∷ c ∷ rest)) (nat_eq_equiv.symm 0xEF a)
    ∙ ap (λ (q : Bool). cond (nat_eq a 0xEF && (q && (nat_eq 0xBF c && true))) rest
    (a ∷ b ∷ c ∷ rest)) (nat_eq_equiv.symm 0xBB b)
    ∙ ap (λ (r : Bool). cond (nat_eq a 0xEF && (nat_eq b 0xBB && (r && true))) rest
    (a ∷ b ∷ c ∷ rest)) (nat_eq_equiv.symm 0xBF c)
    ∙ by (a == 0xEF) (b == 0xBB) (c == 0xBF)
  where
    by : (p q r : Bool) → cond (p && (q && (r && true))) rest (a ∷ b ∷ c ∷ rest)
        ≡ cond (p && q && r) rest (a ∷ b ∷ c ∷ rest)
    by true true true = refl
    by true true false = refl
    by true false r = refl
    by false q r = refl

pub with_mark : (bytes : List ℕ) (marked : Bool) → marked ≡ starts_with nat_eq bytes mark
    → marked ≡ true → drop 3 bytes ≡ strip_bom bytes
with_mark bytes true is e =
    ap (λ (b : Bool). cond b (drop 3 bytes) bytes) is ∙ stripped bytes
with_mark bytes false is e = absurd (cc)

pub without_mark : (bytes : List ℕ) (marked : Bool) → marked ≡ starts_with nat_eq bytes mark
    → marked ≡ false → bytes ≡ strip_bom bytes
without_mark bytes false is e =
    ap (λ (b : Bool). cond b (drop 3 bytes) bytes) is ∙ stripped bytes
without_mark bytes true is e = absurd (cc)
