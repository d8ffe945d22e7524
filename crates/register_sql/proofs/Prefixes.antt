-- A schema with this many tables can only be that prefix.
use Rattle.std.proofs.Common.{◌≡◌, ◌≤◌, ℕ, zero, suc, length, refl, sym, ap, ◌∙◌, arith}
use Rattle.sqlite.specs.Schema.{Schema}
use Rattle.register_sql.specs.Tables.{prefix}

same_prefix : (k : ℕ) → prefix (length (prefix k).tables) ≡ prefix k
same_prefix zero = refl
same_prefix (suc zero) = refl
same_prefix (suc (suc zero)) = refl
same_prefix (suc (suc (suc zero))) = refl
same_prefix (suc (suc (suc (suc zero)))) = refl
same_prefix (suc (suc (suc (suc (suc zero))))) = refl
same_prefix (suc (suc (suc (suc (suc (suc zero)))))) = refl
same_prefix (suc (suc (suc (suc (suc (suc (suc k))))))) = refl

few : (k : ℕ) → length (prefix k).tables ≤ 6
few zero = omega arith
few (suc zero) = omega arith
few (suc (suc zero)) = omega arith
few (suc (suc (suc zero))) = omega arith
few (suc (suc (suc (suc zero)))) = omega arith
few (suc (suc (suc (suc (suc zero))))) = omega arith
few (suc (suc (suc (suc (suc (suc zero)))))) = omega arith
few (suc (suc (suc (suc (suc (suc (suc k))))))) = omega arith

counted : (k : ℕ) → k ≤ 6 → length (prefix k).tables ≡ k
counted zero few = refl
counted (suc zero) few = refl
counted (suc (suc zero)) few = refl
counted (suc (suc (suc zero))) few = refl
counted (suc (suc (suc (suc zero)))) few = refl
counted (suc (suc (suc (suc (suc zero))))) few = refl
counted (suc (suc (suc (suc (suc (suc zero)))))) few = refl
counted (suc (suc (suc (suc (suc (suc (suc k))))))) few = absurd (omega (arith, few))

pub same_count : (j k : ℕ) → j ≤ 6 → k ≤ 6 → prefix j ≡ prefix k → j ≡ k
same_count j k few_j few_k same = sym (counted j few_j) ∙ ap (λ (s : Schema). length s.tables) same
    ∙ counted k few_k

pub by_count : (s : Schema) (k : ℕ) → s ≡ prefix k → s ≡ prefix (length s.tables)
by_count s k is = is ∙ sym (same_prefix k) ∙ ap (λ (t : Schema). prefix (length t.tables)) (sym is)

pub few_tables : (s : Schema) (k : ℕ) → s ≡ prefix k → length s.tables ≤ 6
few_tables s k is = rw is (few k)
