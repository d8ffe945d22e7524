-- Line keys that compare equal are the same.
use Rattle.std.specs.Prelude.{◌≡◌, ◌&&◌, ◌==◌, ℕ, Bool, true, false, List, refl}
use Rattle.std.proofs.Common.{ap, ◌∙◌, arith}
use Rattle.std.specs.Bool.{Decides}
use Rattle.std.specs.Str.{bytes_eq}
use Rattle.std.proofs.lemmas.Bool.Decides.{nat_tests}
use Rattle.std.proofs.lemmas.Slice.Eq.{bytes_eq-Decides}
use Rattle.register_store.specs.declared.loan_rows.LineKey.{LineKey}
use Rattle.register_store.specs.contracts.loan_rows.LineKeyPartialEq.TheImpl.{ghosts}

pub key_is : (k m : LineKey) → (ghosts).eq k m ≡ true → k ≡ m
key_is k m = by (bytes_eq k.loan m.loan) (k.object == m.object) refl refl
  where
    key : List ℕ → ℕ → LineKey
    key l o = record { loan = l; object = o }

    by : (a b : Bool) → bytes_eq k.loan m.loan ≡ a → (k.object == m.object) ≡ b
        → (a && b) ≡ true → k ≡ m
    by true true h i both =
        let loans : k.loan ≡ m.loan = (bytes_eq-Decides k.loan m.loan).0 h in
        let objects : k.object ≡ m.object = grind (arith, nat_tests) in
        ap (λ l. key l k.object) loans ∙ ap (key m.loan) objects
    by true false h i both = absurd (cc)
    by false b h i both = absurd (cc)

pub key_decides : (k m : LineKey) → Decides ((ghosts).eq k m) (k ≡ m)
key_decides k m = (key_is k m, λ same. rw same (itself m))
  where
    itself : (k : LineKey) → (ghosts).eq k k ≡ true
    itself k =
        let loans : bytes_eq k.loan k.loan ≡ true = (bytes_eq-Decides k.loan k.loan).1 refl in
        let objects : (k.object == k.object) ≡ true = grind (arith, nat_tests) in
        rw (loans, objects) refl
