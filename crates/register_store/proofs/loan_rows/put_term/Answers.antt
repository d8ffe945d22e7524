use Rattle.std.proofs.Common.{rules, ◌≡◌, ℤ, List, ℕ, Some, sym, subst, refl}
use Rattle.std.specs.Str.{bytes_eq}
use Rattle.std.specs.List.{IsDistinct}
use Rattle.std.specs.List.Sorted.{IsPermutation}
use Rattle.std.specs.Map.{keys_of}
use Rattle.std.proofs.lemmas.Slice.Eq.{bytes_eq-Decides}
use Rattle.indexmap.specs.IndexMap.{insert_entry}
use Rattle.register_store.specs.Plain.{term_rows}
use Rattle.register_store.specs.StoredRows.{TermRow, is_same_loan, put, term_of}
use Rattle.register_store.proofs.PutRows.{inserted}
use Rattle.register_store.proofs.TermRows.{with_term}
use Rattle.register_store.proofs.loan_rows.put_term.Goals as goal

pub returns-in-Some : goal.returns-in-Some
returns-in-Some c =
    let kept = c.args.kept.now.entries in
    let loan : List ℕ = c.in-Some.loan in
    let day : ℤ = c.in-Some.day in
    let t : TermRow = record { loan = loan; day = day } in
    let done : c.insert.new.self.entries ≡ insert_entry bytes_eq kept loan day = search rules in
    let unique = c.insert.ensures.unique in
    let said : term_of c.args.entry.now ≡ Some t = sym c.in-Some.ensures' in
    let put : IsPermutation (term_rows (insert_entry bytes_eq kept loan day))
    (put is_same_loan t (term_rows kept)) =
    inserted is_same_loan bytes_eq (λ k l e. (bytes_eq-Decides k l).0 e)
    (λ k d. record { loan = k; day = d }) (λ k l v w. refl) loan day kept
    (subst (λ es. IsDistinct bytes_eq (keys_of es)) done unique) in
    subst (λ es. IsPermutation (term_rows es)
    (with_term (term_of c.args.entry.now) (term_rows kept))) (sym done)
    (subst (λ o. IsPermutation (term_rows (insert_entry bytes_eq kept loan day))
    (with_term o (term_rows kept))) (sym said) put)
