use Rattle.std.proofs.Common.{List, Vec, Global, ℕ, [], ◌∷◌, ◌++◌, ap, sym, ◌∙◌, arith, ◌<◌, length}
use Rattle.std.proofs.Common.{filter, take}
use Rattle.std.proofs.lemmas.Grind.{flat_map-append}
use Rattle.std.proofs.lemmas.List.{append-nil}
use Rattle.std.specs.List.{flat_map}
use Rattle.std.specs.Option.{option_map_or}
use Rattle.posting_core.specs.Agreements.{agreement}
use Rattle.posting_core.specs.Book.{loans_in}
use Rattle.count_core.proofs.Ranges.{filter_take_with, filter_take_without}
use Rattle.reports.specs.declared.reports.dues.Due.{Due}
use Rattle.reports.specs.LoanLists.{dues_of, ends_by}
use Rattle.reports.proofs.reports.dues.list_dues.Goals as goal
use Rattle.reports.proofs.reports.dues.list_dues.Goals.{then-ends_by+in_ok-add_dues, else-ends_by}

pub loop-i-preserved : goal.loop-i-preserved
loop-i-preserved c =
    let B = c.args.ledger.now in
    let test = ends_by B c.args.day in
    let below : c.loop-i.i < length (loans_in B) = omega (arith, c.loop-i-test.true) in
    let due : List ℕ → List Due = λ loan. option_map_or (dues_of B) (agreement B.posted loan) [] in
    let loan = c.loan_at-loan.result in
    elim c.if-ends_by.branch [
      | then-ends_by+in_ok-add_dues w ↦
          ap (λ (v : Vec Due Global). v.items) w.found-is
          ∙ (w.in_ok-add_dues.ensures ∙ (ap (λ xs. xs ++ due loan) c.loop-i.invariant
          ∙ (ap (λ xs. flat_map due (filter test (take c.loop-i.i (loans_in B))) ++ xs)
          (sym (append-nil (due loan)))
          ∙ (sym (flat_map-append due (filter test (take c.loop-i.i (loans_in B))) (loan ∷ []))
          ∙ ap (flat_map due) (sym (filter_take_with test (loans_in B) c.loop-i.i loan below
          c.loan_at-loan.ensures.loan (sym c.ends_by.ensures ∙ w.if-ends_by.true)))))))
      | else-ends_by w ↦
          ap (λ (v : Vec Due Global). v.items) w.found-is
          ∙ (c.loop-i.invariant ∙ ap (flat_map due) (sym (filter_take_without test (loans_in B)
          c.loop-i.i loan below c.loan_at-loan.ensures.loan
          (sym c.ends_by.ensures ∙ w.if-ends_by.false))))
    ]
