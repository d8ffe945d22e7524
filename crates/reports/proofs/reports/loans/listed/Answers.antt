use Rattle.std.proofs.Common.{List, Vec, Global, ℕ, [], ◌∷◌, ◌++◌, ap, sym, ◌∙◌, arith, ◌<◌, length}
use Rattle.posting_core.specs.Book.{loans_in}
use Rattle.count_core.proofs.Ranges.{filter_take_with, filter_take_without}
use Rattle.reports.specs.LoanLists.{is_listed}
use Rattle.reports.proofs.reports.loans.listed.Goals as goal
use Rattle.reports.proofs.reports.loans.listed.Goals.{then-is_listed+in_ok-push, else-is_listed}

pub loop-i-preserved : goal.loop-i-preserved
loop-i-preserved c =
    let B = c.args.ledger.now in
    let test = is_listed B c.args.asked.now in
    let below : c.loop-i.i < length (loans_in B) = omega (arith, c.loop-i-test.true) in
    elim c.if-is_listed.branch [
      | then-is_listed+in_ok-push w ↦
          ap (λ (v : Vec (List ℕ) Global). v.items) w.loans-is
          ∙ (w.in_ok-push.ensures.items ∙ (ap (λ xs. xs ++ c.loan_at-loan.result ∷ [])
          c.loop-i.invariant
          ∙ sym (filter_take_with test (loans_in B) c.loop-i.i c.loan_at-loan.result below
          c.loan_at-loan.ensures.loan (sym c.is_listed.ensures ∙ w.if-is_listed.true))))
      | else-is_listed w ↦
          ap (λ (v : Vec (List ℕ) Global). v.items) w.loans-is
          ∙ (c.loop-i.invariant ∙ sym (filter_take_without test (loans_in B) c.loop-i.i
          c.loan_at-loan.result below c.loan_at-loan.ensures.loan
          (sym c.is_listed.ensures ∙ w.if-is_listed.false)))
    ]
