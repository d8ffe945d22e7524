use Rattle.std.proofs.Common.{◌∙◌, ◌∷◌, ◌++◌, [], Global, List, Vec, ℕ, ap, filter, get_or, map}
use Rattle.std.proofs.Common.{sym}
use Rattle.std.proofs.Common.{take}
use Rattle.std.proofs.lemmas.List.{append_assoc, map_push}
use Rattle.reports.specs.declared.reports.dues.Due.{Due}
use Rattle.reports.specs.declared.reports.loans.Phase.TheVariants.{Out}
use Rattle.reports.specs.LoanLists.{is_at}
use Rattle.reports.specs.Terms.{agreement_with}
use Rattle.reports.proofs.Passing.{next_with, next_without}
use Rattle.reports.proofs.reports.dues.add_owed.Goals as goal
use Rattle.reports.proofs.reports.dues.add_owed.Goals.{then-is_at+in_ok-push, else-is_at}

pub loop-i-preserved : goal.loop-i-preserved
loop-i-preserved c =
    let t = agreement_with c.args.terms.now in
    let test : List ℕ → _ = is_at c.args.ledger.now t Out in
    let make : List ℕ → Due = λ o. record { loan = t.loan; object = o } in
    let d = c.index-terms-i.result in
    let o = get_or t.objects c.loop-i.i d in
    let before = filter test (take c.loop-i.i t.objects) in
    elim c.if-is_at.branch [
      | then-is_at+in_ok-push w ↦
          ap (λ (v : Vec Due Global). v.items) w.found-is
          ∙ (w.in_ok-push.ensures.items ∙ (ap (λ ds. ds ++ make o ∷ []) c.loop-i.invariant
          ∙ (append_assoc c.args.found.now.items (map make before) (make o ∷ [])
          ∙ (ap (λ ds. c.args.found.now.items ++ ds) (sym (map_push make before o))
          ∙ ap (λ os. c.args.found.now.items ++ map make os)
          (sym (next_with test t.objects c.loop-i.i d c.loop-i-test.true
          (sym c.is_at.ensures ∙ w.if-is_at.true)))))))
      | else-is_at w ↦
          ap (λ (v : Vec Due Global). v.items) w.found-is
          ∙ (c.loop-i.invariant ∙ ap (λ os. c.args.found.now.items ++ map make os)
          (sym (next_without test t.objects c.loop-i.i d c.loop-i-test.true
          (sym c.is_at.ensures ∙ w.if-is_at.false))))
    ]
