use Rattle.std.proofs.Common.{◌∙◌, ◌++◌, ◌∷◌, [], List, ap}
use Rattle.posting_core.specs.LoanRows.{LoanRow}
use Rattle.posting_core.proofs.KeptLoans.{one_more_kept}
use Rattle.posting_core.proofs.kept_loans.KeptLoans.push.Goals as goal

pub invariant_of-self-2 : goal.invariant_of-self-2
invariant_of-self-2 c =
    c.in_ok-insert.ensures.keys
    ∙ one_more_kept c.args.loan c.self.invariant c.self.view_is c.loan.ensures c.requires
    (c.push_reserved.ensures.items ∙ ap (λ (rows : List LoanRow). rows ++ c.args.loan ∷ [])
    c.reserve.ensures.items)
