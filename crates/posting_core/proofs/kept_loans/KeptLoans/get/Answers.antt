use Rattle.std.proofs.Common.{◌∙◌, ap}
use Rattle.std.specs.Option.{option_map}
use Rattle.posting_core.proofs.KeptLoans.{row_kept, no_row_kept}
use Rattle.posting_core.proofs.kept_loans.KeptLoans.get.Goals as goal

pub returns-in_err-i-clause-row : goal.returns-in_err-i-clause-row
returns-in_err-i-clause-row c = ap (option_map (λ found. found.1.now)) c.from_residual.ensures
    ∙ no_row_kept c.args.loan.now c.self.invariant c.self.view_is c.in_err-i.ensures.index

pub returns-clause-row : goal.returns-clause-row
returns-clause-row c = row_kept c.args.loan.now c.self.invariant c.self.view_is
    c.in_ok-i.ensures.index c.index.ensures
