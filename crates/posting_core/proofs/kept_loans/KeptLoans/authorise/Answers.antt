use Rattle.std.proofs.Common.{ap}
use Rattle.posting_core.specs.LoanRows.{LoanRow, authorised_row}
use Rattle.posting_core.proofs.KeptLoans.{changed_at, unchanged_at, same_codes}
use Rattle.posting_core.proofs.kept_loans.KeptLoans.authorise.Goals as goal

pub invariant_of-self : goal.invariant_of-self
invariant_of-self c =
    same_codes c.self.inside.codes.keys c.self.inside.rows.items c.in-Some.i c.index_mut.result.now
    c.authorise.new.self c.self.invariant (ap (λ (row : LoanRow). row.loan) c.authorise.ensures)
    c.index_mut.ensures.value

pub returns-in-Some : goal.returns-in-Some
returns-in-Some c = changed_at authorised_row c.self.view_is c.in-Some.is c.authorise.ensures
    c.index_mut.ensures.value

pub returns-in_default : goal.returns-in_default
returns-in_default c = unchanged_at authorised_row c.self.view_is c.in_default.is
