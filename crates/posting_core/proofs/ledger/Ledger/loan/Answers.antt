use Rattle.std.proofs.Common.{◌∙◌}
use Rattle.std.proofs.lemmas.Option.{IfSome_then}
use Rattle.posting_core.proofs.Posted.{number_kept, loan_kept}
use Rattle.posting_core.proofs.ledger.Ledger.loan.Goals as goal

pub returns-clause-number : goal.returns-clause-number
returns-clause-number c = c.get.ensures.number ∙ number_kept c.self.invariant c.self.view_is
    c.args.loan.now

pub returns-clause-agreed : goal.returns-clause-agreed
returns-clause-agreed c =
    (loan_kept c.self.invariant c.self.view_is c.args.loan.now c.get.result c.get.ensures.row).0

pub returns-clause-authorised : goal.returns-clause-authorised
returns-clause-authorised c = IfSome_then c.get.result
    (loan_kept c.self.invariant c.self.view_is c.args.loan.now c.get.result c.get.ensures.row).1
    (λ found is. is.authorised)

pub returns-clause-last : goal.returns-clause-last
returns-clause-last c = IfSome_then c.get.result
    (loan_kept c.self.invariant c.self.view_is c.args.loan.now c.get.result c.get.ensures.row).1
    (λ found is. is.last)

pub returns-clause-partner : goal.returns-clause-partner
returns-clause-partner c = IfSome_then c.get.result
    (loan_kept c.self.invariant c.self.view_is c.args.loan.now c.get.result c.get.ensures.row).1
    (λ found is. is.partner)

pub returns-clause-lines : goal.returns-clause-lines
returns-clause-lines c = IfSome_then c.get.result
    (loan_kept c.self.invariant c.self.view_is c.args.loan.now c.get.result c.get.ensures.row).1
    (λ found is. is.lines)

pub returns-clause-state : goal.returns-clause-state
returns-clause-state c = IfSome_then c.get.result
    (loan_kept c.self.invariant c.self.view_is c.args.loan.now c.get.result c.get.ensures.row).1
    (λ found is. is.state)
