use Rattle.std.proofs.Common.{◌≡◌, Some, slice_get, sym, subst, ◌<◌}
use Rattle.posting_core.specs.Book.{loans_in}
use Rattle.posting_core.proofs.Bounds.{told_agreed}
use Rattle.posting_core.proofs.Posted.{count_kept, code_kept}
use Rattle.posting_core.proofs.ledger.Ledger.loan_at.Goals as goal

pub at-requires : goal.at-requires
at-requires c = subst (λ n. c.args.i < n)
    (sym (count_kept c.self.invariant c.self.view_is)) c.requires

pub returns-clause-loan : goal.returns-clause-loan
returns-clause-loan c = rw c.loan.ensures
    (code_kept c.self.invariant c.self.view_is c.args.i c.at.result.now c.at.ensures)

pub returns-clause-agreed : goal.returns-clause-agreed
returns-clause-agreed c =
    let at : slice_get (loans_in c.args.self.now) c.args.i ≡ Some c.loan.result =
    rw c.loan.ensures (code_kept c.self.invariant c.self.view_is c.args.i c.at.result.now
    c.at.ensures) in
    told_agreed c.args.self.now.posted c.args.i c.loan.result at
