use Rattle.std.proofs.Common.{◌∙◌, ◌∷◌, ◌++◌, [], List, ap, refl}
use Rattle.posting_core.specs.LoanRows.{LoanRow}
use Rattle.posting_core.proofs.KeptLoans.{number_within}
use Rattle.posting_core.proofs.recording.write.Goals as goal

pub returns-in_ok-push-in-Agree-clause-ok : goal.returns-in_ok-push-in-Agree-clause-ok
returns-in_ok-push-in-Agree-clause-ok c =
    rw c.in-Agree.is (c.in_ok-push-in-Agree.ensures.ok
    ∙ ap (λ (row : LoanRow). c.args.loans.now ++ row ∷ []) c.in_ok-row-in-Agree.ensures)

pub cross-requires : goal.cross-requires
cross-requires c = number_within c.args.loans.now c.in-Exit.loan
    (rw (c.requires.number, c.in-Exit.is) refl)

pub returns-in-Exit-clause-ok : goal.returns-in-Exit-clause-ok
returns-in-Exit-clause-ok c =
    rw c.in-Exit.is (c.cross.ensures c.in-Exit.loan (rw (c.requires.number, c.in-Exit.is) refl))

pub cross-requires-in-Return : goal.cross-requires-in-Return
cross-requires-in-Return c = number_within c.args.loans.now c.in-Return.loan
    (rw (c.requires.number, c.in-Return.is) refl)

pub returns-in-Return-clause-ok : goal.returns-in-Return-clause-ok
returns-in-Return-clause-ok c =
    rw c.in-Return.is (c.cross-in-Return.ensures c.in-Return.loan
    (rw (c.requires.number, c.in-Return.is) refl))

pub cross-requires-in-Receive : goal.cross-requires-in-Receive
cross-requires-in-Receive c = number_within c.args.loans.now c.in-Receive.loan
    (rw (c.requires.number, c.in-Receive.is) refl)

pub returns-in-Receive-clause-ok : goal.returns-in-Receive-clause-ok
returns-in-Receive-clause-ok c =
    rw c.in-Receive.is (c.cross-in-Receive.ensures c.in-Receive.loan
    (rw (c.requires.number, c.in-Receive.is) refl))

pub extend-requires : goal.extend-requires
extend-requires c = number_within c.args.loans.now c.in-Extend.loan
    (rw (c.requires.number, c.in-Extend.is) refl)

pub returns-in-Extend-clause-ok : goal.returns-in-Extend-clause-ok
returns-in-Extend-clause-ok c =
    rw c.in-Extend.is (c.extend.ensures c.in-Extend.loan
    (rw (c.requires.number, c.in-Extend.is) refl))
