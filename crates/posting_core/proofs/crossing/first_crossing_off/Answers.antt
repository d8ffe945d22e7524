use Rattle.posting_core.proofs.crossing.first_crossing_off.Goals as goal

pub returns-in-Exit-clause-ok : goal.returns-in-Exit-clause-ok
returns-in-Exit-clause-ok c =
    rw (c.in-Exit.is, ← c.wanted_by_exit.ensures, ← c.wanted_if-wanted.ensures)
    c.first_off.ensures.ok

pub returns-in-Exit-clause-err : goal.returns-in-Exit-clause-err
returns-in-Exit-clause-err c = rw c.in-Exit.is c.first_off.ensures.err

pub returns-in-Return-clause-ok : goal.returns-in-Return-clause-ok
returns-in-Return-clause-ok c =
    rw (c.in-Return.is, ← c.wanted_if-wanted-in-Return.ensures) c.first_off-in-Return.ensures.ok

pub returns-in-Return-clause-err : goal.returns-in-Return-clause-err
returns-in-Return-clause-err c = rw c.in-Return.is c.first_off-in-Return.ensures.err

pub returns-in-Receive-clause-ok : goal.returns-in-Receive-clause-ok
returns-in-Receive-clause-ok c =
    rw (c.in-Receive.is, ← c.wanted_if-wanted-in-Receive.ensures) c.first_off-in-Receive.ensures.ok

pub returns-in-Receive-clause-err : goal.returns-in-Receive-clause-err
returns-in-Receive-clause-err c = rw c.in-Receive.is c.first_off-in-Receive.ensures.err
