use Rattle.std.proofs.Common.{ℤ, Result, Ok, Err, IfOk}
use Rattle.posting_core.proofs.ledger.Ledger.judged.Goals as goal

pub returns-in-Move-clause-put : goal.returns-in-Move-clause-put
returns-in-Move-clause-put c = rw c.in-Move.is (c.judge_move.ensures.put c.in-Move.day)

pub returns-in-Pack-clause-put : goal.returns-in-Pack-clause-put
returns-in-Pack-clause-put c = rw c.in-Pack.is (c.judge_pack.ensures.put c.in-Pack.day)

on_day : {X Y : Type 0} (P : ℤ → X → Type 0) (day : ℤ) (r : Result X Y)
    → IfOk r (λ x. (d : ℤ) → P d x) → IfOk r (P day)
on_day P day (Ok x) each = each day
on_day P day (Err y) each = tt

pub returns-in-Return-clause-put : goal.returns-in-Return-clause-put
returns-in-Return-clause-put c =
    rw c.in-Return.is (on_day _ c.in-Return.day c.judge_return.result c.judge_return.ensures.put)

pub returns-in-Return-clause-verdict : goal.returns-in-Return-clause-verdict
returns-in-Return-clause-verdict c = rw c.in-Return.is c.judge_return.ensures.verdict

pub returns-in-Return-clause-err : goal.returns-in-Return-clause-err
returns-in-Return-clause-err c = rw c.in-Return.is c.judge_return.ensures.err

pub returns-in-Exit-clause-verdict : goal.returns-in-Exit-clause-verdict
returns-in-Exit-clause-verdict c = rw c.in-Exit.is c.judge_exit.ensures.verdict

pub returns-in-Exit-clause-err : goal.returns-in-Exit-clause-err
returns-in-Exit-clause-err c = rw c.in-Exit.is c.judge_exit.ensures.err

pub returns-in-Receive-clause-verdict : goal.returns-in-Receive-clause-verdict
returns-in-Receive-clause-verdict c = rw c.in-Receive.is c.judge_receive.ensures.verdict

pub returns-in-Receive-clause-put : goal.returns-in-Receive-clause-put
returns-in-Receive-clause-put c = rw c.in-Receive.is c.judge_receive.ensures.put

pub returns-in-Receive-clause-err : goal.returns-in-Receive-clause-err
returns-in-Receive-clause-err c = rw c.in-Receive.is c.judge_receive.ensures.err
