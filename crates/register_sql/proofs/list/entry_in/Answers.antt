use Rattle.std.proofs.Common.{arith}
use Rattle.register_sql.proofs.Postings.{unread_is_wrong}
use Rattle.register_sql.proofs.list.entry_in.Goals as goal

pub returns-in-Err-clause-damaged : goal.returns-in-Err-clause-damaged
returns-in-Err-clause-damaged c other =
    c.unread.ensures.damaged (λ full. other (c.unread.ensures.memory full))

pub returns-in-Err-clause-wrong : goal.returns-in-Err-clause-wrong
returns-in-Err-clause-wrong c other p is =
    unread_is_wrong c.args.stations c.args.number p (omega arith)
    (c.in-Err.ensures.unreadable (λ full. other (c.unread.ensures.memory full)) p is)
