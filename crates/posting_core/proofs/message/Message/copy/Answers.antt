use Rattle.std.proofs.Common.{sym}
use Rattle.posting_core.proofs.message.Message.copy.Goals as goal

pub returns-in-Move : goal.returns-in-Move
returns-in-Move c = sym c.in-Move.is

pub returns-in-Pack : goal.returns-in-Pack
returns-in-Pack c = sym c.in-Pack.is

pub returns-in-Exit : goal.returns-in-Exit
returns-in-Exit c = sym c.in-Exit.is

pub returns-in-Return : goal.returns-in-Return
returns-in-Return c = sym c.in-Return.is

pub returns-in-Receive : goal.returns-in-Receive
returns-in-Receive c = sym c.in-Receive.is

pub returns-in-Extend : goal.returns-in-Extend
returns-in-Extend c = sym c.in-Extend.is

pub returns-in_ok-copy-in-Agree : goal.returns-in_ok-copy-in-Agree
returns-in_ok-copy-in-Agree c = rw c.in_ok-copy-in-Agree.ensures (sym c.in-Agree.is)

pub returns-in_ok-copy-in-Authorise : goal.returns-in_ok-copy-in-Authorise
returns-in_ok-copy-in-Authorise c = rw c.in_ok-copy-in-Authorise.ensures (sym c.in-Authorise.is)

pub returns-in_ok-copy-in-SignOff : goal.returns-in_ok-copy-in-SignOff
returns-in_ok-copy-in-SignOff c = rw c.in_ok-copy-in-SignOff.ensures (sym c.in-SignOff.is)
