use Rattle.std.proofs.Common.{◌∙◌, ap, sym}
use Rattle.posting_core.specs.KeptForms.{said}
use Rattle.posting_core.proofs.kept_message.KeptMessage.to_message.Goals as goal

pub returns-in-Move : goal.returns-in-Move
returns-in-Move c = rw (c.thing_of.ensures, c.place_of.ensures)
    (ap said (sym c.in-Move.is) ∙ c.self.view_is)

pub returns-in-Pack : goal.returns-in-Pack
returns-in-Pack c = rw (c.thing_of-in-Pack.ensures, c.thing_of-in-Pack-2.ensures)
    (ap said (sym c.in-Pack.is) ∙ c.self.view_is)

pub returns-in-Exit : goal.returns-in-Exit
returns-in-Exit c = rw c.thing_of-in-Exit.ensures (ap said (sym c.in-Exit.is) ∙ c.self.view_is)

pub returns-in-Return : goal.returns-in-Return
returns-in-Return c = rw (
  c.thing_of-in-Return.ensures,
  c.loan_of.ensures,
  c.place_of-in-Return.ensures,
) (ap said (sym c.in-Return.is) ∙ c.self.view_is)

pub returns-in-Receive : goal.returns-in-Receive
returns-in-Receive c = rw (
  c.thing_of-in-Receive.ensures,
  c.loan_of-in-Receive.ensures,
  c.place_of-in-Receive.ensures,
) (ap said (sym c.in-Receive.is) ∙ c.self.view_is)

pub returns-in-Whole : goal.returns-in-Whole
returns-in-Whole c = rw (← c.self.view_is, c.in-Whole.is, ← c.deref.ensures) c.copy.ensures
