use Rattle.desk_core.proofs.texts.add_reason.Goals as goal

pub returns-in-OtherCase : goal.returns-in-OtherCase
returns-in-OtherCase c = rw c.in-OtherCase.is c.add_about.ensures
