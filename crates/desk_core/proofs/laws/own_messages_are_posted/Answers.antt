use Rattle.desk_core.proofs.OwnLemmas.{own_posted}
use Rattle.desk_core.proofs.laws.own_messages_are_posted.Goals as goal

pub returns : goal.returns
returns c S depth O A s m known goes few = own_posted S depth O A s m known goes few
