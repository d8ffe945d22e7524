use Rattle.register_store.proofs.WholeLists.{never_wrong}
use Rattle.register_store.proofs.laws.whole_list.Goals as goal

pub returns : goal.returns
returns c = never_wrong
