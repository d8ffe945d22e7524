use Rattle.register_store.proofs.OneList.{one_list}
use Rattle.register_store.proofs.laws.one_list.Goals as goal

pub returns : goal.returns
returns c = one_list
