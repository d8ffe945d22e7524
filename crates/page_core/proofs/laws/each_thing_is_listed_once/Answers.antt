use Rattle.page_core.proofs.TreeOnce.{listed_once}
use Rattle.page_core.proofs.laws.each_thing_is_listed_once.Goals as goal

pub returns : goal.returns
returns c = listed_once
