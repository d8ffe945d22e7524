use Rattle.count_core.proofs.CountLaws.{each_answered, found_once}
use Rattle.count_core.proofs.laws.rows_are_answered_once.Goals as goal

pub returns-clause-each : goal.returns-clause-each
returns-clause-each c = each_answered

pub returns-clause-found_once : goal.returns-clause-found_once
returns-clause-found_once c = found_once
