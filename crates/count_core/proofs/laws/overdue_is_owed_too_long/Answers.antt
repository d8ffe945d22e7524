use Rattle.count_core.proofs.ReportLaws.{overdue_told, overdue_all}
use Rattle.count_core.proofs.laws.overdue_is_owed_too_long.Goals as goal

pub returns-clause-told : goal.returns-clause-told
returns-clause-told c = overdue_told

pub returns-clause-all : goal.returns-clause-all
returns-clause-all c = overdue_all
