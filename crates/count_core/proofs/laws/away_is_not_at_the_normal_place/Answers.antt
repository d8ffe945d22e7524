use Rattle.count_core.proofs.ReportLaws.{away_own, away_told, away_all}
use Rattle.count_core.proofs.laws.away_is_not_at_the_normal_place.Goals as goal

pub returns-clause-own : goal.returns-clause-own
returns-clause-own c = away_own

pub returns-clause-told : goal.returns-clause-told
returns-clause-told c = away_told

pub returns-clause-all : goal.returns-clause-all
returns-clause-all c = away_all
