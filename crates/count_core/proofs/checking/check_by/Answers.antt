use Rattle.std.proofs.Common.{All, sym, subst}
use Rattle.count_core.specs.Counts.{IsAnswerIn}
use Rattle.count_core.proofs.Answered.{answers_known}
use Rattle.count_core.proofs.checking.check_by.Goals as goal

pub returns-clause-known : goal.returns-clause-known
returns-clause-known g c =
    subst (All (IsAnswerIn c.args.ledger.now.museum)) (sym c.in_ok-marked.ensures.answers)
    (answers_known c.args.ledger.now c.is_lawful.ensures c.args.rows.now)
