use Rattle.std.proofs.Common.{Some, rules}
use Rattle.command_words.specs.Commands as commands
use Rattle.command_words.specs.Tables.{app_by}
use Rattle.command_words.specs.Words.{IsFaultBy, texts_of}
use Rattle.command_words.proofs.Naming.{report_lost, report_refused}
use Rattle.command_words.proofs.questions.posted.Goals as goal

pub returns-in_err-matches : goal.returns-in_err-matches
unfolding app_by
returns-in_err-matches c =
    let fault : IsFaultBy (Some commands.posted) (texts_of c.args.words.now)
    c.in_err-matches.field-0.0 =
    report_refused commands.posted.app (texts_of c.args.words.now) c.in_err-matches.field-0.0
    c.in_err-matches.ensures in
    search rules

pub returns-in_err-report : goal.returns-in_err-report
unfolding app_by
returns-in_err-report c =
    let fault : IsFaultBy (Some commands.posted) (texts_of c.args.words.now)
    c.in_err-report.field-0.0 =
    report_lost commands.posted.app (texts_of c.args.words.now) _ c.in_err-report.field-0.0
    c.in_ok-matches.ensures c.in_err-report.ensures in
    search rules
