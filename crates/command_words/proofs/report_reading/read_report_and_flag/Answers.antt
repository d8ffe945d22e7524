use Rattle.std.proofs.Common.{Some, rules}
use Rattle.command_words.specs.Commands.{all_needed, report}
use Rattle.command_words.specs.Tables.{app_by}
use Rattle.command_words.specs.Words.{IsFaultBy, texts_of}
use Rattle.command_words.proofs.Naming.{more_needed, report_lost, report_refused}
use Rattle.command_words.proofs.report_reading.read_report_and_flag.Goals as goal

pub returns-in_err-matches : goal.returns-in_err-matches
returns-in_err-matches c =
    let fault : IsFaultBy (Some (report (all_needed (app_by c.args.name) c.args.id.now)))
    (texts_of c.args.words.now) c.in_err-matches.field-0.0 =
    more_needed (app_by c.args.name) (texts_of c.args.words.now) c.args.id.now
    c.in_err-matches.field-0.0
    (report_refused (app_by c.args.name) (texts_of c.args.words.now) c.in_err-matches.field-0.0
    c.in_err-matches.ensures) in
    search rules

pub returns-in_err-report : goal.returns-in_err-report
returns-in_err-report c =
    let fault : IsFaultBy (Some (report (all_needed (app_by c.args.name) c.args.id.now)))
    (texts_of c.args.words.now) c.in_err-report.field-0.0 =
    more_needed (app_by c.args.name) (texts_of c.args.words.now) c.args.id.now
    c.in_err-report.field-0.0
    (report_lost (app_by c.args.name) (texts_of c.args.words.now) _ c.in_err-report.field-0.0
    c.in_ok-matches.ensures c.in_err-report.ensures) in
    search rules
