use Rattle.std.proofs.Common.{Some, rules}
use Rattle.command_words.specs.Commands.{both_needed, report}
use Rattle.command_words.specs.Tables.{app_by}
use Rattle.command_words.specs.Words.{IsFaultBy, texts_of}
use Rattle.command_words.proofs.Naming.{report_read, report_refused}
use Rattle.command_words.proofs.report_reading.read_report.Goals as goal

pub returns-in_err-matches : goal.returns-in_err-matches
returns-in_err-matches c =
    let fault : IsFaultBy (Some (report (both_needed (app_by c.args.name))))
    (texts_of c.args.words.now) c.in_err-matches.field-0.0 =
    report_refused (app_by c.args.name) (texts_of c.args.words.now) c.in_err-matches.field-0.0
    c.in_err-matches.ensures in
    search rules

pub returns : goal.returns
returns c =
    report_read (app_by c.args.name) (texts_of c.args.words.now) _ c.report_in-report.result
    c.in_ok-matches.ensures c.report_in-report.ensures
