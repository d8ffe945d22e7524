use Rattle.command_words.specs.Commands.{register_app, report_app}
use Rattle.command_words.specs.Tables.{form_by}
use Rattle.command_words.specs.Words.{texts_of}
use Rattle.command_words.proofs.Lookup.{chooses_by, named_by}
use Rattle.command_words.proofs.words.named.Goals as goal

pub replay-requires : goal.replay-requires
unfolding form_by register_app report_app
replay-requires c =
    named_by c.args.name _ (texts_of c.args.words.now) c.requires c.in-Replay.is

pub returns-in-Replay : goal.returns-in-Replay
unfolding form_by
returns-in-Replay c =
    chooses_by c.args.name _ (texts_of c.args.words.now) _ c.requires
    c.in-Replay.is c.replay.ensures

pub serve-requires : goal.serve-requires
unfolding form_by register_app report_app
serve-requires c =
    named_by c.args.name _ (texts_of c.args.words.now) c.requires c.in-Serve.is

pub returns-in-Serve : goal.returns-in-Serve
unfolding form_by
returns-in-Serve c =
    chooses_by c.args.name _ (texts_of c.args.words.now) _ c.requires
    c.in-Serve.is c.serve.ensures

pub desk-requires : goal.desk-requires
unfolding form_by register_app report_app
desk-requires c =
    named_by c.args.name _ (texts_of c.args.words.now) c.requires c.in-Desk.is

pub returns-in-Desk : goal.returns-in-Desk
unfolding form_by
returns-in-Desk c =
    chooses_by c.args.name _ (texts_of c.args.words.now) _ c.requires
    c.in-Desk.is c.desk.ensures

pub lines-requires : goal.lines-requires
unfolding form_by register_app report_app
lines-requires c =
    named_by c.args.name _ (texts_of c.args.words.now) c.requires c.in-Lines.is

pub returns-in-Lines : goal.returns-in-Lines
unfolding form_by
returns-in-Lines c =
    chooses_by c.args.name _ (texts_of c.args.words.now) _ c.requires
    c.in-Lines.is c.lines.ensures

pub check-requires : goal.check-requires
unfolding form_by register_app report_app
check-requires c =
    named_by c.args.name _ (texts_of c.args.words.now) c.requires c.in-Check.is

pub returns-in-Check : goal.returns-in-Check
unfolding form_by
returns-in-Check c =
    chooses_by c.args.name _ (texts_of c.args.words.now) _ c.requires
    c.in-Check.is c.check.ensures

pub gap-requires : goal.gap-requires
unfolding form_by register_app report_app
gap-requires c =
    named_by c.args.name _ (texts_of c.args.words.now) c.requires c.in-Gap.is

pub returns-in-Gap : goal.returns-in-Gap
unfolding form_by
returns-in-Gap c =
    chooses_by c.args.name _ (texts_of c.args.words.now) _ c.requires
    c.in-Gap.is c.gap.ensures

pub resend-requires : goal.resend-requires
unfolding form_by register_app report_app
resend-requires c =
    named_by c.args.name _ (texts_of c.args.words.now) c.requires c.in-Resend.is

pub returns-in-Resend : goal.returns-in-Resend
unfolding form_by
returns-in-Resend c =
    chooses_by c.args.name _ (texts_of c.args.words.now) _ c.requires
    c.in-Resend.is c.resend.ensures

pub count-requires : goal.count-requires
unfolding form_by register_app report_app
count-requires c =
    named_by c.args.name _ (texts_of c.args.words.now) c.requires c.in-Count.is

pub returns-in-Count : goal.returns-in-Count
unfolding form_by
returns-in-Count c =
    chooses_by c.args.name _ (texts_of c.args.words.now) _ c.requires
    c.in-Count.is c.count.ensures

pub audit-requires : goal.audit-requires
unfolding form_by register_app report_app
audit-requires c =
    named_by c.args.name _ (texts_of c.args.words.now) c.requires c.in-Audit.is

pub returns-in-Audit : goal.returns-in-Audit
unfolding form_by
returns-in-Audit c =
    chooses_by c.args.name _ (texts_of c.args.words.now) _ c.requires
    c.in-Audit.is c.audit.ensures

pub overdue-requires : goal.overdue-requires
unfolding form_by register_app report_app
overdue-requires c =
    named_by c.args.name _ (texts_of c.args.words.now) c.requires c.in-Overdue.is

pub returns-in-Overdue : goal.returns-in-Overdue
unfolding form_by
returns-in-Overdue c =
    chooses_by c.args.name _ (texts_of c.args.words.now) _ c.requires
    c.in-Overdue.is c.overdue.ensures

pub away-requires : goal.away-requires
unfolding form_by register_app report_app
away-requires c =
    named_by c.args.name _ (texts_of c.args.words.now) c.requires c.in-Away.is

pub returns-in-Away : goal.returns-in-Away
unfolding form_by
returns-in-Away c =
    chooses_by c.args.name _ (texts_of c.args.words.now) _ c.requires
    c.in-Away.is c.away.ensures

pub history-requires : goal.history-requires
unfolding form_by register_app report_app
history-requires c =
    named_by c.args.name _ (texts_of c.args.words.now) c.requires c.in-History.is

pub returns-in-History : goal.returns-in-History
unfolding form_by
returns-in-History c =
    chooses_by c.args.name _ (texts_of c.args.words.now) _ c.requires
    c.in-History.is c.history.ensures

pub migrate-requires : goal.migrate-requires
unfolding form_by register_app report_app
migrate-requires c =
    named_by c.args.name _ (texts_of c.args.words.now) c.requires c.in-Migrate.is

pub returns-in-Migrate : goal.returns-in-Migrate
unfolding form_by
returns-in-Migrate c =
    chooses_by c.args.name _ (texts_of c.args.words.now) _ c.requires
    c.in-Migrate.is c.migrate.ensures

pub copy-requires : goal.copy-requires
unfolding form_by register_app report_app
copy-requires c =
    named_by c.args.name _ (texts_of c.args.words.now) c.requires c.in-Copy.is

pub returns-in-Copy : goal.returns-in-Copy
unfolding form_by
returns-in-Copy c =
    chooses_by c.args.name _ (texts_of c.args.words.now) _ c.requires
    c.in-Copy.is c.copy.ensures

pub seal-requires : goal.seal-requires
unfolding form_by register_app report_app
seal-requires c =
    named_by c.args.name _ (texts_of c.args.words.now) c.requires c.in-Seal.is

pub returns-in-Seal : goal.returns-in-Seal
unfolding form_by
returns-in-Seal c =
    chooses_by c.args.name _ (texts_of c.args.words.now) _ c.requires
    c.in-Seal.is c.seal.ensures

pub receipt-requires : goal.receipt-requires
unfolding form_by register_app report_app
receipt-requires c =
    named_by c.args.name _ (texts_of c.args.words.now) c.requires c.in-Receipt.is

pub returns-in-Receipt : goal.returns-in-Receipt
unfolding form_by
returns-in-Receipt c =
    chooses_by c.args.name _ (texts_of c.args.words.now) _ c.requires
    c.in-Receipt.is c.receipt.ensures

pub page-requires : goal.page-requires
unfolding form_by register_app report_app
page-requires c =
    named_by c.args.name _ (texts_of c.args.words.now) c.requires c.in-Page.is

pub returns-in-Page : goal.returns-in-Page
unfolding form_by
returns-in-Page c =
    chooses_by c.args.name _ (texts_of c.args.words.now) _ c.requires
    c.in-Page.is c.page.ensures

pub export-requires : goal.export-requires
unfolding form_by register_app report_app
export-requires c =
    named_by c.args.name _ (texts_of c.args.words.now) c.requires c.in-Export.is

pub returns-in-Export : goal.returns-in-Export
unfolding form_by
returns-in-Export c =
    chooses_by c.args.name _ (texts_of c.args.words.now) _ c.requires
    c.in-Export.is c.export.ensures

pub grow-requires : goal.grow-requires
unfolding form_by register_app report_app
grow-requires c =
    named_by c.args.name _ (texts_of c.args.words.now) c.requires c.in-Grow.is

pub returns-in-Grow : goal.returns-in-Grow
unfolding form_by
returns-in-Grow c =
    chooses_by c.args.name _ (texts_of c.args.words.now) _ c.requires
    c.in-Grow.is c.grow.ensures

pub print_setup-requires : goal.print_setup-requires
unfolding form_by register_app report_app
print_setup-requires c =
    named_by c.args.name _ (texts_of c.args.words.now) c.requires c.in-Setup.is

pub returns-in-Setup : goal.returns-in-Setup
unfolding form_by
returns-in-Setup c =
    chooses_by c.args.name _ (texts_of c.args.words.now) _ c.requires
    c.in-Setup.is c.print_setup.ensures

pub explain-requires : goal.explain-requires
unfolding form_by register_app report_app
explain-requires c =
    named_by c.args.name _ (texts_of c.args.words.now) c.requires c.in-Explain.is

pub returns-in-Explain : goal.returns-in-Explain
unfolding form_by
returns-in-Explain c =
    chooses_by c.args.name _ (texts_of c.args.words.now) _ c.requires
    c.in-Explain.is c.explain.ensures

pub stations-requires : goal.stations-requires
unfolding form_by register_app report_app
stations-requires c =
    named_by c.args.name _ (texts_of c.args.words.now) c.requires c.in-Stations.is

pub returns-in-Stations : goal.returns-in-Stations
unfolding form_by
returns-in-Stations c =
    chooses_by c.args.name _ (texts_of c.args.words.now) _ c.requires
    c.in-Stations.is c.stations.ensures

pub where_is-requires : goal.where_is-requires
unfolding form_by register_app report_app
where_is-requires c =
    named_by c.args.name _ (texts_of c.args.words.now) c.requires c.in-Where.is

pub returns-in-Where : goal.returns-in-Where
unfolding form_by
returns-in-Where c =
    chooses_by c.args.name _ (texts_of c.args.words.now) _ c.requires
    c.in-Where.is c.where_is.ensures

pub contents-requires : goal.contents-requires
unfolding form_by register_app report_app
contents-requires c =
    named_by c.args.name _ (texts_of c.args.words.now) c.requires c.in-Contents.is

pub returns-in-Contents : goal.returns-in-Contents
unfolding form_by
returns-in-Contents c =
    chooses_by c.args.name _ (texts_of c.args.words.now) _ c.requires
    c.in-Contents.is c.contents.ensures

pub loan-requires : goal.loan-requires
unfolding form_by register_app report_app
loan-requires c =
    named_by c.args.name _ (texts_of c.args.words.now) c.requires c.in-Loan.is

pub returns-in-Loan : goal.returns-in-Loan
unfolding form_by
returns-in-Loan c =
    chooses_by c.args.name _ (texts_of c.args.words.now) _ c.requires
    c.in-Loan.is c.loan.ensures

pub at-requires : goal.at-requires
unfolding form_by register_app report_app
at-requires c =
    named_by c.args.name _ (texts_of c.args.words.now) c.requires c.in-At.is

pub returns-in-At : goal.returns-in-At
unfolding form_by
returns-in-At c =
    chooses_by c.args.name _ (texts_of c.args.words.now) _ c.requires
    c.in-At.is c.at.ensures

pub posted-requires : goal.posted-requires
unfolding form_by register_app report_app
posted-requires c =
    named_by c.args.name _ (texts_of c.args.words.now) c.requires c.in-Posted.is

pub returns-in-Posted : goal.returns-in-Posted
unfolding form_by
returns-in-Posted c =
    chooses_by c.args.name _ (texts_of c.args.words.now) _ c.requires
    c.in-Posted.is c.posted.ensures

pub loans-requires : goal.loans-requires
unfolding form_by register_app report_app
loans-requires c =
    named_by c.args.name _ (texts_of c.args.words.now) c.requires c.in-Loans.is

pub returns-in-Loans : goal.returns-in-Loans
unfolding form_by
returns-in-Loans c =
    chooses_by c.args.name _ (texts_of c.args.words.now) _ c.requires
    c.in-Loans.is c.loans.ensures

pub dues-requires : goal.dues-requires
unfolding form_by register_app report_app
dues-requires c =
    named_by c.args.name _ (texts_of c.args.words.now) c.requires c.in-Dues.is

pub returns-in-Dues : goal.returns-in-Dues
unfolding form_by
returns-in-Dues c =
    chooses_by c.args.name _ (texts_of c.args.words.now) _ c.requires
    c.in-Dues.is c.dues.ensures

pub why-requires : goal.why-requires
unfolding form_by register_app report_app
why-requires c =
    named_by c.args.name _ (texts_of c.args.words.now) c.requires c.in-Why.is

pub returns-in-Why : goal.returns-in-Why
unfolding form_by
returns-in-Why c =
    chooses_by c.args.name _ (texts_of c.args.words.now) _ c.requires
    c.in-Why.is c.why.ensures

pub help-requires : goal.help-requires
unfolding form_by register_app report_app
help-requires c =
    named_by c.args.name _ (texts_of c.args.words.now) c.requires c.in-Help.is

pub returns-in-Help : goal.returns-in-Help
unfolding form_by
returns-in-Help c =
    chooses_by c.args.name _ (texts_of c.args.words.now) _ c.requires
    c.in-Help.is c.help.ensures
