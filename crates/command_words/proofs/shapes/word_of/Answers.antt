use Rattle.std.proofs.Common.{ap, sym}
use Rattle.command_words.specs.Commands.{register_app, report_app}
use Rattle.command_words.specs.Tables.{app_by}
use Rattle.command_words.specs.declared.shapes.Name.{Name}
use Rattle.command_words.proofs.shapes.word_of.Goals as goal

pub returns-in-Replay : goal.returns-in-Replay
unfolding app_by register_app report_app
returns-in-Replay c = ap (λ (n : Name). (app_by n).top.name) (sym c.in-Replay.is)

pub returns-in-Serve : goal.returns-in-Serve
unfolding app_by register_app report_app
returns-in-Serve c = ap (λ (n : Name). (app_by n).top.name) (sym c.in-Serve.is)

pub returns-in-Desk : goal.returns-in-Desk
unfolding app_by register_app report_app
returns-in-Desk c = ap (λ (n : Name). (app_by n).top.name) (sym c.in-Desk.is)

pub returns-in-Lines : goal.returns-in-Lines
unfolding app_by register_app report_app
returns-in-Lines c = ap (λ (n : Name). (app_by n).top.name) (sym c.in-Lines.is)

pub returns-in-Check : goal.returns-in-Check
unfolding app_by register_app report_app
returns-in-Check c = ap (λ (n : Name). (app_by n).top.name) (sym c.in-Check.is)

pub returns-in-Gap : goal.returns-in-Gap
unfolding app_by register_app report_app
returns-in-Gap c = ap (λ (n : Name). (app_by n).top.name) (sym c.in-Gap.is)

pub returns-in-Resend : goal.returns-in-Resend
unfolding app_by register_app report_app
returns-in-Resend c = ap (λ (n : Name). (app_by n).top.name) (sym c.in-Resend.is)

pub returns-in-Count : goal.returns-in-Count
unfolding app_by register_app report_app
returns-in-Count c = ap (λ (n : Name). (app_by n).top.name) (sym c.in-Count.is)

pub returns-in-Audit : goal.returns-in-Audit
unfolding app_by register_app report_app
returns-in-Audit c = ap (λ (n : Name). (app_by n).top.name) (sym c.in-Audit.is)

pub returns-in-Overdue : goal.returns-in-Overdue
unfolding app_by register_app report_app
returns-in-Overdue c = ap (λ (n : Name). (app_by n).top.name) (sym c.in-Overdue.is)

pub returns-in-Away : goal.returns-in-Away
unfolding app_by register_app report_app
returns-in-Away c = ap (λ (n : Name). (app_by n).top.name) (sym c.in-Away.is)

pub returns-in-History : goal.returns-in-History
unfolding app_by register_app report_app
returns-in-History c = ap (λ (n : Name). (app_by n).top.name) (sym c.in-History.is)

pub returns-in-Migrate : goal.returns-in-Migrate
unfolding app_by register_app report_app
returns-in-Migrate c = ap (λ (n : Name). (app_by n).top.name) (sym c.in-Migrate.is)

pub returns-in-Copy : goal.returns-in-Copy
unfolding app_by register_app report_app
returns-in-Copy c = ap (λ (n : Name). (app_by n).top.name) (sym c.in-Copy.is)

pub returns-in-Seal : goal.returns-in-Seal
unfolding app_by register_app report_app
returns-in-Seal c = ap (λ (n : Name). (app_by n).top.name) (sym c.in-Seal.is)

pub returns-in-Receipt : goal.returns-in-Receipt
unfolding app_by register_app report_app
returns-in-Receipt c = ap (λ (n : Name). (app_by n).top.name) (sym c.in-Receipt.is)

pub returns-in-Page : goal.returns-in-Page
unfolding app_by register_app report_app
returns-in-Page c = ap (λ (n : Name). (app_by n).top.name) (sym c.in-Page.is)

pub returns-in-Export : goal.returns-in-Export
unfolding app_by register_app report_app
returns-in-Export c = ap (λ (n : Name). (app_by n).top.name) (sym c.in-Export.is)

pub returns-in-Grow : goal.returns-in-Grow
unfolding app_by register_app report_app
returns-in-Grow c = ap (λ (n : Name). (app_by n).top.name) (sym c.in-Grow.is)

pub returns-in-Setup : goal.returns-in-Setup
unfolding app_by register_app report_app
returns-in-Setup c = ap (λ (n : Name). (app_by n).top.name) (sym c.in-Setup.is)

pub returns-in-Explain : goal.returns-in-Explain
unfolding app_by register_app report_app
returns-in-Explain c = ap (λ (n : Name). (app_by n).top.name) (sym c.in-Explain.is)

pub returns-in-Stations : goal.returns-in-Stations
unfolding app_by register_app report_app
returns-in-Stations c = ap (λ (n : Name). (app_by n).top.name) (sym c.in-Stations.is)

pub returns-in-Where : goal.returns-in-Where
unfolding app_by register_app report_app
returns-in-Where c = ap (λ (n : Name). (app_by n).top.name) (sym c.in-Where.is)

pub returns-in-Contents : goal.returns-in-Contents
unfolding app_by register_app report_app
returns-in-Contents c = ap (λ (n : Name). (app_by n).top.name) (sym c.in-Contents.is)

pub returns-in-Loan : goal.returns-in-Loan
unfolding app_by register_app report_app
returns-in-Loan c = ap (λ (n : Name). (app_by n).top.name) (sym c.in-Loan.is)

pub returns-in-At : goal.returns-in-At
unfolding app_by register_app report_app
returns-in-At c = ap (λ (n : Name). (app_by n).top.name) (sym c.in-At.is)

pub returns-in-Posted : goal.returns-in-Posted
unfolding app_by register_app report_app
returns-in-Posted c = ap (λ (n : Name). (app_by n).top.name) (sym c.in-Posted.is)

pub returns-in-Loans : goal.returns-in-Loans
unfolding app_by register_app report_app
returns-in-Loans c = ap (λ (n : Name). (app_by n).top.name) (sym c.in-Loans.is)

pub returns-in-Dues : goal.returns-in-Dues
unfolding app_by register_app report_app
returns-in-Dues c = ap (λ (n : Name). (app_by n).top.name) (sym c.in-Dues.is)

pub returns-in-Why : goal.returns-in-Why
unfolding app_by register_app report_app
returns-in-Why c = ap (λ (n : Name). (app_by n).top.name) (sym c.in-Why.is)

pub returns-in-Help : goal.returns-in-Help
unfolding app_by register_app report_app
returns-in-Help c = ap (λ (n : Name). (app_by n).top.name) (sym c.in-Help.is)
