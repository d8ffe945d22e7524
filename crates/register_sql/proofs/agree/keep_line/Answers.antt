use Rattle.std.proofs.Common.{sym, ◌∙◌}
use Rattle.register_sql.proofs.Agrees.{keeps_line}
use Rattle.register_sql.proofs.agree.keep_line.Goals as goal

pub returns-in-Ok-None-clause-kept : goal.returns-in-Ok-None-clause-kept
returns-in-Ok-None-clause-kept c =
    keeps_line _ c.args.kept.now.entries c.insert.new.self.entries c.in-Some.key c.in-Some.stage
    c.args.row.now (sym c.in-Ok-None.ensures.old ∙ c.in-Ok-None.field-0-is)
    c.in-Ok-None.ensures.entries c.in-Some.ensures.read
