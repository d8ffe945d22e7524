use Rattle.std.proofs.Common.{◌≡◌, ◌&&◌, filter, not, rules}
use Rattle.codes_core.specs.Loan.{is_out}
use Rattle.nest_core.specs.Museum.{is_container}
use Rattle.posting_core.specs.Verdicts.{is_over}
use Rattle.posting_core.proofs.LoanAnswers.{judged_by_row}
use Rattle.posting_core.proofs.ledger.Ledger.judge_lines_out.Goals.{then-is_out, else-is_out}
use Rattle.posting_core.proofs.ledger.Ledger.judge_lines_out.Goals as goal

pub returns-clause-verdict : goal.returns-clause-verdict
returns-clause-verdict c =
    let S = c.args.self.now.museum in
    let P = c.args.self.now.posted in
    let loan = c.args.loan.now in
    let over : c.if-is_out.is_over ≡ (is_out loan && is_over P loan c.args.day) =
    elim c.if-is_out.branch [ then-is_out w ↦ search rules | else-is_out w ↦ search rules ] in
    rw (← over, ← c.wanted_by_exit.ensures)
    (judged_by_row S P loan c.args.kept.now
    (filter (λ o. not (is_container S o)) c.args.carried.now) c.wanted_by_exit.result
    c.if-is_out.is_over c.judge_lines.result c.requires.lines c.judge_lines.ensures.verdict)
