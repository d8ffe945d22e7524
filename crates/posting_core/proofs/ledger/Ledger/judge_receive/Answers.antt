use Rattle.std.proofs.Common.{rules, ◌≡◌, ◌∙◌, ap, sym, filter, not, Ok}
use Rattle.nest_core.specs.Museum.{is_container}
use Rattle.nest_core.proofs.Outcomes.{at_err}
use Rattle.posting_core.specs.declared.stage.LineStage.TheVariants.{Awaiting}
use Rattle.posting_core.specs.Loans.{line, objects_with}
use Rattle.posting_core.specs.Verdicts.{first_of, receive_rows, line_rows, is_over}
use Rattle.posting_core.proofs.Along.{more_held}
use Rattle.posting_core.proofs.Asked.{gives_up_on_lines}
use Rattle.posting_core.proofs.LoanAnswers.{judged_by_row}
use Rattle.posting_core.proofs.ledger.Ledger.judge_receive.Goals as goal

pub returns-in_ok-verdict-in-Ok-clause-verdict : goal.returns-in_ok-verdict-in-Ok-clause-verdict
returns-in_ok-verdict-in-Ok-clause-verdict c =
    let S = c.args.self.now.museum in
    let P = c.args.self.now.posted in
    let loan = c.args.loan.now in
    let crossing : filter (λ o. not (is_container S o)) c.as_slice.result.now ≡ objects_with S P
    c.in-Ok.x = ap (filter (λ o. not (is_container S o)))
    (c.as_slice.ensures ∙ c.in_ok-carried-in-Ok.ensures.carried) in
    let judged : c.in_ok-verdict-in-Ok.verdict
    ≡ first_of (line_rows (line S P loan) Awaiting (objects_with S P c.in-Ok.x)
    c.lt-is_over.result) = judged_by_row S P loan c.in-Ok.kept.now (objects_with S P c.in-Ok.x)
    Awaiting c.lt-is_over.result (Ok _) c.in-Ok.ensures.0.lines
    (rw (← crossing) c.in_ok-verdict-in-Ok.ensures.verdict) in
    let late : c.lt-is_over.result ≡ is_over P loan c.args.day =
    search (rules, c.in-Ok.ensures.0.last) in
    c.putting.ensures.verdict ∙ rw late at judged
    ∙ sym {b = first_of (line_rows (line S P loan) Awaiting (objects_with S P c.in-Ok.x)
    (is_over P loan c.args.day))} (c.in-Ok.ensures.2 c.args.day)

pub returns-in_err-carried-in-Ok-clause-err : goal.returns-in_err-carried-in-Ok-clause-err
returns-in_err-carried-in-Ok-clause-err c =
    let S = c.args.self.now.museum in
    let P = c.args.self.now.posted in
    let loan = c.args.loan.now in
    let held = c.in_err-carried-in-Ok.ensures.gives_up in
    at_err c.from_residual.result _
    (gives_up_on_lines S P c.args.thing.now c.in-Ok.x
    (first_of (receive_rows S P c.args.thing.now loan c.args.place.now c.args.day))
    (line S P loan) Awaiting (objects_with S P c.in-Ok.x) (is_over P loan c.args.day)
    c.in-Ok.ensures.0.thing (c.in-Ok.ensures.2 c.args.day) held)

pub returns-in_err-verdict-in-Ok-clause-err : goal.returns-in_err-verdict-in-Ok-clause-err
returns-in_err-verdict-in-Ok-clause-err c =
    let S = c.args.self.now.museum in
    let P = c.args.self.now.posted in
    let loan = c.args.loan.now in
    let held = more_held S P c.in-Ok.x c.as_slice.result.now
    (c.as_slice.ensures ∙ c.in_ok-carried-in-Ok.ensures.carried)
    c.in_err-verdict-in-Ok.ensures.gives_up in
    at_err c.from_residual-in_err-verdict-in-Ok.result _
    (gives_up_on_lines S P c.args.thing.now c.in-Ok.x
    (first_of (receive_rows S P c.args.thing.now loan c.args.place.now c.args.day))
    (line S P loan) Awaiting (objects_with S P c.in-Ok.x) (is_over P loan c.args.day)
    c.in-Ok.ensures.0.thing (c.in-Ok.ensures.2 c.args.day) held)
