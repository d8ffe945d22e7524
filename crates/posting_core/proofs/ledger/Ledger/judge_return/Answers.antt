use Rattle.std.proofs.Common.{◌≡◌, ◌∙◌, ap, sym, filter, not, false, Ok}
use Rattle.nest_core.specs.Museum.{is_container}
use Rattle.nest_core.proofs.Outcomes.{at_err}
use Rattle.posting_core.specs.declared.stage.LineStage.TheVariants.{Away}
use Rattle.posting_core.specs.Loans.{line, objects_with}
use Rattle.posting_core.specs.Verdicts.{first_of, return_rows, line_rows}
use Rattle.posting_core.proofs.Along.{more_held}
use Rattle.posting_core.proofs.Asked.{gives_up_on_lines}
use Rattle.posting_core.proofs.LoanAnswers.{judged_by_row}
use Rattle.posting_core.proofs.ledger.Ledger.judge_return.Goals as goal

pub returns-in_ok-verdict-in-Ok-clause-verdict : goal.returns-in_ok-verdict-in-Ok-clause-verdict
returns-in_ok-verdict-in-Ok-clause-verdict c =
    let S = c.args.self.now.museum in
    let P = c.args.self.now.posted in
    let loan = c.args.loan.now in
    let crossing : filter (λ o. not (is_container S o)) c.as_slice.result.now ≡ objects_with S P
    c.in-Ok.x = ap (filter (λ o. not (is_container S o)))
    (c.as_slice.ensures ∙ c.in_ok-carried-in-Ok.ensures.carried) in
    let judged : c.in_ok-verdict-in-Ok.verdict
    ≡ first_of (line_rows (line S P loan) Away (objects_with S P c.in-Ok.x) false) =
    judged_by_row S P loan c.in-Ok.kept.now (objects_with S P c.in-Ok.x) Away false (Ok _)
    c.in-Ok.ensures.0.lines (rw (← crossing) c.in_ok-verdict-in-Ok.ensures.verdict) in
    c.putting.ensures.verdict ∙ judged
    ∙ sym {b = first_of (line_rows (line S P loan) Away (objects_with S P c.in-Ok.x) false)}
    c.in-Ok.ensures.2

pub returns-in_err-carried-in-Ok-clause-err : goal.returns-in_err-carried-in-Ok-clause-err
returns-in_err-carried-in-Ok-clause-err c =
    let S = c.args.self.now.museum in
    let P = c.args.self.now.posted in
    let loan = c.args.loan.now in
    let held = c.in_err-carried-in-Ok.ensures.gives_up in
    at_err c.from_residual.result _
    (gives_up_on_lines S P c.args.thing.now c.in-Ok.x
    (first_of (return_rows S P c.args.thing.now loan c.args.place.now)) (line S P loan) Away
    (objects_with S P c.in-Ok.x) false c.in-Ok.ensures.0.thing c.in-Ok.ensures.2 held)

pub returns-in_err-verdict-in-Ok-clause-err : goal.returns-in_err-verdict-in-Ok-clause-err
returns-in_err-verdict-in-Ok-clause-err c =
    let S = c.args.self.now.museum in
    let P = c.args.self.now.posted in
    let loan = c.args.loan.now in
    let held = more_held S P c.in-Ok.x c.as_slice.result.now
    (c.as_slice.ensures ∙ c.in_ok-carried-in-Ok.ensures.carried)
    c.in_err-verdict-in-Ok.ensures.gives_up in
    at_err c.from_residual-in_err-verdict-in-Ok.result _
    (gives_up_on_lines S P c.args.thing.now c.in-Ok.x
    (first_of (return_rows S P c.args.thing.now loan c.args.place.now)) (line S P loan) Away
    (objects_with S P c.in-Ok.x) false c.in-Ok.ensures.0.thing c.in-Ok.ensures.2 held)
