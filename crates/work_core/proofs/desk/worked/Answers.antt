use Rattle.std.proofs.Common.{inr, rules, sym}
use Rattle.std.specs.Prelude.{IsFalse}
use Rattle.std.proofs.lemmas.Result.{on_ok_weaker, IfErr-weaker}
use Rattle.posting_core.specs.Lawful.{is_signed_off}
use Rattle.work_core.proofs.desk.worked.Goals as goal

pub returns-clause-worked : goal.returns-clause-worked
returns-clause-worked g c =
    let goes_on : IsFalse (is_signed_off c.args.bench.now.station c.args.hub.book.posted) =
    search rules in
    on_ok_weaker c.answer-ended.result
    (λ answered. record {
      ended = c.answer-ended.new.hub;
      unsigned = goes_on;
      register_is = sym c.close-2.ensures.same;
      answered = answered;
    })
    c.answer-ended.ensures.answered

pub returns-clause-stops : goal.returns-clause-stops
returns-clause-stops g c =
    let goes_on : IsFalse (is_signed_off c.args.bench.now.station c.args.hub.book.posted) =
    search rules in
    IfErr-weaker c.answer-ended.result _ _
    (λ fault left. inr (record {
      ended = c.answer-ended.new.hub;
      unsigned = goes_on;
      register_is = sym c.close-2.ensures.same;
      left = left;
    }))
    c.answer-ended.ensures.left
