use Rattle.std.proofs.Common.{◌∙◌, ap, sym, drop}
use Rattle.nest_core.proofs.Outcomes.{match_err}
use Rattle.posting_core.specs.VerdictNames.{is_applied}
use Rattle.posting_core.specs.Verdicts.{return_rows}
use Rattle.posting_core.proofs.ledger.Ledger.return_asked.Goals as goal

pub returns-in_err-x : goal.returns-in_err-x
returns-in_err-x c = match_err c.from_residual.result _ _ _ c.from_residual.ensures.1
    (λ refusal gives. (
      ap is_applied gives ∙ c.in_err-x.ensures.0,
      c.in_err-x.ensures.1
          (drop 4 (return_rows c.args.self.now.museum c.args.self.now.posted c.args.thing.now
          c.args.loan.now c.args.place.now)) ∙ sym gives,
    ))
