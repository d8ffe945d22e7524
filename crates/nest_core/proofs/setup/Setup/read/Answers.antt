use Rattle.std.proofs.Common.{Some, ◌∙◌, ap, sym}
use Rattle.nest_core.proofs.Outcomes.{match_err}
use Rattle.nest_core.proofs.Tables.{is_text, never_both, no_fault, no_station, no_text, not_csv}
use Rattle.nest_core.proofs.Tables.{row_first}
use Rattle.nest_core.proofs.setup.Setup.read.Goals as goal

pub returns-in_default-clause-exact : goal.returns-in_default-clause-exact
returns-in_default-clause-exact c =
    λ other. not_csv c.args.bytes.now (no_text c.args.bytes.now c.in_default.ensures.cases.0)

pub returns-in_err-setup-clause-exact : goal.returns-in_err-setup-clause-exact
returns-in_err-setup-clause-exact c =
    match_err c.from_residual.result _ _ _ c.from_residual.ensures.1 (λ fault gives. λ other.
    row_first c.args.bytes.now fault (is_text c.args.bytes.now c.in-Ok.ensures.cases.1)
    (c.in_err-setup.ensures (λ e. other (gives ∙ e)) ∙ ap Some (sym gives)))

pub returns-in_err-setup-clause-not_csv : goal.returns-in_err-setup-clause-not_csv
returns-in_err-setup-clause-not_csv c =
    λ none. absurd (never_both c.args.bytes.now c.in-Ok.ensures.cases.1 none)

pub returns-then-stations-eq0-clause-exact : goal.returns-then-stations-eq0-clause-exact
returns-then-stations-eq0-clause-exact c = λ other.
    no_station c.args.bytes.now c.in_ok-setup.setup c.stations.result
    (is_text c.args.bytes.now c.in-Ok.ensures.cases.1) c.in_ok-setup.ensures.0
    c.in_ok-setup.ensures.1
    c.stations.ensures.count c.if-stations-eq0.true

pub returns-then-stations-eq0-clause-not_csv : goal.returns-then-stations-eq0-clause-not_csv
returns-then-stations-eq0-clause-not_csv c =
    λ none. absurd (never_both c.args.bytes.now c.in-Ok.ensures.cases.1 none)

pub returns-clause-exact : goal.returns-clause-exact
returns-clause-exact c = (
  no_fault c.args.bytes.now c.in_ok-setup.setup c.stations.result
      (is_text c.args.bytes.now c.in-Ok.ensures.cases.1) c.in_ok-setup.ensures.0
      c.in_ok-setup.ensures.1
      c.stations.ensures.count c.if-stations-eq0.false,
  c.in_ok-setup.ensures.1,
)

pub returns-clause-not_csv : goal.returns-clause-not_csv
returns-clause-not_csv c = λ none. absurd (never_both c.args.bytes.now c.in-Ok.ensures.cases.1 none)
