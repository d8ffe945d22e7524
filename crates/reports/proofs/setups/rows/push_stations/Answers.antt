use Rattle.std.proofs.Common.{◌≡◌, ◌++◌, ◌∙◌, ap, drop, subst, take}
use Rattle.std.specs.Prelude.{OnOk, string_bytes}
use Rattle.nest_core.specs.SetupTexts.{setup_rows}
use Rattle.reports.specs.Lines.{lines}
use Rattle.reports.proofs.SetupRows.{stations_from}
use Rattle.reports.proofs.setups.rows.push_stations.Goals as goal

pub returns : goal.returns
returns c =
    let S = c.args.setup.now in
    subst (λ rows. OnOk c.push_rows.result (string_bytes c.push_rows.new.text
    ≡ string_bytes c.args.text.now ++ lines c.args.mark.now rows))
    (ap (λ n. drop c.args.from (take n (setup_rows S))) c.stations.ensures.count
    ∙ stations_from S c.args.from) c.push_rows.ensures
