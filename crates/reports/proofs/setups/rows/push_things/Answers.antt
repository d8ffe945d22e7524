use Rattle.std.proofs.Common.{◌≡◌, ◌++◌, ◌+◌, ◌∙◌, ap, arith, drop, length, subst, take}
use Rattle.std.specs.Prelude.{OnOk, string_bytes}
use Rattle.nest_core.specs.SetupTexts.{setup_rows}
use Rattle.reports.specs.Lines.{lines}
use Rattle.reports.proofs.SetupRows.{things_from}
use Rattle.reports.proofs.setups.rows.push_things.Goals as goal

pub returns : goal.returns
returns c =
    let S = c.args.setup.now in
    let before : c.stations.result + c.places.result ≡ length S.stations + length S.places =
    omega (arith, c.stations.ensures.count, c.places.ensures.count) in
    let end : c.stations.result + c.places.result + c.things.result
    ≡ length S.stations + length S.places + length S.things =
    omega (arith, before, c.things.ensures.count) in
    subst (λ rows. OnOk c.push_rows.result (string_bytes c.push_rows.new.text
    ≡ string_bytes c.args.text.now ++ lines c.args.mark.now rows))
    (ap (λ n. drop (n + c.args.from)
    (take (c.stations.result + c.places.result + c.things.result) (setup_rows S))) before
    ∙ (ap (λ n. drop (length S.stations + length S.places + c.args.from)
    (take n (setup_rows S))) end
    ∙ things_from S c.args.from)) c.push_rows.ensures
