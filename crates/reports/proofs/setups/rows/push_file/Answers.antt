use Rattle.std.proofs.Common.{◌≡◌, ◌++◌, ◌+◌, ◌∙◌, [], ap, arith, length, subst, take}
use Rattle.std.specs.Prelude.{OnOk, string_bytes}
use Rattle.nest_core.specs.SetupTexts.{setup_rows}
use Rattle.reports.specs.Lines.{lines}
use Rattle.reports.proofs.SetupRows.{file_part}
use Rattle.reports.proofs.setups.rows.push_file.Goals as goal

pub returns : goal.returns
returns c =
    let S = c.args.setup.now in
    let end : c.stations.result + c.places.result + c.things.result
    ≡ length S.stations + length S.places + length S.things =
    omega (arith, c.stations.ensures.count, c.places.ensures.count, c.things.ensures.count) in
    subst (λ rows. OnOk c.push_rows.result (string_bytes c.push_rows.new.text
    ≡ string_bytes c.args.text.now ++ lines [] rows))
    (ap (λ n. take n (setup_rows S)) end ∙ file_part S) c.push_rows.ensures
