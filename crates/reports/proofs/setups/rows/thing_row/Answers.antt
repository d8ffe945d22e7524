use Rattle.std.proofs.Common.{◌+◌, ◌-◌, ◌∙◌, ◌≡◌, ap, arith, length, subst, sym}
use Rattle.std.specs.Prelude.{IfOk, Some, slice_get, string_bytes}
use Rattle.nest_core.specs.SetupTexts.{setup_rows}
use Rattle.reports.proofs.SetupRows.{thing_at}
use Rattle.reports.proofs.setups.rows.thing_row.Goals as goal

pub returns : goal.returns
returns c =
    let S = c.args.setup.now in
    let index : length S.stations + length S.places + c.args.thing
    ≡ (c.stations.result + c.places.result + c.args.thing + 1) - 1 = omega arith in
    subst (λ row. IfOk c.row_text.result (λ text. row ≡ Some (string_bytes text)))
    (sym (ap (slice_get (setup_rows S)) index) ∙ thing_at S c.args.thing c.requires)
    c.row_text.ensures
