use Rattle.std.proofs.Common.{◌≡◌, ◌∙◌, OnOk, Some, ap, map, subst, sym}
use Rattle.reports.specs.declared.form.Form.TheVariants as form
use Rattle.reports.specs.Aligned.{wider}
use Rattle.reports.specs.Cells.{cell_of}
use Rattle.reports.proofs.TableLemmas.{row_widths}
use Rattle.reports.proofs.rows.widen_to.Goals as goal

pub returns : goal.returns
returns g c =
    let is = ap (λ items. Some (map cell_of items)) (sym c.as_slice.ensures.value) in
    let e = row_widths (g.R.Rows.rows c.args.rows.now form.Table) c.args.i
    (map cell_of c.as_slice.result.now) (c.in_ok-row.ensures ∙ is) in
    subst (λ ws. OnOk c.widen_to_row.result
    (c.widen_to_row.new.widths.items ≡ wider c.args.widths.now.items ws))
    (sym e) c.widen_to_row.ensures
