use Rattle.std.proofs.Common.{◌≡◌, ◌∷◌, map, take}
use Rattle.reports.specs.declared.form.Form.TheVariants as form
use Rattle.reports.specs.Aligned.{column_widths, row_texts}
use Rattle.reports.proofs.rows.widths_of.Given as goal

abbrev pub invariant-loop-i : goal.invariant-loop-i
invariant-loop-i g l = l.widths.items ≡ column_widths (map (λ n. n.now) l.names
    ∷ map row_texts (take l.i (g.R.Rows.rows l.rows form.Table)))
