use Rattle.std.proofs.Common.{◌∙◌, map, sym}
use Rattle.reports.specs.declared.form.Form.TheVariants as form
use Rattle.reports.specs.Aligned.{width}
use Rattle.reports.proofs.TableLemmas.{widened_by_row, wider-none}
use Rattle.reports.proofs.rows.widths_of.Goals as goal

pub loop-i-init : goal.loop-i-init
loop-i-init g c =
    c.in_ok-widths.ensures ∙ sym (wider-none (map width (map (λ n. n.now) c.args.names.now)))

pub loop-i-preserved : goal.loop-i-preserved
loop-i-preserved g c = widened_by_row (map width (map (λ n. n.now) c.args.names.now))
    (g.R.Rows.rows c.args.rows.now form.Table) c.loop-i.i c.loop-i.widths.items
    c.widen_to.new.widths.items c.in_ok-widen_to.ensures c.loop-i.invariant
