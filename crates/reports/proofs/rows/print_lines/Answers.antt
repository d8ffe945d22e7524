use Rattle.std.proofs.Common.{subst, sym, arith}
use Rattle.std.proofs.KnownBytes.{Appends-nil, Appends-trans}
use Rattle.std.proofs.lemmas.List.{take_all}
use Rattle.std.specs.Io.KnownBytes.{Appends}
use Rattle.reports.specs.Columns.{names_in}
use Rattle.reports.specs.Forms.{line_text, lines_text}
use Rattle.reports.proofs.LineEnds.{line_ends}
use Rattle.reports.proofs.WrittenText.{lines_more, prints_err, stops_at}
use Rattle.reports.proofs.rows.print_lines.Goals as goal

pub loop-i-init : goal.loop-i-init
loop-i-init g c = Appends-nil (g.W.Write.contents c.args.out.now)

pub loop-i-preserved : goal.loop-i-preserved
loop-i-preserved g c =
    subst (Appends _ _) (sym (lines_more (line_text c.args.form (names_in c.args.columns.now)
    c.args.columns.now.widths.items)
    (g.R.Rows.rows c.args.rows.now c.args.form) c.loop-i.i))
    (Appends-trans _ _ _ _ _ c.loop-i.invariant c.in_ok-print_row.ensures)

pub returns-in_err-print_row : goal.returns-in_err-print_row
returns-in_err-print_row g c =
    prints_err _ _ c.from_residual.result _ _ c.from_residual.ensures.1
    (stops_at _ _ _ _ (line_text c.args.form (names_in c.args.columns.now)
    c.args.columns.now.widths.items)
    (line_ends c.args.form (names_in c.args.columns.now) c.args.columns.now.widths.items)
    (g.R.Rows.rows c.args.rows.now c.args.form) c.loop-i.i c.loop-i.invariant
    c.in_err-print_row.ensures)

pub returns : goal.returns
returns g c =
    let rows = g.R.Rows.rows c.args.rows.now c.args.form in
    subst (λ rs. Appends (g.W.Write.contents c.args.out.now) (g.W.Write.contents c.loop-i.out)
    (lines_text c.args.form (names_in c.args.columns.now)
    c.args.columns.now.widths.items rs))
    (take_all c.loop-i.i rows (omega (arith, c.len-i-end.ensures))) c.loop-i.invariant
