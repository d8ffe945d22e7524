use Rattle.std.proofs.Common.{map}
use Rattle.reports.specs.Columns.{names_in}
use Rattle.reports.specs.Forms.{widths_in}
use Rattle.reports.proofs.PrintedRows.{heading_and_lines, heading_failed}
use Rattle.reports.proofs.rows.print_rows.Goals as goal

pub returns-in_err-print_heading : goal.returns-in_err-print_heading
returns-in_err-print_heading g c =
    let rows = g.R.Rows.rows c.args.rows.now c.args.form in
    let names = map (λ n. n.now) c.args.names.now in
    let columns = c.in_ok-columns.columns in
    heading_failed c.args.form rows (names_in columns) names columns.widths.items
    (widths_in c.args.form names rows) c.in_ok-columns.ensures.names c.in_ok-columns.ensures.widths
    _ _ c.from_residual-in_err-print_heading.result _
    c.from_residual-in_err-print_heading.ensures.1 c.in_err-print_heading.ensures

pub returns : goal.returns
returns g c =
    let rows = g.R.Rows.rows c.args.rows.now c.args.form in
    let names = map (λ n. n.now) c.args.names.now in
    let columns = c.in_ok-columns.columns in
    heading_and_lines c.args.form rows (names_in columns) names columns.widths.items
    (widths_in c.args.form names rows) c.in_ok-columns.ensures.names c.in_ok-columns.ensures.widths
    _ _ _ c.print_lines.result c.in_ok-print_heading.ensures c.print_lines.ensures
