use Rattle.std.proofs.Common.{subst, sym, arith}
use Rattle.std.proofs.KnownBytes.{Appends-nil, Appends-trans}
use Rattle.std.proofs.lemmas.List.{take_all}
use Rattle.std.specs.Io.KnownBytes.{Appends}
use Rattle.reports.specs.Writes.{rows_text}
use Rattle.reports.proofs.WrittenText.{lines_more}
use Rattle.reports.proofs.WrittenSections.{stops_at, writes_err}
use Rattle.reports.proofs.sections.rows.write_rows.Goals as goal

pub loop-i-init : goal.loop-i-init
loop-i-init g c = Appends-nil (g.W.Write.contents c.args.out.now)

pub loop-i-preserved : goal.loop-i-preserved
loop-i-preserved g c =
    subst (Appends _ _) (sym (lines_more (λ t. t) (g.R.Rows.texts c.args.rows.now) c.loop-i.i))
    (Appends-trans _ _ _ _ _ c.loop-i.invariant c.in_ok-write_row.ensures)

pub returns-in_err-write_row : goal.returns-in_err-write_row
returns-in_err-write_row g c =
    writes_err _ _ c.from_residual.result _ _ c.from_residual.ensures.1
    (stops_at _ _ _ (λ t. t) (g.R.Rows.texts c.args.rows.now) c.loop-i.i c.loop-i.invariant
    c.in_err-write_row.ensures)

pub returns : goal.returns
returns g c =
    let rows = g.R.Rows.texts c.args.rows.now in
    subst (λ rs. Appends (g.W.Write.contents c.args.out.now) (g.W.Write.contents c.loop-i.out)
    (rows_text rs)) (take_all c.loop-i.i rows (omega (arith, c.len-i-end.ensures)))
    c.loop-i.invariant
