use Rattle.reports.proofs.WrittenSections.{stops_longer, stops_within, writes_after, writes_err}
use Rattle.page_core.proofs.histories.write_spots.Goals as goal

pub returns-in_err-write_text : goal.returns-in_err-write_text
returns-in_err-write_text g c =
    writes_err _ _ c.from_residual.result _ _ c.from_residual.ensures.1
    (stops_longer _ _ _ _ c.in_err-write_text.ensures)

pub returns-in_err-write_rows : goal.returns-in_err-write_rows
returns-in_err-write_rows g c =
    writes_err _ _ c.from_residual-in_err-write_rows.result _ _
    c.from_residual-in_err-write_rows.ensures.1
    (stops_within _ _ _ _ _ c.in_ok-write_text.ensures
    (stops_longer _ _ _ _ c.in_err-write_rows.ensures))

pub returns : goal.returns
returns g c =
    writes_after _ _ _ c.write_text-2.result _ _ c.in_ok-write_text.ensures
    (writes_after _ _ _ c.write_text-2.result _ _ c.in_ok-write_rows.ensures
    c.write_text-2.ensures)
