use Rattle.reports.proofs.WrittenSections.{stops_longer, writes_after, writes_err}
use Rattle.reports.proofs.sections.rows.write_section.Goals as goal

pub returns-in_err-write_text : goal.returns-in_err-write_text
returns-in_err-write_text g c = writes_err _ _ c.from_residual.result _ _
    c.from_residual.ensures.1 (stops_longer _ _ _ _ c.in_err-write_text.ensures)

pub returns : goal.returns
returns g c =
    writes_after _ _ _ c.write_rest.result _ _ c.in_ok-write_text.ensures c.write_rest.ensures
