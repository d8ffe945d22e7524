use Rattle.std.proofs.Common.{subst}
use Rattle.reports.specs.Writes.{Writes}
use Rattle.reports.proofs.WrittenSections.{writes_printed}
use Rattle.reports.proofs.WrittenText.{prints_whole}
use Rattle.reports.proofs.sections.writing.write_text.Goals as goal

pub returns : goal.returns
returns g c =
    let old = g.W.Write.contents c.args.out.now in
    let new = g.W.Write.contents c.write_text.new.out in
    subst (Writes old new c.write_text.result) c.as_bytes.ensures.value
    (writes_printed old new c.write_text.result _
    (prints_whole old new c.write_text.result _ c.write_text.ensures))
