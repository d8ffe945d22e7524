use Rattle.std.proofs.Common.{string_bytes}
use Rattle.std.proofs.lemmas.Result.{IfOk-weaker}
use Rattle.page_core.specs.Away.{away_text}
use Rattle.reports.proofs.NumberedRows.{each_read}
use Rattle.page_core.proofs.away.AwayRows.row.Goals as goal

pub returns : goal.returns
returns c =
    let s = c.args.self.now in
    IfOk-weaker c.away_row.result _ _
    (λ row is. each_read (away_text s.setup.now) s.objects.items c.args.i c.index.result.now
    (string_bytes row) c.requires c.index.ensures is) c.away_row.ensures
