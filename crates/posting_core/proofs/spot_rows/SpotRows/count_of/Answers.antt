use Rattle.std.proofs.Common.{ap}
use Rattle.posting_core.specs.SpotRows.{Rows}
use Rattle.posting_core.proofs.SpotRows.{row_counted}
use Rattle.posting_core.proofs.spot_rows.SpotRows.count_of.Goals as goal

pub returns : goal.returns
returns c = row_counted c.self.inside.last.items c.self.invariant
    (ap (λ (r : Rows). r.rows) c.self.view_is) c.args.thing c.index.result.now c.requires
    c.index.ensures
