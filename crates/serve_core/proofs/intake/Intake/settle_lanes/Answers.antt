use Rattle.serve_core.proofs.Sendings.{settled_view}
use Rattle.serve_core.proofs.intake.Intake.settle_lanes.Goals as goal

pub returns-clause-front : goal.returns-clause-front
returns-clause-front c = settled_view c.self.inside.rings.items c.args.self.now
    c.args.found.now.items _ c.self.view_is c.self.inside.rings.ok.0 c.settle_lanes.ensures.front
