use Rattle.std.proofs.Common.{◌++◌, ◌∷◌, [], List, length, ap, ◌∙◌, subst}
use Rattle.serve_core.specs.declared.item.LogLine.{LogLine}
use Rattle.serve_core.specs.Lanes.{Ring}
use Rattle.serve_core.specs.Logs.{AreOfStations, dropped}
use Rattle.serve_core.proofs.Takings.{front_after, takes_is_some}
use Rattle.serve_core.proofs.intake.Intake.finish.Goals as goal

pub returns-clause-fault : goal.returns-clause-fault
returns-clause-fault g c =
    let t = c.in-Err.ensures.fault in
    let G = t.0 ++ dropped t.1 t.2 ∷ [] in (
      t.0,
      t.1,
      t.2,
      t.3 ∙ ap (λ (ls : List LogLine). ls ++ t.0) c.log.view_is,
      t.4,
      subst (λ (cs : List Ring). AreOfStations (length cs) G) c.self.view_is t.5.stations,
      front_after c.args.self c.self.inside.rings.items c.take_left.new.rings.items
          c.args.ends.items c.take_left.new.ends.items G _ c.self.view_is (takes_is_some _ _ G t.5)
          c.in-Err.ensures.ends.1 c.take_left.new.rings.ok.0 c.settle_all.ensures,
    )
