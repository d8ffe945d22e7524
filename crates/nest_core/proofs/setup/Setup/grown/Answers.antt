use Rattle.std.proofs.Common.{ap, arith, length, subst, sym}
use Rattle.nest_core.specs.Museum.{Museum, IsMuseum}
use Rattle.nest_core.specs.SetupGrowing.{Extends}
use Rattle.nest_core.proofs.Growing.{IsMuseum-grown}
use Rattle.nest_core.proofs.setup.Setup.grown.Goals as goal

pub invariant_of-result : goal.invariant_of-result
invariant_of-result c =
    let fields = c.further.inside in
    let T : Museum = record {
      stations = fields.stations.keys;
      places = fields.places.entries;
      things = fields.things.entries;
      growths = fields.growths.items;
    } in
    let S : Museum = c.args.self.now in
    let more : Extends S T = subst (Extends S) (sym c.further.view_is) c.requires in
    rw (c.in-Ok.ensures.items, c.listed_now.ensures, more.growths)
    (IsMuseum-grown c.args.posted S T (subst IsMuseum c.self.view_is c.self.invariant)
    c.further.invariant more (omega (arith, ap (λ (M : Museum). length M.growths) c.self.view_is)))
