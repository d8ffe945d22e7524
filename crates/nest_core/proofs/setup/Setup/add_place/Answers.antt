use Rattle.std.proofs.Common.{◌≡◌, ◌<◌, sym, ◌∙◌, None, length, arith}
use Rattle.nest_core.specs.declared.TheConstants.{MOST_PLACES}
use Rattle.nest_core.specs.Museum.{Museum, find_place}
use Rattle.nest_core.proofs.Museums.{IsMuseum-place, place_added}
use Rattle.nest_core.proofs.Positions.{insert_new, not_found}
use Rattle.nest_core.proofs.setup.Setup.add_place.Goals as goal

pub invariant_of-self-2 : goal.invariant_of-self-2
invariant_of-self-2 c =
    let fields = c.self.inside in
    let S : Museum = record {
      stations = fields.stations.keys;
      places = fields.places.entries;
      things = fields.things.entries;
      growths = fields.growths.items;
    } in
    let none : find_place S c.args.code ≡ None =
    sym c.get_index_of.ensures.index ∙ not_found _ _ c.is_some.ensures c.if-is_some.false in
    let few : length S.places < MOST_PLACES = omega arith in
    rw (c.in_ok-insert.ensures.entries, insert_new S.places c.args.code c.args.inside none)
    (IsMuseum-place S c.args.code c.args.inside c.self.invariant c.requires none few)

pub returns-clause-ok : goal.returns-clause-ok
returns-clause-ok c =
    let fields = c.self.inside in
    let S : Museum = record {
      stations = fields.stations.keys;
      places = fields.places.entries;
      things = fields.things.entries;
      growths = fields.growths.items;
    } in
    let none : find_place S c.args.code ≡ None =
    sym c.get_index_of.ensures.index ∙ not_found _ _ c.is_some.ensures c.if-is_some.false in
    let few : length S.places < MOST_PLACES = omega arith in
    rw (c.in_ok-insert.ensures.entries, insert_new S.places c.args.code c.args.inside none)
    (place_added S c.args.self.now c.args.number c.args.code c.args.inside
    c.self.view_is none few)
