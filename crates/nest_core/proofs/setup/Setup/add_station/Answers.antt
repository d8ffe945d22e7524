use Rattle.std.proofs.Common.{◌≡◌, ◌<◌, sym, ◌∙◌, None, length, arith}
use Rattle.nest_core.specs.declared.TheConstants.{MOST_STATIONS}
use Rattle.nest_core.specs.Museum.{Museum, find_station}
use Rattle.nest_core.proofs.Museums.{IsMuseum-station}
use Rattle.nest_core.proofs.Positions.{insert_key_new, not_found}
use Rattle.nest_core.proofs.setup.Setup.add_station.Goals as goal

pub invariant_of-self-2 : goal.invariant_of-self-2
invariant_of-self-2 c =
    let fields = c.self.inside in
    let S : Museum = record {
      stations = fields.stations.keys;
      places = fields.places.entries;
      things = fields.things.entries;
      growths = fields.growths.items;
    } in
    let none : find_station S c.args.name ≡ None =
    sym c.get_index_of.ensures.index ∙ not_found _ _ c.is_some.ensures c.if-is_some.false in
    let few : length S.stations < MOST_STATIONS = omega arith in
    rw (c.in_ok-insert.ensures.keys, insert_key_new S.stations c.args.name none)
    (IsMuseum-station S c.args.name c.self.invariant c.requires none few)
