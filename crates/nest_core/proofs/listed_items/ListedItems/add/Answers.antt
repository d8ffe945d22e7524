use Rattle.nest_core.specs.SetupGrowing.{Items}
use Rattle.nest_core.proofs.Takings.{place_added, station_added, thing_added}
use Rattle.nest_core.proofs.listed_items.ListedItems.add.Goals as goal

pub returns-in_ok-insert-in-Station : goal.returns-in_ok-insert-in-Station
returns-in_ok-insert-in-Station c =
    let fields = c.self.inside in
    let view : Items = record {
      stations = fields.stations.keys;
      places = fields.places.keys;
      things = fields.things.keys;
    } in
    station_added view c.args.self.now c.args.item c.in-Station.name c.insert.new.self.keys
    c.self.view_is c.in-Station.is c.requires c.in_ok-insert-in-Station.ensures.keys

pub returns-in_ok-insert-in-Place : goal.returns-in_ok-insert-in-Place
returns-in_ok-insert-in-Place c =
    let fields = c.self.inside in
    let view : Items = record {
      stations = fields.stations.keys;
      places = fields.places.keys;
      things = fields.things.keys;
    } in
    place_added view c.args.self.now c.args.item c.in-Place.code c.in-Place.field-1
    c.insert-in-Place.new.self.keys
    c.self.view_is c.in-Place.is c.requires c.in_ok-insert-in-Place.ensures.keys

pub returns-in_ok-insert-in-Thing : goal.returns-in_ok-insert-in-Thing
returns-in_ok-insert-in-Thing c =
    let fields = c.self.inside in
    let view : Items = record {
      stations = fields.stations.keys;
      places = fields.places.keys;
      things = fields.things.keys;
    } in
    thing_added view c.args.self.now c.args.item c.in-Thing.code c.in-Thing.field-1
    c.insert-in-Thing.new.self.keys
    c.self.view_is c.in-Thing.is c.requires c.in_ok-insert-in-Thing.ensures.keys
