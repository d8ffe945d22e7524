use Rattle.std.proofs.Common.{◌≡◌, true, ap, is_some, length, subst, sym}
use Rattle.nest_core.specs.Museum.{Museum, find_thing, is_thing_row}
use Rattle.nest_core.specs.SetupGrowing.{rehomed}
use Rattle.nest_core.proofs.Growing.{IsMuseum-rehomed, inserted, never_unseen}
use Rattle.nest_core.proofs.setup.Setup.set_normal.Goals as goal

pub invariant_of-self : goal.invariant_of-self
invariant_of-self c =
    let fields = c.self.inside in
    let S : Museum = record {
      stations = fields.stations.keys;
      places = fields.places.entries;
      things = fields.things.entries;
      growths = fields.growths.items;
    } in
    let there : is_some (find_thing S c.args.code) ≡ true = subst (λ (m : Museum). is_some
    (find_thing m c.args.code) ≡ true) (sym c.self.view_is) c.requires.listed in
    let right : is_thing_row (length S.places) (c.args.code, c.args.normal) ≡ true = subst (λ (m :
    Museum). is_thing_row (length m.places) (c.args.code, c.args.normal) ≡ true) (sym
    c.self.view_is) c.requires.right in
    rw (c.in-Ok.ensures.entries, inserted S c.args.code c.args.normal there)
    (IsMuseum-rehomed S c.args.code c.args.normal c.self.invariant right)

pub returns : goal.returns
returns c =
    let fields = c.self.inside in
    let S : Museum = record {
      stations = fields.stations.keys;
      places = fields.places.entries;
      things = fields.things.entries;
      growths = fields.growths.items;
    } in
    let there : is_some (find_thing S c.args.code) ≡ true = subst (λ (m : Museum). is_some
    (find_thing m c.args.code) ≡ true) (sym c.self.view_is) c.requires.listed in
    rw (c.in-Ok.ensures.entries, inserted S c.args.code c.args.normal there) (ap (λ (m :
    Museum). record m { things = rehomed m.things c.args.code c.args.normal }) c.self.view_is)

pub unreachable-requires : goal.unreachable-requires
unreachable-requires c =
    let fields = c.self.inside in
    let S : Museum = record {
      stations = fields.stations.keys;
      places = fields.places.entries;
      things = fields.things.entries;
      growths = fields.growths.items;
    } in
    let there : is_some (find_thing S c.args.code) ≡ true = subst (λ (m : Museum). is_some
    (find_thing m c.args.code) ≡ true) (sym c.self.view_is) c.requires.listed in
    never_unseen S c.args.code there c.in-Err.ensures.absent
