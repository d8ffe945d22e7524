use Rattle.std.proofs.Common.{rules, ◌≡◌, ◌<◌, ◌≤◌, true, is_none, sym, subst, ◌∙◌, None, false}
use Rattle.std.proofs.Common.{length, arith, ap, is_some}
use Rattle.std.specs.Option.{option_and_then}
use Rattle.nest_core.specs.declared.TheConstants.{MOST_THINGS}
use Rattle.nest_core.specs.Museum.{Museum, find_place, find_thing}
use Rattle.nest_core.specs.SetupRows.{lacks_normal}
use Rattle.nest_core.specs.declared.setup_row.SetupRow.TheVariants as lists
use Rattle.nest_core.proofs.Museums.{IsMuseum-thing, normal_missing, normal_there, normal_unasked}
use Rattle.nest_core.proofs.Museums.{thing_added, thing_repeated, thing_row_right, things_full}
use Rattle.nest_core.proofs.Positions.{insert_new, not_found}
use Rattle.nest_core.proofs.setup.Setup.add_thing.Goals as goal
use Rattle.nest_core.proofs.setup.Setup.add_thing.Goals.{
  else-is_some-2-via-then-is_some-2+else-is_none,
}
use Rattle.nest_core.proofs.setup.Setup.add_thing.Goals.{else-is_some-2-via-else-is_some-2}

pub invariant_of-self-2 : goal.invariant_of-self-2
invariant_of-self-2 c =
    let fields = c.self.inside in
    let S : Museum = record {
      stations = fields.stations.keys;
      places = fields.places.entries;
      things = fields.things.entries;
      growths = fields.growths.items;
    } in
    let none : find_thing S c.args.code ≡ None =
    sym c.get_index_of.ensures.index ∙ not_found _ _ c.is_some.ensures c.if-is_some.false in
    let few : length S.things < MOST_THINGS = omega arith in
    let number : c.normal_no-normal_no.result ≡ option_and_then (find_place S) c.args.normal =
    subst (λ (m : Museum). c.normal_no-normal_no.result ≡ option_and_then (find_place m)
    c.args.normal) (sym c.self.view_is) c.normal_no-normal_no.ensures in
    let found : lacks_normal S (lists.Thing c.args.code c.args.normal) ≡ false =
    elim c.else-is_some-2.branch [
      | else-is_some-2-via-then-is_some-2+else-is_none w ↦
          normal_there S c.args.code c.args.normal c.normal_no-normal_no.result number
          (let some = w.is_none.ensures in let there = w.if-is_none.false in search rules)
      | else-is_some-2-via-else-is_some-2 w ↦
          normal_unasked S c.args.code c.args.normal
          (sym c.is_some-2.ensures ∙ w.if-is_some-2.false)
    ] in
    rw (
      c.in_ok-insert.ensures.entries,
      insert_new S.things c.args.code c.normal_no-normal_no.result
          none,
      number,
    )
    (IsMuseum-thing S c.args.code (option_and_then (find_place S) c.args.normal) c.self.invariant
    (thing_row_right S c.args.code c.args.normal c.requires found) none few)

pub returns-clause-ok : goal.returns-clause-ok
returns-clause-ok c =
    let fields = c.self.inside in
    let S : Museum = record {
      stations = fields.stations.keys;
      places = fields.places.entries;
      things = fields.things.entries;
      growths = fields.growths.items;
    } in
    let none : find_thing S c.args.code ≡ None =
    sym c.get_index_of.ensures.index ∙ not_found _ _ c.is_some.ensures c.if-is_some.false in
    let few : length S.things < MOST_THINGS = omega arith in
    let number : c.normal_no-normal_no.result ≡ option_and_then (find_place S) c.args.normal =
    subst (λ (m : Museum). c.normal_no-normal_no.result ≡ option_and_then (find_place m)
    c.args.normal) (sym c.self.view_is) c.normal_no-normal_no.ensures in
    let found : lacks_normal S (lists.Thing c.args.code c.args.normal) ≡ false =
    elim c.else-is_some-2.branch [
      | else-is_some-2-via-then-is_some-2+else-is_none w ↦
          normal_there S c.args.code c.args.normal c.normal_no-normal_no.result number
          (let some = w.is_none.ensures in let there = w.if-is_none.false in search rules)
      | else-is_some-2-via-else-is_some-2 w ↦
          normal_unasked S c.args.code c.args.normal
          (sym c.is_some-2.ensures ∙ w.if-is_some-2.false)
    ] in
    rw (
      c.in_ok-insert.ensures.entries,
      insert_new S.things c.args.code c.normal_no-normal_no.result
          none,
      number,
    )
    (thing_added S c.args.self.now c.args.number c.args.code c.args.normal c.self.view_is
    none found few)

pub returns-in_err-insert-clause-gives_up : goal.returns-in_err-insert-clause-gives_up
returns-in_err-insert-clause-gives_up c =
    let fields = c.self.inside in
    let S : Museum = record {
      stations = fields.stations.keys;
      places = fields.places.entries;
      things = fields.things.entries;
      growths = fields.growths.items;
    } in
    let none : find_thing S c.args.code ≡ None =
    sym c.get_index_of.ensures.index ∙ not_found _ _ c.is_some.ensures c.if-is_some.false in
    let few : length S.things < MOST_THINGS = omega arith in
    let number : c.normal_no-normal_no.result ≡ option_and_then (find_place S) c.args.normal =
    subst (λ (m : Museum). c.normal_no-normal_no.result ≡ option_and_then (find_place m)
    c.args.normal) (sym c.self.view_is) c.normal_no-normal_no.ensures in
    let found : lacks_normal S (lists.Thing c.args.code c.args.normal) ≡ false =
    elim c.else-is_some-2.branch [
      | else-is_some-2-via-then-is_some-2+else-is_none w ↦
          normal_there S c.args.code c.args.normal c.normal_no-normal_no.result number
          (let some = w.is_none.ensures in let there = w.if-is_none.false in search rules)
      | else-is_some-2-via-else-is_some-2 w ↦
          normal_unasked S c.args.code c.args.normal
          (sym c.is_some-2.ensures ∙ w.if-is_some-2.false)
    ] in
    λ none_left. (thing_added S c.args.self.now c.args.number c.args.code c.args.normal
    c.self.view_is none found few).0

pub returns-then-is_none-clause-fault : goal.returns-then-is_none-clause-fault
returns-then-is_none-clause-fault c =
    let fields = c.self.inside in
    let S : Museum = record {
      stations = fields.stations.keys;
      places = fields.places.entries;
      things = fields.things.entries;
      growths = fields.growths.items;
    } in
    let none : find_thing S c.args.code ≡ None =
    sym c.get_index_of.ensures.index ∙ not_found _ _ c.is_some.ensures c.if-is_some.false in
    let missing : is_none c.normal_no-normal_no.result ≡ true = let some = c.is_none.ensures in
    let there = c.if-is_none.true in search rules in
    λ other. normal_missing c.args.self.now c.args.number c.args.code c.args.normal
    c.normal_no-normal_no.result
    (subst (λ (m : Museum). find_thing m c.args.code ≡ None) c.self.view_is none)
    c.normal_no-normal_no.ensures (sym c.is_some-2.ensures ∙ c.if-is_some-2.true) missing

pub returns-then-len-ge-MOST_THINGS-clause-fault : goal.returns-then-len-ge-MOST_THINGS-clause-fault
returns-then-len-ge-MOST_THINGS-clause-fault c =
    let fields = c.self.inside in
    let S : Museum = record {
      stations = fields.stations.keys;
      places = fields.places.entries;
      things = fields.things.entries;
      growths = fields.growths.items;
    } in
    let none : find_thing S c.args.code ≡ None =
    sym c.get_index_of.ensures.index ∙ not_found _ _ c.is_some.ensures c.if-is_some.false in
    let most : MOST_THINGS ≤ length S.things = omega arith in
    let found : lacks_normal c.args.self.now (lists.Thing c.args.code c.args.normal) ≡ false =
    elim c.else-is_some-2.branch [
      | else-is_some-2-via-then-is_some-2+else-is_none w ↦
          normal_there c.args.self.now c.args.code c.args.normal c.normal_no-normal_no.result
          c.normal_no-normal_no.ensures (let some = w.is_none.ensures in
          let there = w.if-is_none.false in search rules)
      | else-is_some-2-via-else-is_some-2 w ↦
          normal_unasked c.args.self.now c.args.code c.args.normal
          (sym c.is_some-2.ensures ∙ w.if-is_some-2.false)
    ] in
    λ other. things_full c.args.self.now c.args.number c.args.code c.args.normal
    (subst (λ (m : Museum). find_thing m c.args.code ≡ None) c.self.view_is none) found
    (subst (λ (m : Museum). MOST_THINGS ≤ length m.things) c.self.view_is most)

pub returns-then-is_some-clause-fault : goal.returns-then-is_some-clause-fault
returns-then-is_some-clause-fault c =
    let fields = c.self.inside in
    let S : Museum = record {
      stations = fields.stations.keys;
      places = fields.places.entries;
      things = fields.things.entries;
      growths = fields.growths.items;
    } in
    let there : is_some (find_thing S c.args.code) ≡ true = ap is_some (sym
    c.get_index_of.ensures.index) ∙ sym c.is_some.ensures ∙ c.if-is_some.true in
    λ other. thing_repeated c.args.self.now c.args.number c.args.code c.args.normal (subst (λ (m :
    Museum). is_some (find_thing m c.args.code) ≡ true) c.self.view_is there)
