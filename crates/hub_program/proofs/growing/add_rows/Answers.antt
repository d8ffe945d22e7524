use Rattle.std.proofs.Common.{◌≡◌, true, false, length, rules, subst, sym, ◌∙◌}
use Rattle.nest_core.specs.SetupGrowing.{with_file}
use Rattle.register_sql.specs.Growing.{IsGrown}
use Rattle.register_sql.specs.Stores.{in_store}
use Rattle.register_store.specs.Holdings.{Comes}
use Rattle.reports.specs.GrowthTexts.{has_changes}
use Rattle.sqlite.specs.Held.{state}
use Rattle.hub_program.specs.Growths.{GrowsTo, next_setup}
use Rattle.hub_program.proofs.Growths.{nothing_added, only_checked, rows_added}
use Rattle.hub_program.proofs.growing.add_rows.Goals as goal
use Rattle.hub_program.proofs.growing.add_rows.Goals.{then-not-check+in_ok-grow, else-not-check}

pub returns-then-not-has_changes-clause-grows : goal.returns-then-not-has_changes-clause-grows
returns-then-not-has_changes-clause-grows g c =
    let L = c.args.ledger.now in
    let bytes = c.args.bytes.now in
    let before : c.setup-before.result.now ≡ L.museum = search rules in
    let off : c.has_changes.result ≡ false = search rules in
    let further = c.in_ok-further.ensures.setup in
    let none : has_changes c.setup-before.result.now (with_file c.setup-before.result.now bytes)
    ≡ false =
    subst (λ T. has_changes c.setup-before.result.now T ≡ false) further
    (sym c.has_changes.ensures.changes ∙ off) in
    nothing_added c.args.check L bytes (in_store (state g.S.Store c.args.register.now.conn))
    (subst (λ S. has_changes S (with_file S bytes) ≡ false) before none)

pub returns-clause-grows : goal.returns-clause-grows
returns-clause-grows g c =
    let L = c.args.ledger.now in
    let bytes = c.args.bytes.now in
    let S = c.setup-before.result.now in
    let old = in_store (state g.S.Store c.args.register.now.conn) in
    let before : S ≡ L.museum = search rules in
    let on : c.has_changes.result ≡ true = search rules in
    let further = c.in_ok-further.ensures.setup in
    let some : has_changes L.museum (with_file L.museum bytes) ≡ true =
    subst (λ S. has_changes S (with_file S bytes) ≡ true) before
    (subst (λ T. has_changes S T ≡ true) further (sym c.has_changes.ensures.changes ∙ on)) in
    let next : c.in-Ok.grown ≡ next_setup L bytes = search rules in
    elim c.if-not-check.branch [
      | then-not-check+in_ok-grow w ↦
          let off : c.args.check ≡ false = search rules in
          let is : w.grow.new.self ≡ c.if-not-check.register = sym w.register-is in
          subst (λ r. GrowsTo c.args.check L bytes old (in_store (state g.S.Store r.conn))) is
          (rows_added c.args.check L bytes old (in_store (state g.S.Store w.grow.new.self.conn)) off
          some (subst (λ T. Comes old (in_store (state g.S.Store w.grow.new.self.conn)) (IsGrown T))
          next w.in_ok-grow.ensures.grown))
      | else-not-check w ↦
          let checked : c.args.check ≡ true = search rules in
          let is : c.args.register.now ≡ c.if-not-check.register = sym w.register-is in
          subst (λ r. GrowsTo c.args.check L bytes old (in_store (state g.S.Store r.conn))) is
          (only_checked c.args.check L bytes old checked)
    ]
