use Rattle.std.proofs.Common.{◌≡◌, ◌≤◌, ◌<◌, [], arith, inl, inr, refl, rules, subst}
use Rattle.std.specs.Prelude.{◌↔◌}
use Rattle.std.specs.List.Sorted.{IsPermutation}
use Rattle.nest_core.specs.SetupTexts.{setup_rows}
use Rattle.register_store.specs.StoredRows.{rows_of_setup}
use Rattle.register_sql.specs.Says.{setup_rows_shown}
use Rattle.sqlite.specs.Held.{state}
use Rattle.sqlite.specs.State.{HasCleanDisk}
use Rattle.sqlite_catalog.specs.Listing.{IsSound}
use Rattle.register_sql.specs.Queries.{IsPart}
use Rattle.register_sql.specs.Tables.{prefix}
use Rattle.register_sql.proofs.Binds.{sound_in}
use Rattle.register_sql.proofs.StoredSetups.{rows_held, no_rows_held}
use Rattle.register_sql.proofs.stored_setup.setup_rows.Goals as goal
use Rattle.register_sql.proofs.stored_setup.setup_rows.Goals.{in_default-via-in-Some+else-made-ge2}
use Rattle.register_sql.proofs.stored_setup.setup_rows.Goals.{in_default-via-in_default}

pub returns-in_ok-rows-in-Some-clause-rows : goal.returns-in_ok-rows-in-Some-clause-rows
returns-in_ok-rows-in-Some-clause-rows g c clean =
    let old = state g.S.Store c.args.conn.now in
    let made = c.in-Some.made in
    let rows = c.in_ok-rows-in-Some.rows.items in
    let early : HasCleanDisk old = omega (arith, clean, c.read.ensures.reading.survives.clean) in
    let few : made ≤ 6 = search rules in
    let some : 2 ≤ made = search rules in
    let part : IsPart made old = search rules in
    inr (λ S k stored. rows_held S made few some old.now.trees rows (sound_in made old part)
    (c.in_ok-rows-in-Some.ensures.rows clean) (c.in_ok-rows-in-Some.ensures.order clean refl) k
    stored)

pub returns-in_default-clause-rows : goal.returns-in_default-clause-rows
returns-in_default-clause-rows g c clean =
    let old = state g.S.Store c.args.conn.now in
    elim c.in_default.branch [
      | in_default-via-in-Some+else-made-ge2 w ↦
          let made = w.in-Some.made in
          let few : made ≤ 6 = search rules in
          let none : made < 2 = omega (arith, w.if-made-ge2.false) in
          let sound : IsSound (prefix made) old.now.trees = search rules in
          let empty : [] ≡ c.new-rows.result.items = search rules in
          inr (λ S k stored. subst (λ l. (l ≡ setup_rows_shown (setup_rows S))
          ↔ IsPermutation (rows_of_setup S) k.setup) empty
          (no_rows_held S made few none old.now.trees sound k stored))
      | in_default-via-in_default w ↦ inl (search rules)
    ]
