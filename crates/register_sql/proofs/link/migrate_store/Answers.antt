use Rattle.std.proofs.Common.{refl, sym, subst}
use Rattle.std.proofs.lemmas.Result.{IfErr-at_err}
use Rattle.sqlite.specs.Held.{state}
use Rattle.register_store.specs.declared.store_fault.StoreFault.TheVariants.{Store}
use Rattle.register_store.specs.Holdings.{Comes}
use Rattle.register_sql.specs.Migrating.{IsNotMigrated, IsLeft, LeavesMoved}
use Rattle.register_sql.specs.Stores.{in_store}
use Rattle.register_sql.proofs.Holds.{Laws}
use Rattle.register_sql.proofs.Moved.{answer_kept, ok_comes, ok_completed, err_comes, unmoved_comes}
use Rattle.register_sql.proofs.Moved.{still_unmoved}
use Rattle.register_sql.proofs.link.migrate_store.Goals as goal

pub returns-in-Some-clause-refused : goal.returns-in-Some-clause-refused
returns-in-Some-clause-refused g c =
    still_unmoved c.args.setup.now Store (state g.S.Store c.args.link.now.conn)
    refl

pub returns-in-Ok-clause-invariant : goal.returns-in-Ok-clause-invariant
returns-in-Ok-clause-invariant g c =
    let S = c.args.setup.now in
    let old = state g.S.Store c.args.link.now.conn in
    let new = state g.S.Store c.migrate.new.conn in
    answer_kept S old new (LeavesMoved S old) c.args.link.now.bound c.args.link.now.stopped
    c.in-Ok.answer c.in_default.is c.requires c.migrate.ensures.between c.migrate.ensures.crash
    c.in-Ok.ensures.raised c.in-Ok.ensures.refused

pub returns-in-Ok-clause-migrated : goal.returns-in-Ok-clause-migrated
returns-in-Ok-clause-migrated g c =
    let S = c.args.setup.now in
    let old = state g.S.Store c.args.link.now.conn in
    let new = state g.S.Store c.migrate.new.conn in
    let first = c.args.link.now.conn.store in
    let store = c.migrate.new.conn.store in
    let before : Laws old = record {
      settled = g.met.S.Store.settled first;
      stays = g.met.S.Store.stays first;
      survives = g.met.S.Store.survives first;
    } in
    let after : Laws new = record {
      settled = g.met.S.Store.settled store;
      stays = g.met.S.Store.stays store;
      survives = g.met.S.Store.survives store;
    } in
    ok_comes S old new (LeavesMoved S old) c.in-Ok.answer before after
    (c.requires.settled c.in_default.is) c.migrate.ensures.crash c.in-Ok.ensures.raised

pub returns-in-Ok-clause-whole : goal.returns-in-Ok-clause-whole
returns-in-Ok-clause-whole g c clean =
    let store = c.migrate.new.conn.store in
    let after : Laws (state g.S.Store c.migrate.new.conn) =
    record {
      settled = g.met.S.Store.settled store;
      stays = g.met.S.Store.stays store;
      survives = g.met.S.Store.survives store;
    } in
    ok_completed c.args.setup.now (state g.S.Store c.args.link.now.conn)
    (state g.S.Store c.migrate.new.conn) c.in-Ok.answer after (c.in-Ok.ensures.raised clean)

pub returns-in-Ok-clause-refused : goal.returns-in-Ok-clause-refused
returns-in-Ok-clause-refused g c =
    let S = c.args.setup.now in
    let old = state g.S.Store c.args.link.now.conn in
    let new = state g.S.Store c.migrate.new.conn in
    let first = c.args.link.now.conn.store in
    let store = c.migrate.new.conn.store in
    let before : Laws old = record {
      settled = g.met.S.Store.settled first;
      stays = g.met.S.Store.stays first;
      survives = g.met.S.Store.survives first;
    } in
    let after : Laws new = record {
      settled = g.met.S.Store.settled store;
      stays = g.met.S.Store.stays store;
      survives = g.met.S.Store.survives store;
    } in
    err_comes S old new (LeavesMoved S old) c.in-Ok.answer before after
    (c.requires.settled c.in_default.is) c.migrate.ensures.crash c.in-Ok.ensures.refused

pub returns-in-Err-clause-refused : goal.returns-in-Err-clause-refused
returns-in-Err-clause-refused g c =
    let S = c.args.setup.now in
    let old = state g.S.Store c.args.link.now.conn in
    let new = state g.S.Store c.migrate.new.conn in
    let first = c.args.link.now.conn.store in
    let store = c.migrate.new.conn.store in
    let before : Laws old = record {
      settled = g.met.S.Store.settled first;
      stays = g.met.S.Store.stays first;
      survives = g.met.S.Store.survives first;
    } in
    let after : Laws new = record {
      settled = g.met.S.Store.settled store;
      stays = g.met.S.Store.stays store;
      survives = g.met.S.Store.survives store;
    } in
    subst (λ conn. Comes (in_store old) (in_store (state g.S.Store conn))
    (IsNotMigrated S c.stop.result)) (sym c.stop.ensures.conn)
    (unmoved_comes S c.stop.result old new c.stop.ensures.failure before after
    (c.requires.settled c.in_default.is) c.migrate.ensures.crash)

pub returns-in-Ok-clause-unfit : goal.returns-in-Ok-clause-unfit
returns-in-Ok-clause-unfit g c clean going is =
    let left = IsLeft c.args.setup.now (state g.S.Store c.args.link.now.conn)
    (state g.S.Store c.migrate.new.conn) in
    (IfErr-at_err left is (c.in-Ok.ensures.refused clean)).unfit refl
