use Rattle.std.proofs.Common.{sym, subst}
use Rattle.std.specs.Bool.{Decides}
use Rattle.sqlite.specs.Held.{state}
use Rattle.register_store.specs.Holdings.{Comes}
use Rattle.register_store.specs.StoredRows.{AreSame, HasRows}
use Rattle.register_sql.specs.Stores.{in_store}
use Rattle.register_sql.proofs.Holds.{Laws, same_comes}
use Rattle.register_sql.proofs.Links.{read_ok}
use Rattle.register_sql.proofs.link.store_agrees.Goals as goal

pub returns-in-Ok-clause-told : goal.returns-in-Ok-clause-told
returns-in-Ok-clause-told g c =
    let old = state g.S.Store c.args.link.now.conn in
    let new = state g.S.Store c.agrees.new.conn in
    let store = c.agrees.new.conn.store in
    let after : Laws new = record {
      settled = g.met.S.Store.settled store;
      stays = g.met.S.Store.stays store;
      survives = g.met.S.Store.survives store;
    } in
    read_ok old new c.args.link.now.stopped c.requires c.in_default.is
    c.agrees.ensures.reading.survives
    c.in-Ok.ensures.reading.same after c.in-Ok.answer
    (λ same k. Decides same (HasRows c.args.ledger.now.museum c.args.ledger.now.posted k))
    c.in-Ok.ensures.told

pub returns-in-Ok-clause-unchanged : goal.returns-in-Ok-clause-unchanged
returns-in-Ok-clause-unchanged g c =
    let old = state g.S.Store c.args.link.now.conn in
    let new = state g.S.Store c.agrees.new.conn in
    let first = c.args.link.now.conn.store in
    let store = c.agrees.new.conn.store in
    let before : Laws old = record {
      settled = g.met.S.Store.settled first;
      stays = g.met.S.Store.stays first;
      survives = g.met.S.Store.survives first;
    } in
    let after : Laws new = record {
      settled = g.met.S.Store.settled store;
      stays = g.met.S.Store.stays store;
      survives = g.met.S.Store.survives store;
    } in
    same_comes old new before after (c.requires.settled c.in_default.is)
    c.agrees.ensures.reading.survives

pub returns-in-Err-clause-unchanged : goal.returns-in-Err-clause-unchanged
returns-in-Err-clause-unchanged g c =
    let old = state g.S.Store c.args.link.now.conn in
    let new = state g.S.Store c.agrees.new.conn in
    let first = c.args.link.now.conn.store in
    let store = c.agrees.new.conn.store in
    let before : Laws old = record {
      settled = g.met.S.Store.settled first;
      stays = g.met.S.Store.stays first;
      survives = g.met.S.Store.survives first;
    } in
    let after : Laws new = record {
      settled = g.met.S.Store.settled store;
      stays = g.met.S.Store.stays store;
      survives = g.met.S.Store.survives store;
    } in
    subst (λ conn. Comes (in_store old) (in_store (state g.S.Store conn)) AreSame)
    (sym c.stop.ensures.conn) (same_comes old new before after
    (c.requires.settled c.in_default.is) c.agrees.ensures.reading.survives)
