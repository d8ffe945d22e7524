use Rattle.std.proofs.Common.{◌⊎◌, refl, sym, subst}
use Rattle.sqlite.specs.Held.{state}
use Rattle.register_store.specs.Holdings.{Comes}
use Rattle.register_store.specs.StoredRows.{AreSame}
use Rattle.register_sql.specs.Growing.{with_setup, IsGrown}
use Rattle.register_sql.specs.Posting.{LeavesWhole}
use Rattle.register_sql.specs.Stores.{in_store}
use Rattle.register_sql.proofs.Holds.{Laws, undone_comes}
use Rattle.register_sql.proofs.Regrown.{answer_failed, answer_grown, answer_same}
use Rattle.register_sql.proofs.link.grow_store.Goals as goal

pub returns-in-Ok-clause-grown : goal.returns-in-Ok-clause-grown
returns-in-Ok-clause-grown g c =
    let S = c.args.setup.now in
    let old = state g.S.Store c.args.link.now.conn in
    let new = state g.S.Store c.grow.new.conn in
    let first = c.args.link.now.conn.store in
    let store = c.grow.new.conn.store in
    let before : Laws old = record {
      settled = g.met.S.Store.settled first;
      stays = g.met.S.Store.stays first;
      survives = g.met.S.Store.survives first;
    } in
    let after : Laws new = record {
      settled = g.met.S.Store.settled store;
      stays = g.met.S.Store.stays store;
      survives = g.met.S.Store.survives store;
    } in
    answer_grown S old new (LeavesWhole old (with_setup S)) c.in-Ok.answer before after
    (c.requires.ready c.in_default.is refl) (c.requires.content c.in_default.is refl)
    c.grow.ensures.crash c.in-Ok.ensures.grown

pub returns-in-Ok-clause-failed : goal.returns-in-Ok-clause-failed
returns-in-Ok-clause-failed g c =
    let S = c.args.setup.now in
    let old = state g.S.Store c.args.link.now.conn in
    let new = state g.S.Store c.grow.new.conn in
    let first = c.args.link.now.conn.store in
    let store = c.grow.new.conn.store in
    let before : Laws old = record {
      settled = g.met.S.Store.settled first;
      stays = g.met.S.Store.stays first;
      survives = g.met.S.Store.survives first;
    } in
    let after : Laws new = record {
      settled = g.met.S.Store.settled store;
      stays = g.met.S.Store.stays store;
      survives = g.met.S.Store.survives store;
    } in
    answer_failed (Comes (in_store old) (in_store new) (λ k d. AreSame k d ⊎ IsGrown S k d))
    c.in-Ok.answer
    (undone_comes (with_setup S) old new before after (c.requires.ready c.in_default.is refl)
    (c.requires.content c.in_default.is refl) c.grow.ensures.crash)

pub returns-in-Err-clause-failed : goal.returns-in-Err-clause-failed
returns-in-Err-clause-failed g c =
    let S = c.args.setup.now in
    let old = state g.S.Store c.args.link.now.conn in
    let new = state g.S.Store c.grow.new.conn in
    let first = c.args.link.now.conn.store in
    let store = c.grow.new.conn.store in
    let before : Laws old = record {
      settled = g.met.S.Store.settled first;
      stays = g.met.S.Store.stays first;
      survives = g.met.S.Store.survives first;
    } in
    let after : Laws new = record {
      settled = g.met.S.Store.settled store;
      stays = g.met.S.Store.stays store;
      survives = g.met.S.Store.survives store;
    } in
    subst (λ conn. Comes (in_store old) (in_store (state g.S.Store conn)) (λ k d. AreSame k d
    ⊎ IsGrown S k d)) (sym c.stop.ensures.conn)
    (undone_comes (with_setup S) old new before after (c.requires.ready c.in_default.is refl)
    (c.requires.content c.in_default.is refl) c.grow.ensures.crash)

pub returns-in-Ok-clause-unchanged : goal.returns-in-Ok-clause-unchanged
returns-in-Ok-clause-unchanged g c going =
    let S = c.args.setup.now in
    let old = state g.S.Store c.args.link.now.conn in
    let new = state g.S.Store c.grow.new.conn in
    let first = c.args.link.now.conn.store in
    let store = c.grow.new.conn.store in
    let before : Laws old = record {
      settled = g.met.S.Store.settled first;
      stays = g.met.S.Store.stays first;
      survives = g.met.S.Store.survives first;
    } in
    let after : Laws new = record {
      settled = g.met.S.Store.settled store;
      stays = g.met.S.Store.stays store;
      survives = g.met.S.Store.survives store;
    } in
    answer_same old new (LeavesWhole old (with_setup S)) c.in-Ok.answer before after
    (c.requires.ready c.in_default.is refl) c.grow.ensures.crash c.in-Ok.ensures.refused
