use Rattle.std.proofs.Common.{◌≡◌, false, Ok, Err, ap, refl, sym, subst}
use Rattle.std.specs.Prelude.{is_some}
use Rattle.sqlite.specs.Held.{state}
use Rattle.register_store.specs.declared.store_fault.StoreFault.TheVariants.{NoMemory}
use Rattle.register_sql.specs.Stores.{OnlyReads}
use Rattle.register_sql.proofs.Holds.{Laws}
use Rattle.register_sql.proofs.OnlyReading.{reads_none, reads_on, reads_stopped}
use Rattle.register_sql.proofs.link.store_is_new.Goals as goal

pub returns-in-Some-clause-reads : goal.returns-in-Some-clause-reads
returns-in-Some-clause-reads g c =
    reads_none (state g.S.Store c.args.link.now.conn) c.args.link.now.stopped _
    (ap is_some c.in-Some.is) refl

pub returns-in-Ok-Ok-clause-reads : goal.returns-in-Ok-Ok-clause-reads
returns-in-Ok-Ok-clause-reads g c =
    let old = state g.S.Store c.args.link.now.conn in
    let new = state g.S.Store c.is_new.new.conn in
    let first = c.args.link.now.conn.store in
    let store = c.is_new.new.conn.store in
    let before : Laws old = record {
      settled = g.met.S.Store.settled first;
      stays = g.met.S.Store.stays first;
      survives = g.met.S.Store.survives first;
    } in
    let after : Laws new = record {
      settled = g.met.S.Store.settled store;
      stays = g.met.S.Store.stays store;
      survives = g.met.S.Store.survives store;
    } in
    let on : is_some c.args.link.now.stopped ≡ false = ap is_some c.in_default.is in
    reads_on old new c.args.link.now.stopped c.args.link.now.stopped (Ok c.in-Ok-Ok.new) on before
    after (c.requires.settled c.in_default.is) c.is_new.ensures.reading.survives on (λ is. cc) tt

pub returns-in-Ok-Err-clause-reads : goal.returns-in-Ok-Err-clause-reads
returns-in-Ok-Err-clause-reads g c =
    let old = state g.S.Store c.args.link.now.conn in
    let new = state g.S.Store c.is_new.new.conn in
    let first = c.args.link.now.conn.store in
    let store = c.is_new.new.conn.store in
    let before : Laws old = record {
      settled = g.met.S.Store.settled first;
      stays = g.met.S.Store.stays first;
      survives = g.met.S.Store.survives first;
    } in
    let after : Laws new = record {
      settled = g.met.S.Store.settled store;
      stays = g.met.S.Store.stays store;
      survives = g.met.S.Store.survives store;
    } in
    let on : is_some c.args.link.now.stopped ≡ false = ap is_some c.in_default.is in
    reads_on old new c.args.link.now.stopped c.args.link.now.stopped (Err NoMemory) on before after
    (c.requires.settled c.in_default.is) c.is_new.ensures.reading.survives on (λ is. cc) refl

pub returns-in-Err-clause-reads : goal.returns-in-Err-clause-reads
returns-in-Err-clause-reads g c =
    let old = state g.S.Store c.args.link.now.conn in
    let new = state g.S.Store c.is_new.new.conn in
    let first = c.args.link.now.conn.store in
    let store = c.is_new.new.conn.store in
    let before : Laws old = record {
      settled = g.met.S.Store.settled first;
      stays = g.met.S.Store.stays first;
      survives = g.met.S.Store.survives first;
    } in
    let after : Laws new = record {
      settled = g.met.S.Store.settled store;
      stays = g.met.S.Store.stays store;
      survives = g.met.S.Store.survives store;
    } in
    subst (λ conn. OnlyReads old (state g.S.Store conn) c.args.link.now.stopped
    c.stop.new.link.stopped (Err c.stop.result)) (sym c.stop.ensures.conn)
    (reads_stopped old new c.args.link.now.stopped c.stop.new.link.stopped (Err c.stop.result)
    (ap is_some c.in_default.is) before after (c.requires.settled c.in_default.is)
    c.is_new.ensures.reading.survives c.in-Err.error c.stop.result c.stop.ensures.stopped refl
    c.stop.ensures.failure
    (record { memory = c.stop.ensures.memory; store = c.stop.ensures.store })
    c.in-Err.ensures.reading.excused)
