use Rattle.std.proofs.Common.{◌≡◌, refl, sym, subst, IfOk, IfErr}
use Rattle.std.proofs.lemmas.Result.{IfErr-at_err}
use Rattle.sqlite.specs.Held.{state}
use Rattle.register_store.specs.declared.store_fault.StoreFault.TheVariants.{Store}
use Rattle.register_store.specs.Holdings.{Comes, IsNotBound}
use Rattle.register_store.specs.declared.store_fault.StoreFault.{StoreFault}
use Rattle.register_sql.specs.Binding.{IsRefused, IsBoundAs, LeavesBound}
use Rattle.register_sql.specs.Stores.{in_store}
use Rattle.register_sql.proofs.Holds.{Laws, bound_has, bound_comes, refused_comes, failed_comes}
use Rattle.register_sql.proofs.Holds.{still_unbound}
use Rattle.register_sql.proofs.link.bind_store.Goals as goal

pub returns-in-Some-clause-refused : goal.returns-in-Some-clause-refused
returns-in-Some-clause-refused g c =
    still_unbound c.args.setup.now Store (state g.S.Store c.args.link.now.conn)
    refl

pub returns-in-Ok-Ok-clause-bound : goal.returns-in-Ok-Ok-clause-bound
returns-in-Ok-Ok-clause-bound g c =
    let S = c.args.setup.now in
    let old = state g.S.Store c.args.link.now.conn in
    let new = state g.S.Store c.bind.new.conn in
    let store = c.bind.new.conn.store in
    let after : Laws new = record {
      settled = g.met.S.Store.settled store;
      stays = g.met.S.Store.stays store;
      survives = g.met.S.Store.survives store;
    } in
    bound_has S c.in-Ok-Ok.depth old new after
    (λ clean. subst (λ a. IfOk a (λ depth. IsBoundAs S depth old new)) c.in-Ok-Ok.field-0-is
    (c.in-Ok-Ok.ensures.bound clean))

pub returns-in-Ok-Ok-clause-kept : goal.returns-in-Ok-Ok-clause-kept
returns-in-Ok-Ok-clause-kept g c =
    let S = c.args.setup.now in
    let old = state g.S.Store c.args.link.now.conn in
    let new = state g.S.Store c.bind.new.conn in
    let first = c.args.link.now.conn.store in
    let store = c.bind.new.conn.store in
    let before : Laws old = record {
      settled = g.met.S.Store.settled first;
      stays = g.met.S.Store.stays first;
      survives = g.met.S.Store.survives first;
    } in
    let after : Laws new = record {
      settled = g.met.S.Store.settled store;
      stays = g.met.S.Store.stays store;
      survives = g.met.S.Store.survives store;
    } in
    bound_comes S c.in-Ok-Ok.depth old new (LeavesBound S old) before after
    (c.requires.settled c.in_default.is) c.bind.ensures.crash
    (λ clean. subst (λ a. IfOk a (λ depth. IsBoundAs S depth old new)) c.in-Ok-Ok.field-0-is
    (c.in-Ok-Ok.ensures.bound clean))

pub returns-in-Ok-Err-clause-refused : goal.returns-in-Ok-Err-clause-refused
returns-in-Ok-Err-clause-refused g c =
    let S = c.args.setup.now in
    let old = state g.S.Store c.args.link.now.conn in
    let new = state g.S.Store c.bind.new.conn in
    let first = c.args.link.now.conn.store in
    let store = c.bind.new.conn.store in
    let before : Laws old = record {
      settled = g.met.S.Store.settled first;
      stays = g.met.S.Store.stays first;
      survives = g.met.S.Store.survives first;
    } in
    let after : Laws new = record {
      settled = g.met.S.Store.settled store;
      stays = g.met.S.Store.stays store;
      survives = g.met.S.Store.survives store;
    } in
    refused_comes S c.in-Ok-Err.fault old new (LeavesBound S old) before after
    (c.requires.settled c.in_default.is) c.bind.ensures.crash
    (λ clean. subst (λ a. IfErr a (IsRefused S old new)) c.in-Ok-Err.field-0-is
    (c.in-Ok-Err.ensures.refused clean))

pub returns-in-Err-clause-refused : goal.returns-in-Err-clause-refused
returns-in-Err-clause-refused g c =
    let S = c.args.setup.now in
    let old = state g.S.Store c.args.link.now.conn in
    let new = state g.S.Store c.bind.new.conn in
    let first = c.args.link.now.conn.store in
    let store = c.bind.new.conn.store in
    let before : Laws old = record {
      settled = g.met.S.Store.settled first;
      stays = g.met.S.Store.stays first;
      survives = g.met.S.Store.survives first;
    } in
    let after : Laws new = record {
      settled = g.met.S.Store.settled store;
      stays = g.met.S.Store.stays store;
      survives = g.met.S.Store.survives store;
    } in
    subst (λ conn. Comes (in_store old) (in_store (state g.S.Store conn))
    (IsNotBound S c.stop.result)) (sym c.stop.ensures.conn)
    (failed_comes S c.stop.result old new c.stop.ensures.failure before after
    (c.requires.settled c.in_default.is) c.bind.ensures.crash)

pub returns-in-Ok-Err-clause-unfit : goal.returns-in-Ok-Err-clause-unfit
returns-in-Ok-Err-clause-unfit g c clean going is =
    let S = c.args.setup.now in
    let old = state g.S.Store c.args.link.now.conn in
    let new = state g.S.Store c.bind.new.conn in
    let refused : IsRefused S old new c.in-Ok-Err.fault =
    subst (λ a. IfErr a (IsRefused S old new)) c.in-Ok-Err.field-0-is
    (c.in-Ok-Err.ensures.refused clean) in
    refused.unfit (IfErr-at_err (λ (fault : StoreFault). c.in-Ok-Err.fault ≡ fault) is refl)
