use Rattle.std.proofs.Common.{◌⊎◌, refl, sym, subst}
use Rattle.sqlite.specs.Held.{state}
use Rattle.register_store.specs.Holdings.{Comes, IsPosted}
use Rattle.register_store.specs.Plain.{posting_row}
use Rattle.register_store.specs.StoredRows.{AreSame, with_posted}
use Rattle.register_sql.specs.Posting.{LeavesWhole}
use Rattle.register_sql.specs.Stores.{in_store}
use Rattle.register_sql.proofs.Holds.{Laws, posted_comes, unposted_comes}
use Rattle.register_sql.proofs.link.post_to_store.Goals as goal

pub returns-in-Ok-put_whole-clause-posted : goal.returns-in-Ok-put_whole-clause-posted
returns-in-Ok-put_whole-clause-posted g c =
    let old = state g.S.Store c.args.link.now.conn in
    let new = state g.S.Store c.put_whole.new.conn in
    let first = c.args.link.now.conn.store in
    let store = c.put_whole.new.conn.store in
    let before : Laws old = record {
      settled = g.met.S.Store.settled first;
      stays = g.met.S.Store.stays first;
      survives = g.met.S.Store.survives first;
    } in
    let after : Laws new = record {
      settled = g.met.S.Store.settled store;
      stays = g.met.S.Store.stays store;
      survives = g.met.S.Store.survives store;
    } in
    let e = c.args.entry.now in
    let changes = c.args.changes.now in
    let row = posting_row c.in-Ok.row in
    posted_comes e changes row old new (LeavesWhole old (with_posted row e changes)) c.in-Ok.ensures
    before after (c.requires.ready c.in_default.is refl)
    (c.requires.content c.in_default.is refl) c.put_whole.ensures.crash
    c.in-Ok-put_whole.ensures.posted

pub returns-clause-failed : goal.returns-clause-failed
returns-clause-failed g c =
    let old = state g.S.Store c.args.link.now.conn in
    let new = state g.S.Store c.put_whole.new.conn in
    let first = c.args.link.now.conn.store in
    let store = c.put_whole.new.conn.store in
    let before : Laws old = record {
      settled = g.met.S.Store.settled first;
      stays = g.met.S.Store.stays first;
      survives = g.met.S.Store.survives first;
    } in
    let after : Laws new = record {
      settled = g.met.S.Store.settled store;
      stays = g.met.S.Store.stays store;
      survives = g.met.S.Store.survives store;
    } in
    let e = c.args.entry.now in
    let changes = c.args.changes.now in
    subst (λ conn. Comes (in_store old) (in_store (state g.S.Store conn)) (λ k d. AreSame k d
    ⊎ IsPosted e changes k d)) (sym c.stop.ensures.conn)
    (unposted_comes e changes (posting_row c.in-Ok.row) old new c.in-Ok.ensures before after
    (c.requires.ready c.in_default.is refl) (c.requires.content c.in_default.is refl)
    c.put_whole.ensures.crash)
