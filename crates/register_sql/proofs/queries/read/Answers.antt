use Rattle.std.proofs.Common.{◌≡◌, arith, rules, [], IfOk, subst}
use Rattle.sqlite.specs.Held.{state}
use Rattle.sqlite.specs.State.{HasCleanDisk, Shown, Survives, CommitsShowing}
use Rattle.register_sql.specs.Queries.{text_of, tree_of}
use Rattle.register_sql.specs.Tables.{prefix}
use Rattle.register_sql.proofs.Asked.{listed, columns_of, names_of, rows_read, rows_ordered}
use Rattle.register_sql.proofs.Asked.{rows_same}
use Rattle.register_sql.proofs.Failures.{asked}
use Rattle.register_sql.proofs.Listings.{lists_survives}
use Rattle.register_sql.proofs.queries.read.Goals as goal

pub returns-clause-rows : goal.returns-clause-rows
returns-clause-rows g c clean =
    let old = state g.S.Store c.args.conn.now in
    let new = state g.S.Store c.query_all.new.self in
    let early : HasCleanDisk old = omega (arith, c.query_all.ensures.survives.clean) in
    let text : c.text_of-text.result.now ≡ text_of c.args.query = search rules in
    rows_read c.args.query c.args.made c.requires.some c.requires.few old new c.query_all.result
    (c.requires.part early).schema
    (subst (λ t. IfOk c.query_all.result (λ rows. Shown t [] old new rows.items)) text
    (c.query_all.ensures.ok clean))

pub returns-clause-order : goal.returns-clause-order
returns-clause-order g c clean =
    let old = state g.S.Store c.args.conn.now in
    let new = state g.S.Store c.query_all.new.self in
    let early : HasCleanDisk old = omega (arith, c.query_all.ensures.survives.clean) in
    let text : c.text_of-text.result.now ≡ text_of c.args.query = search rules in
    rows_ordered c.args.query c.args.made c.requires.some c.requires.few old new c.query_all.result
    (c.requires.part early).schema
    (subst (λ t. IfOk c.query_all.result (λ rows. Shown t [] old new rows.items)) text
    (c.query_all.ensures.ok clean))

pub returns-clause-reading : goal.returns-clause-reading
returns-clause-reading g c =
    let query = c.args.query in
    let made = c.args.made in
    let old = state g.S.Store c.args.conn.now in
    let new = state g.S.Store c.query_all.new.self in
    let text : c.text_of-text.result.now ≡ text_of query = search rules in
    record {
      between = c.query_all.ensures.mode;
      same = λ clean.
          let early : HasCleanDisk old = omega (arith, c.query_all.ensures.survives.clean) in
          rows_same query made c.requires.some c.requires.few old new c.query_all.result
          (c.requires.part early).schema
          (subst (λ t. IfOk c.query_all.result (λ rows. Shown t [] old new rows.items)) text
          (c.query_all.ensures.ok clean));
      survives = lists_survives (prefix made) (text_of query) (tree_of query) (columns_of query)
          (names_of query) (listed query made c.requires.some c.requires.few) old new
          (λ clean. (c.requires.part clean).schema)
          (subst (λ t. Survives old new (CommitsShowing t [] old)) text
          c.query_all.ensures.survives);
      excused = λ clean. asked old new c.text_of-text.result.now [] c.query_all.result
          (c.query_all.ensures.err clean);
    }
