use Rattle.std.proofs.Common.{rules, ◌≡◌, Some, ap}
use Rattle.sqlite.specs.Held.{state}
use Rattle.register_store.specs.StoredRows.{TermRow, term_of}
use Rattle.register_sql.specs.Posting.{with_term, with_some_term}
use Rattle.register_sql.proofs.Ends.{makes_same}
use Rattle.register_sql.proofs.put.put_some_term.Goals as goal

pub returns-in_ok-put_term-clause-wrote : goal.returns-in_ok-put_term-clause-wrote
returns-in_ok-put_term-clause-wrote g c clean =
    let old = state g.S.Store c.args.tx.now.conn.now in
    let new = state g.S.Store c.put_term.new.tx.conn.now in
    let t : TermRow = record { loan = c.in-Some.term.0; day = c.in-Some.term.1 } in
    let is : Some t ≡ term_of c.args.entry.now = search rules in
    makes_same old new (with_term t) (with_some_term (term_of c.args.entry.now))
    (λ x. ap (λ o. with_some_term o x) is) (c.in_ok-put_term.ensures.wrote clean)
