use Rattle.std.proofs.Common.{◌≡◌, sym, subst, ap, ◌∙◌, ◌<◌, Less, Equal, refl}
use Rattle.std.specs.Bool.{Decides}
use Rattle.std.specs.Cmp.{nat_cmp_is}
use Rattle.sqlite_trees.specs.Tree.{IsAscending}
use Rattle.posting_core.specs.declared.entry.NewSpot.{NewSpot}
use Rattle.posting_core.specs.contracts.entry.NewSpotOrd.TheImpl.{ghosts}
use Rattle.register_store.specs.Plain.{held_lines, term_rows}
use Rattle.register_store.specs.StoredRows.{HasRows}
use Rattle.register_store.proofs.LedgerRows.{line_keys_differ, term_keys_differ}
use Rattle.register_store.proofs.SpotOrder.{rows_ascend}
use Rattle.register_sql.proofs.Agrees.{identity_of}
use Rattle.register_sql.proofs.agree.are_rows.Goals as goal

by_thing : (a b : NewSpot) → a.thing < b.thing → (ghosts).cmp a b ≡ Less
by_thing a b less = rw (sym (nat_cmp_is a.thing b.thing Less less)) refl

by_k : (a b : NewSpot) → a.thing ≡ b.thing → a.k < b.k → (ghosts).cmp a b ≡ Less
by_k a b same less = rw (
  same,
  sym (nat_cmp_is b.thing b.thing Equal refl),
  sym (nat_cmp_is a.k b.k Less less),
) refl

pub has_rows-same_spots-requires-clause-ascending :
    goal.has_rows-same_spots-requires-clause-ascending
has_rows-same_spots-requires-clause-ascending c =
    let ledger = c.args.ledger.now in
    subst (λ l. IsAscending (λ (a b : NewSpot). (ghosts).cmp a b ≡ Less) l)
    (sym (c.deref.ensures.value ∙ c.in_ok-wanted_spots.ensures))
    (rows_ascend (ghosts).cmp by_thing by_k ledger.museum ledger.posted)

pub has_all-same_lines-requires-clause-distinct : goal.has_all-same_lines-requires-clause-distinct
has_all-same_lines-requires-clause-distinct c =
    line_keys_differ c.args.ledger.now.museum c.args.ledger.now.depth c.args.ledger.now.posted
    c.deref-2.result.now c.is_lawful.ensures
    (ap held_lines c.deref-2.ensures.value ∙ c.in_ok-wanted_lines.ensures)

pub has_all-same_terms-requires-clause-distinct : goal.has_all-same_terms-requires-clause-distinct
has_all-same_terms-requires-clause-distinct c =
    term_keys_differ c.args.ledger.now.museum c.args.ledger.now.depth c.args.ledger.now.posted
    c.deref-3.result.now c.is_lawful.ensures
    (ap term_rows c.deref-3.ensures.value ∙ c.in_ok-wanted_terms.ensures)

pub returns-clause-told : goal.returns-clause-told
returns-clause-told c d spots lines terms =
    let ledger = c.args.ledger.now in
    subst (λ b. Decides b (HasRows ledger.museum ledger.posted d)) (sym c.are_all.ensures)
    (identity_of c.has_rows-same_spots.result c.has_all-same_lines.result
    c.has_all-same_terms.result ledger.museum ledger.posted c.deref.result.now
    c.args.spots.now.items c.has_rows-same_spots.new.rows.items
    c.deref-2.result.now c.args.lines.now.entries c.deref-3.result.now c.args.terms.now.entries
    (c.deref.ensures.value ∙ c.in_ok-wanted_spots.ensures)
    (ap held_lines c.deref-2.ensures.value ∙ c.in_ok-wanted_lines.ensures)
    (ap term_rows c.deref-3.ensures.value ∙ c.in_ok-wanted_terms.ensures)
    c.has_rows-same_spots.ensures.same c.has_rows-same_spots.ensures.told
    c.has_all-same_lines.ensures c.has_all-same_terms.ensures d spots lines terms)
