use Rattle.std.proofs.Common.{refl, sym, subst}
use Rattle.std.specs.List.Sorted.{IsPermutation, IsSorted}
use Rattle.sqlite.specs.Held.{state}
use Rattle.register_sql.specs.Queries.{shown_in}
use Rattle.register_sql.specs.Shown.{id_cmp}
use Rattle.register_sql.specs.declared.queries.Query.TheVariants.{Postings}
use Rattle.register_sql.proofs.Postings.{if_ok, if_err, listed_of, list_fault, list_faults}
use Rattle.register_sql.proofs.list.list.Goals as goal

pub returns-clause-listed : goal.returns-clause-listed
returns-clause-listed g c clean =
    let old = state g.S.Store c.args.conn.now in
    let read = subst (IsPermutation (shown_in Postings old.now.trees)) (sym c.deref.ensures.value)
    (c.in_ok-rows.ensures.rows clean) in
    if_ok c.entries_of-answer.result
    (λ entries kept. listed_of old.now.trees c.deref.result.now entries.items read kept)
    c.entries_of-answer.ensures.kept

pub returns-clause-faults : goal.returns-clause-faults
returns-clause-faults g c = if_err c.entries_of-answer.result (λ fault why. list_faults fault _ why)
    c.entries_of-answer.ensures.faults

pub returns-clause-cause : goal.returns-clause-cause
returns-clause-cause g c clean =
    let old = state g.S.Store c.args.conn.now in
    let read = subst (IsPermutation (shown_in Postings old.now.trees)) (sym c.deref.ensures.value)
    (c.in_ok-rows.ensures.rows clean) in
    let order = subst (IsSorted id_cmp) (sym c.deref.ensures.value)
    (c.in_ok-rows.ensures.order clean refl) in
    if_err c.entries_of-answer.result
    (λ fault why. list_fault old.now.trees c.deref.result.now c.args.stations fault read order
    why) c.entries_of-answer.ensures.faults
