use Rattle.std.proofs.Common.{sym, subst, arith}
use Rattle.std.specs.List.Sorted.{IsPermutation}
use Rattle.sqlite.specs.Effect.{Database}
use Rattle.sqlite.specs.Held.{state}
use Rattle.sqlite.specs.State.{HasCleanDisk}
use Rattle.register_sql.specs.Queries.{shown_in}
use Rattle.register_sql.specs.declared.queries.Query.TheVariants.{Spots, Lines, Terms}
use Rattle.register_sql.proofs.Agrees.{rows_found}
use Rattle.register_sql.proofs.Postings.{if_ok}
use Rattle.register_sql.proofs.agree.agrees.Goals as goal

pub returns-clause-told : goal.returns-clause-told
returns-clause-told g c clean =
    let old = state g.S.Store c.args.conn.now in
    let mid = state g.S.Store c.read.new.conn in
    let now : HasCleanDisk mid = omega (arith, clean, c.loan_rows.ensures.reading.survives.clean) in
    let same = (c.in_ok-spots.ensures.reading.same now).now in
    let loans = c.in_ok-loans.ensures.rows clean in
    let spots = subst (IsPermutation (shown_in Spots old.now.trees)) (sym c.deref.ensures.value)
    (c.in_ok-spots.ensures.rows now) in
    let lines =
    subst (λ (k : Database). IsPermutation (shown_in Lines k.trees) c.deref-2.result.now) same
    (subst (IsPermutation (shown_in Lines mid.now.trees)) (sym c.deref-2.ensures.value) loans.0)
    in
    let terms =
    subst (λ (k : Database). IsPermutation (shown_in Terms k.trees) c.deref-3.result.now) same
    (subst (IsPermutation (shown_in Terms mid.now.trees)) (sym c.deref-3.ensures.value) loans.1)
    in
    if_ok c.compare-answer.result (λ equal told d rows. told d
    (rows_found old.now.trees c.deref.result.now c.deref-2.result.now c.deref-3.result.now spots
    lines terms d rows)) c.compare-answer.ensures.told
