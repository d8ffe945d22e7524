use Rattle.std.proofs.Common.{rules}
use Rattle.std.proofs.lemmas.Bool.Decides.{not_from_Decides}
use Rattle.register_sql.proofs.Ascending.{sorted_rise, first_has_id}
use Rattle.register_sql.proofs.Rising.{rises_all, none_apart}
use Rattle.register_sql.proofs.rowids.are_apart.Goals as goal

pub returns-in-empty-clause-apart : goal.returns-in-empty-clause-apart
returns-in-empty-clause-apart c is = none_apart c.args.rows.now c.in-empty.len_below

pub returns-then-has_id-clause-apart : goal.returns-then-has_id-clause-apart
returns-then-has_id-clause-apart c is =
    let has = c.has_id.ensures.0 c.if-has_id.true in
    rises_all c.args.rows.now c.first-item.result has.0 c.in-len1-up.len_at_least (search rules)
    has.1 (c.are_rising.ensures.0 is)

pub returns-then-has_id-clause-sorted : goal.returns-then-has_id-clause-sorted
returns-then-has_id-clause-sorted c up apart =
    c.are_rising.ensures.1 (sorted_rise c.args.rows.now up apart)

pub returns-else-has_id-clause-sorted : goal.returns-else-has_id-clause-sorted
returns-else-has_id-clause-sorted c up apart =
    absurd (not_from_Decides _ c.has_id.ensures c.if-has_id.false
    (first_has_id c.args.rows.now c.first-item.result c.in-len1-up.len_at_least
    (search rules) apart))
