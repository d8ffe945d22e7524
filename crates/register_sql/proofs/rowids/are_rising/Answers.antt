use Rattle.std.proofs.Common.{rules}
use Rattle.std.proofs.lemmas.Bool.Decides.{not_from_Decides}
use Rattle.register_sql.proofs.Ascending.{never, not_rising}
use Rattle.register_sql.proofs.Rising.{next_rises}
use Rattle.register_sql.proofs.rowids.are_rising.Goals as goal

pub rows-preserved : goal.rows-preserved
rows-preserved c =
    next_rises c.args.rows.now c.rows.at c.index-rows-at.result c.index-rows-at-in-rows.result
    c.rows-test.true c.index-rows-at.is c.index-rows-at-in-rows.is
    (c.is_below.ensures.0 c.if-not-is_below.false) c.rows.invariant

pub returns-then-not-is_below : goal.returns-then-not-is_below
returns-then-not-is_below c =
    never (not_rising c.args.rows.now c.rows.at c.index-rows-at.result
    c.index-rows-at-in-rows.result (search rules) c.rows-test.true c.index-rows-at.is
    c.index-rows-at-in-rows.is (not_from_Decides _ c.is_below.ensures (search rules)))
