use Rattle.std.proofs.Common.{arith, rules}
use Rattle.std.proofs.lemmas.Bool.Decides.{not_from_Decides}
use Rattle.register_sql.specs.Fits.{IsNoTerm}
use Rattle.register_sql.specs.Strange.{cells_of_term}
use Rattle.register_sql.proofs.Stranger.{strange_here, none_before_next, none_strange}
use Rattle.register_sql.proofs.mismatch.has_strange_term.Goals as goal

pub rows-preserved : goal.rows-preserved
rows-preserved c =
    none_before_next cells_of_term IsNoTerm c.args.wanted.now c.args.rows.now c.rows.row-index
    c.row-item.result c.rows-test.true c.row-item.is
    (not_from_Decides _ c.is_strange_term.ensures c.if-is_strange_term.false) c.rows.invariant

pub returns-then-is_strange_term : goal.returns-then-is_strange_term
returns-then-is_strange_term c =
    strange_here cells_of_term IsNoTerm c.args.wanted.now c.args.rows.now c.rows.row-index
    c.row-item.result c.rows-test.true c.row-item.is
    (c.is_strange_term.ensures.0 (search rules))

pub returns : goal.returns
returns c = none_strange cells_of_term IsNoTerm c.args.wanted.now c.args.rows.now c.rows.row-index
    (omega (arith, c.rows-test.false)) c.rows.invariant
