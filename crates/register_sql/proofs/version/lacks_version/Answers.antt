use Rattle.std.proofs.Common.{◌≡◌, arith, false, true, sym, ◌∙◌}
use Rattle.register_sql.proofs.Ages.{none_next, none_at_all, one_says}
use Rattle.register_sql.proofs.version.lacks_version.Goals as goal

pub rows-preserved : goal.rows-preserved
rows-preserved c =
    none_next c.args.version c.args.rows.now c.rows.row-index c.row-item.result c.rows-test.true
    c.row-item.is (λ said. let no : true ≡ false = sym (c.is_meta.ensures.1 said)
    ∙ c.if-is_meta.false in cc) c.rows.invariant

pub returns-then-is_meta : goal.returns-then-is_meta
returns-then-is_meta c = one_says c.args.version c.args.rows.now c.rows.row-index c.row-item.result
    c.rows-test.true c.row-item.is (c.is_meta.ensures.0 c.if-is_meta.true)

pub returns : goal.returns
returns c = none_at_all c.args.version c.args.rows.now c.rows.row-index
    (omega (arith, c.rows-test.false)) c.rows.invariant
