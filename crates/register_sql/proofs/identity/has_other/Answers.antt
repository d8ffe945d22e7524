use Rattle.std.proofs.Common.{◌≡◌, arith, false, true, sym, ◌∙◌}
use Rattle.register_sql.proofs.Pairs.{none_next, none_at_all}
use Rattle.register_sql.proofs.identity.has_other.Goals as goal

pub rows-preserved : goal.rows-preserved
rows-preserved c =
    none_next c.args.rows.now c.rows.row-index c.row-item.result c.rows-test.true c.row-item.is
    (λ other. let no : true ≡ false = sym (c.is_other.ensures.1 other) ∙ c.if-is_other.false in
    cc) c.rows.invariant

pub returns : goal.returns
returns c = none_at_all c.args.rows.now c.rows.row-index (omega (arith, c.rows-test.false))
    c.rows.invariant
