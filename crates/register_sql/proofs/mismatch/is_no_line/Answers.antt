use Rattle.std.proofs.Common.{◌≡◌, arith, rules, false, true, sym, ◌∙◌}
use Rattle.register_sql.specs.Strange.{cells_of_line}
use Rattle.register_sql.proofs.Stranger.{none_next, found_one, none_at_all}
use Rattle.register_sql.proofs.mismatch.is_no_line.Goals as goal

pub wanted-preserved : goal.wanted-preserved
wanted-preserved c =
    none_next cells_of_line c.args.wanted.now c.args.row.now c.wanted.item-index c.item-item.result
    c.wanted-test.true c.item-item.is
    (λ same. let bad : true ≡ false = sym (c.is_line.ensures.1 (sym same)) ∙ c.if-is_line.false in
    cc) c.wanted.invariant

pub returns-then-is_line : goal.returns-then-is_line
returns-then-is_line c =
    found_one cells_of_line c.args.wanted.now c.args.row.now c.wanted.item-index c.item-item.result
    c.wanted-test.true c.item-item.is (sym (c.is_line.ensures.0 (search rules)))

pub returns : goal.returns
returns c = none_at_all cells_of_line c.args.wanted.now c.args.row.now c.wanted.item-index
    (omega (arith, c.wanted-test.false)) c.wanted.invariant
