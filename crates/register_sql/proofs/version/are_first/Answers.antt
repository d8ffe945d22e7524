use Rattle.std.proofs.Common.{sym, subst, arith}
use Rattle.std.specs.Bool.{Decides}
use Rattle.register_sql.specs.Ages.{IsFirst}
use Rattle.register_sql.proofs.Pairs.{two_rows}
use Rattle.register_sql.proofs.Ages.{are_pair, else_pair, no_pair}
use Rattle.register_sql.proofs.version.are_first.Goals as goal

pub returns-then-are_first_pair : goal.returns-then-are_first_pair
returns-then-are_first_pair c =
    let rows = c.args.rows.now in
    let a = c.a-item.result in
    let b = c.b-item.result in
    subst (λ t. Decides t (IsFirst rows)) (sym c.if-are_first_pair.true)
    (are_pair rows a b c.are_first_pair.result
    (two_rows rows a b c.in-len2.len_at_least c.in-len2.len_below c.a-item.is c.b-item.is)
    c.if-are_first_pair.true c.are_first_pair.ensures)

pub returns-else-are_first_pair : goal.returns-else-are_first_pair
returns-else-are_first_pair c =
    let rows = c.args.rows.now in
    let a = c.a-item.result in
    let b = c.b-item.result in
    else_pair rows a b c.are_first_pair.result c.are_first_pair-else-are_first_pair.result
    (two_rows rows a b c.in-len2.len_at_least c.in-len2.len_below c.a-item.is c.b-item.is)
    c.if-are_first_pair.false c.are_first_pair.ensures
    c.are_first_pair-else-are_first_pair.ensures

pub returns-in_default : goal.returns-in_default
returns-in_default c = no_pair c.args.rows.now (λ is. omega (arith, is, c.in_default.len_below))

pub returns-in_default-2 : goal.returns-in_default-2
returns-in_default-2 c = no_pair c.args.rows.now
    (λ is. omega (arith, is, c.in_default.len_at_least))
