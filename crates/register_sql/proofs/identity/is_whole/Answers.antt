use Rattle.std.proofs.Common.{arith}
use Rattle.register_sql.proofs.Pairs.{two_rows, else_pair, no_pair}
use Rattle.register_sql.proofs.identity.is_whole.Goals as goal

pub returns-else-are_pair : goal.returns-else-are_pair
returns-else-are_pair c =
    let rows = c.args.rows.now in
    let a = c.a-item.result in
    let b = c.b-item.result in
    else_pair rows a b c.args.limit c.are_pair.result c.are_pair-else-are_pair.result
    (two_rows rows a b c.in-len2.len_at_least c.in-len2.len_below c.a-item.is c.b-item.is)
    c.if-are_pair.false c.are_pair.ensures c.are_pair-else-are_pair.ensures

pub returns-in_default : goal.returns-in_default
returns-in_default c = no_pair c.args.rows.now c.args.limit
    (λ is. omega (arith, is, c.in_default.len_below))

pub returns-in_default-2 : goal.returns-in_default-2
returns-in_default-2 c = no_pair c.args.rows.now c.args.limit
    (λ is. omega (arith, is, c.in_default.len_at_least))
