use Rattle.std.proofs.Common.{rules}
use Rattle.seal_core.proofs.Rows.{with_row}
use Rattle.seal_core.proofs.seal_check.add_row.Goals as goal

pub returns-in_ok-push : goal.returns-in_ok-push
returns-in_ok-push g c =
    with_row c.args.ledger.now c.args.row c.args.line.now c.args.rows.now.items
    c.push.new.self.items c.in_ok-checked.checked (λ none. search rules)
    c.in_ok-checked.ensures c.in_ok-push.ensures.items
