use Rattle.std.proofs.Common.{[], map, string_bytes}
use Rattle.posting_core.specs.Book.{loans_in}
use Rattle.export_core.specs.Loans.{object_rows}
use Rattle.export_core.proofs.Joining.{one_more}
use Rattle.export_core.proofs.loan_objects.object_rows.Goals as goal

pub loop-i-preserved : goal.loop-i-preserved
loop-i-preserved c =
    let B = c.args.ledger.now in
    one_more (object_rows B) (loans_in B) c.loop-i.i [] (map string_bytes c.loop-i.rows.items)
    (map string_bytes c.push_objects.new.rows.items) c.loan_at.result
    c.loan_at.ensures.loan c.loop-i.invariant c.in_ok-push_objects.ensures
