use Rattle.std.proofs.Common.{◌<◌, arith}
use Rattle.seal_core.proofs.HeldReceipts.{receipt_holds}
use Rattle.seal_core.proofs.receipts.make_receipt.Goals as goal

pub returns-clause-holds : goal.returns-clause-holds
returns-clause-holds c =
    let numbered : 0 < c.args.entry = omega (arith, c.if-entry-lt1.false) in
    receipt_holds c.args.ledger.now c.args.entry _ _ numbered c.if-entry-size.false
    c.in_ok-receipt_under.ensures
