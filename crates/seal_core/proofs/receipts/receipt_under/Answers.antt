use Rattle.std.proofs.Common.{◌≡◌, ◌-◌, ◌<◌, ◌≤◌, ◌∙◌, ap, arith, length, ℕ}
use Rattle.seal_core.proofs.LeafNumbers.{hash_count}
use Rattle.seal_core.proofs.receipts.receipt_under.Goals as goal

below : (entry size n : ℕ) → 0 < entry → entry ≤ size → n ≡ size → entry - 1 < n
below entry size n numbered among same = omega arith

pub audit_path-requires : goal.audit_path-requires
audit_path-requires c =
    below c.args.entry c.args.size (length c.deref.result.now) c.requires.numbered c.requires.among
    (ap length (c.deref.ensures.value ∙ c.in_ok-hashes.ensures)
    ∙ hash_count c.args.ledger.now c.args.size)
