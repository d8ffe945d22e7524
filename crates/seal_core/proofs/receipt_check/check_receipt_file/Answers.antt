use Rattle.std.proofs.Common.{◌∙◌}
use Rattle.seal_core.proofs.receipt_check.check_receipt_file.Goals as goal

pub returns-clause-checked : goal.returns-clause-checked
returns-clause-checked c = record {
  receipt = c.in_ok-receipt.receipt;
  read = c.in_ok-receipt.ensures.reads ∙ c.trimmed.ensures;
  right = c.check_receipt-holds.ensures;
  printed = c.in_ok-text.ensures;
}
