use Rattle.std.proofs.Common.{◌++◌, ◌∙◌, ap, codes}
use Rattle.seal_core.proofs.printing.receipt_line.Goals as goal

pub returns-clause-line : goal.returns-clause-line
returns-clause-line c = record {
  receipt = c.in_ok-receipt.receipt;
  is = c.in_ok-receipt.ensures.exact;
  printed = c.in_ok-ended.ensures ∙ ap (λ t. t ++ codes "\n") c.in_ok-receipt_text.ensures;
}
