use Rattle.std.proofs.Common.{◌∙◌}
use Rattle.posting_core.proofs.Posted.{count_kept}
use Rattle.posting_core.proofs.ledger.Ledger.loan_count.Goals as goal

pub returns : goal.returns
returns c = c.len.ensures ∙ count_kept c.self.invariant c.self.view_is
