use Rattle.std.proofs.Common.{◌≡◌}
use Rattle.posting_core.specs.Past.{upto}
use Rattle.posting_core.proofs.past_ledger.past.Given as goal

abbrev pub invariant-entries : goal.invariant-entries
invariant-entries l = l.past ≡ upto l.ledger l.i
