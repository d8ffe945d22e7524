use Rattle.std.proofs.Common.{ℕ}
use Rattle.posting_core.specs.Messages.{is_sign_off}
use Rattle.line_files.specs.Known.{Messages, HasMessages}
use Rattle.line_files.proofs.Going.{GoesTo}
use Rattle.line_files.proofs.progress.run_of.Given as goal

abbrev pub invariant-loop-n : goal.invariant-loop-n
invariant-loop-n l =
    (s : ℕ) (them : Messages) → HasMessages l.known s them → GoesTo is_sign_off them s l.n
