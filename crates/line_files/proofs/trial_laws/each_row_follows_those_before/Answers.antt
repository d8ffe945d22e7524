use Rattle.std.proofs.Common.{◌∷◌}
use Rattle.line_files.proofs.TrialSteps.{after_more, notes_more}
use Rattle.line_files.proofs.trial_laws.each_row_follows_those_before.Goals as goal

pub returns-clause-posted : goal.returns-clause-posted
returns-clause-posted c = λ B s before after line. after_more B s before (line ∷ after)

pub returns-clause-notes : goal.returns-clause-notes
returns-clause-notes c = λ B s before after line. notes_more B s before (line ∷ after)
