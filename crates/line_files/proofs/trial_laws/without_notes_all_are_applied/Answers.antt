use Rattle.line_files.proofs.Replays.{all_apply}
use Rattle.line_files.proofs.trial_laws.without_notes_all_are_applied.Goals as goal

pub returns : goal.returns
returns c = λ B s lines none. all_apply B s lines none
