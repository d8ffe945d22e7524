use Rattle.line_files.proofs.Replays.{goes_on}
use Rattle.line_files.proofs.trial_laws.trials_only_post.Goals as goal

pub returns : goal.returns
returns c = λ s lines known. goes_on c.args.ledger.now s lines known c.is_lawful.ensures
