use Rattle.line_files.proofs.SeenMoves.{moves_seen, seen_moves}
use Rattle.line_files.proofs.audits.laws.moves_are_what_was_seen.Goals as goal

pub returns-clause-seen : goal.returns-clause-seen
returns-clause-seen c = λ B day rows m h. moves_seen B day rows m h

pub returns-clause-all : goal.returns-clause-all
returns-clause-all c = λ B day rows m h. seen_moves B day rows m h
