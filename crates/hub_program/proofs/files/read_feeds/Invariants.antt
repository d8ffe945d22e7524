use Rattle.std.proofs.Common.{◌≡◌, vec_len}
use Rattle.hub_program.proofs.files.read_feeds.Given as goal

abbrev pub invariant-loop-file : goal.invariant-loop-file
invariant-loop-file l = vec_len l.feeds ≡ l.file-index
