-- The definitions computed on worked texts.
use Rattle.std.specs.Prelude.{◌≡◌, codes, refl}
use Rattle.strsim.specs.Edits.{cost_at, next_row, rows}
use Rattle.command_words.specs.Distances.{edits_between, lowered}
use Rattle.command_words.specs.Topics.{topic_name}
use Rattle.command_words.specs.declared.topic.Topic.TheVariants.{Counts}

lowered_word : lowered (codes "TooDeep") ≡ codes "toodeep"
lowered_word = refl

-- a letter that is missing, and capitals, which don't count
one_letter : edits_between (codes "Doubl") (codes "DOUBLE") ≡ 1
unfolding rows next_row cost_at
one_letter = refl

counts_name : topic_name Counts ≡ codes "counts"
counts_name = refl
