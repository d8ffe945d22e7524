-- Defines the names of the topics of the help.
use Rattle.std.specs.Prelude.{ℕ, List, codes}
use Rattle.command_words.specs.declared.topic.Topic.{Topic}
use Rattle.command_words.specs.declared.topic.Topic.TheVariants.{Setup, Lines, Counts}
use Rattle.command_words.specs.declared.topic.Topic.TheVariants.{Verdicts, Files}

abbrev pub topic_name : Topic → List ℕ
topic_name Setup = codes "setup"
topic_name Lines = codes "lines"
topic_name Counts = codes "counts"
topic_name Verdicts = codes "verdicts"
topic_name Files = codes "files"
