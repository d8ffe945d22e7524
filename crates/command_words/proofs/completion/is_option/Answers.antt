use Rattle.std.proofs.Common.{◌∙◌, ap, ap₂}
use Rattle.std.specs.Prelude.{◌||◌, nat_eq}
use Rattle.std.specs.List.{starts_with}
use Rattle.std.proofs.lemmas.Str.Pattern.{starts_text}
use Rattle.command_words.proofs.completion.is_option.Goals as goal

pub returns : goal.returns
returns c =
    ap₂ ◌||◌ c.eq.ensures
    (ap₂ ◌||◌
    (starts_text c.starts_with.result c.args.named.now c.args.word.now c.starts_with.ensures.cases
    ∙ ap (starts_with nat_eq c.args.word.now) c.requires)
    (starts_text c.starts_with-2.result c.args.letter.now c.args.word.now
    c.starts_with-2.ensures.cases))
