use Rattle.std.proofs.Common.{◌∙◌, sym}
use Rattle.desk_core.proofs.Splits.{none_left, taken}
use Rattle.desk_core.proofs.text.next_word.Goals as goal

pub returns-then-is_empty : goal.returns-then-is_empty
returns-then-is_empty c =
    none_left c.args.text.now c.trim_front-text.result.now c.trim_front-text.ensures.value
    (sym c.is_empty.ensures ∙ c.if-is_empty.true)

pub returns : goal.returns
returns c =
    taken c.args.text.now c.trim_front-text.result.now c.first_word.result.now
    c.after_word.result.now c.trim_front-text.ensures.value
    (sym c.is_empty.ensures ∙ c.if-is_empty.false) c.first_word.ensures c.after_word.ensures.value
    c.after_word.ensures.shorter c.trim_front-text.ensures.shorter
