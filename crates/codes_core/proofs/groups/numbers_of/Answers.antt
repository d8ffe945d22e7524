use Rattle.std.proofs.Common.{◌∙◌, ap, sym, false}
use Rattle.codes_core.specs.Grammar.{has_right_groups, groups, numbers_of}
use Rattle.codes_core.proofs.Parts.{all_taken}
use Rattle.codes_core.proofs.FirstGroup.{one_group, more_groups, told, told_behind}
use Rattle.codes_core.proofs.groups.numbers_of.Goals as goal

pub returns-in-empty : goal.returns-in-empty
returns-in-empty c =
    ap (λ shape. numbers_of shape (has_right_groups (groups c.args.text.now)))
    (sym (one_group _ _ _ _ _ c.group_length.ensures.count c.split_at.ensures.front
    c.split_at.ensures.back c.in-empty.len_below))

pub returns-then-not-is_year : goal.returns-then-not-is_year
returns-then-not-is_year c =
    ap (λ shape. numbers_of shape (has_right_groups (groups c.args.text.now)))
    (sym (more_groups _ _ _ _ _ false c.group_length.ensures.count c.split_at.ensures.front
    c.split_at.ensures.back c.in-len1-up.len_at_least
    (sym c.is_year.ensures ∙ c.if-not-is_year.true)))

pub returns-else-not-is_year : goal.returns-else-not-is_year
returns-else-not-is_year c =
    c.digit_groups.ensures ∙ ap (told c.args.most) (all_taken 1 c.split_at.result.1.now)
    ∙ told_behind _ _ _ _ _ c.group_length.ensures.count c.split_at.ensures.front
    c.split_at.ensures.back c.in-len1-up.len_at_least
    (sym c.is_year.ensures ∙ c.if-not-is_year.false)
