use Rattle.std.proofs.Common.{◌∙◌, ap, sym, ◌-◌, ◌&&◌, false}
use Rattle.std.specs.List.{list_all}
use Rattle.std.specs.Option.{option_map}
use Rattle.codes_core.specs.Grammar.{is_digits, is_right_number, groups, numbers_of}
use Rattle.codes_core.proofs.Parts.{are_few-zero, few_by, all_taken}
use Rattle.codes_core.proofs.FirstGroup.{told, told_alone, told_more}
use Rattle.codes_core.proofs.groups.+digit_groups.Goals as goal

pub returns-then-most-eq0 : goal.returns-then-most-eq0
returns-then-most-eq0 t c =
    ap (λ few. numbers_of few (list_all is_right_number (groups c.args.text.now)))
    (sym (are_few-zero is_digits 46 c.args.most c.args.text.now c.if-most-eq0.true))

pub returns-then-not-is_digits : goal.returns-then-not-is_digits
returns-then-not-is_digits t c =
    ap (λ few. numbers_of few (list_all is_right_number (groups c.args.text.now)))
    (sym (few_by is_digits 46 _ _ _ _ _ false c.if-most-eq0.false c.group_length.ensures.count
    c.split_at.ensures.front c.split_at.ensures.back
    (sym c.is_digits.ensures ∙ c.if-not-is_digits.true)))

pub returns-in-empty : goal.returns-in-empty
returns-in-empty t c =
    told_alone _ _ _ _ _ _ c.if-most-eq0.false c.group_length.ensures.count c.split_at.ensures.front
    c.split_at.ensures.back (sym c.is_digits.ensures ∙ c.if-not-is_digits.false)
    (sym c.is_right_number-is_right.ensures) c.in-empty.len_below

pub returns-in-len1-up : goal.returns-in-len1-up
returns-in-len1-up t c =
    c.with_number.ensures ∙ ap (option_map (λ o. c.is_right_number-is_right.result && o))
    (c.digit_groups.ensures ∙ ap (told (c.args.most - 1)) (all_taken 1 c.split_at.result.1.now))
    ∙ sym (told_more _ _ _ _ _ _ c.if-most-eq0.false c.group_length.ensures.count
    c.split_at.ensures.front c.split_at.ensures.back
    (sym c.is_digits.ensures ∙ c.if-not-is_digits.false)
    (sym c.is_right_number-is_right.ensures) c.in-len1-up.len_at_least)
