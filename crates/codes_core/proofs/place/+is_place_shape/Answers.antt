use Rattle.std.proofs.Common.{◌∙◌, ap, sym, ◌-◌, true, false}
use Rattle.codes_core.specs.Place.{is_segment, is_place_shape}
use Rattle.codes_core.proofs.Parts.{are_few-zero, few_by, goes_on-nil, goes_on-cons, all_taken}
use Rattle.codes_core.proofs.place.+is_place_shape.Goals as goal

pub returns-then-segments-eq0 : goal.returns-then-segments-eq0
returns-then-segments-eq0 t c =
    sym (are_few-zero is_segment 45 c.args.segments c.args.text.now c.if-segments-eq0.true)

pub returns-then-not-is_segment : goal.returns-then-not-is_segment
returns-then-not-is_segment t c =
    sym (few_by is_segment 45 _ _ _ _ _ false c.if-segments-eq0.false c.segment_length.ensures.count
    c.split_at.ensures.front c.split_at.ensures.back
    (sym c.is_segment.ensures ∙ c.if-not-is_segment.true))

pub returns-in-empty : goal.returns-in-empty
returns-in-empty t c =
    sym (few_by is_segment 45 _ _ _ _ _ true c.if-segments-eq0.false c.segment_length.ensures.count
    c.split_at.ensures.front c.split_at.ensures.back
    (sym c.is_segment.ensures ∙ c.if-not-is_segment.false)
    ∙ goes_on-nil is_segment 45 (c.args.segments - 1) _ c.in-empty.len_below)

pub returns-in-len1-up : goal.returns-in-len1-up
returns-in-len1-up t c =
    c.is_place_shape.ensures ∙ ap (is_place_shape (c.args.segments - 1))
    (all_taken 1 c.split_at.result.1.now)
    ∙ sym (few_by is_segment 45 _ _ _ _ _ true c.if-segments-eq0.false
    c.segment_length.ensures.count c.split_at.ensures.front c.split_at.ensures.back
    (sym c.is_segment.ensures ∙ c.if-not-is_segment.false)
    ∙ goes_on-cons is_segment 45 (c.args.segments - 1) _ c.in-len1-up.len_at_least)
