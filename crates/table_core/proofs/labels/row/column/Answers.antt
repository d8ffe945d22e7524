use Rattle.std.proofs.Common.{ap, false, map, string_bytes, sym, true, ◌+◌, ◌∙◌}
use Rattle.std.proofs.lemmas.List.{drop-map}
use Rattle.std.specs.List.{list_any}
use Rattle.table_core.specs.LabelRows.{is_word}
use Rattle.table_core.proofs.LabelFields.{only}
use Rattle.table_core.proofs.labels.row.column.Goals as goal

pub returns-then-is_among : goal.returns-then-is_among
returns-then-is_among c =
    let word = c.args.word.now in
    let heading = c.args.heading.now in
    let i = c.in_ok-first.first in
    only word (map string_bytes heading) i true c.in_ok-first.ensures.found
    (sym c.if-is_among.true ∙ c.is_among.ensures
    ∙ ap (λ fs. list_any (is_word word) (map string_bytes fs)) c.split_at.ensures.back
    ∙ ap (list_any (is_word word)) (sym (drop-map string_bytes (i + 1) heading)))

pub returns : goal.returns
returns c =
    let word = c.args.word.now in
    let heading = c.args.heading.now in
    let i = c.in_ok-first.first in
    only word (map string_bytes heading) i false c.in_ok-first.ensures.found
    (sym c.if-is_among.false ∙ c.is_among.ensures
    ∙ ap (λ fs. list_any (is_word word) (map string_bytes fs)) c.split_at.ensures.back
    ∙ ap (list_any (is_word word)) (sym (drop-map string_bytes (i + 1) heading)))
