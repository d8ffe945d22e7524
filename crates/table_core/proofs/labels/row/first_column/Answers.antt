use Rattle.std.proofs.Common.{rules, string_bytes, tests, ◌∙◌}
use Rattle.std.proofs.lemmas.Iterator.{YieldsList-from_slice}
use Rattle.std.proofs.lemmas.Iterator.Search.{position_from_yields_List}
use Rattle.table_core.specs.LabelRows.{is_word}
use Rattle.table_core.proofs.LabelFields.{position-map}
use Rattle.table_core.proofs.labels.row.first_column.Goals as goal

pub returns-clause-found : goal.returns-clause-found
returns-clause-found c =
    position_from_yields_List (λ f. is_word c.args.word.now (string_bytes f)) _ _ c.position.result
    c.position.ensures.ran (YieldsList-from_slice c.args.heading.now cc)
    (λ x b q k. search (rules, tests))
    ∙ position-map (is_word c.args.word.now) string_bytes c.args.heading.now
