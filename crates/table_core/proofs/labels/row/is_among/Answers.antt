use Rattle.std.proofs.Common.{rules, string_bytes, tests, ◌∙◌}
use Rattle.std.proofs.lemmas.Iterator.{YieldsList-from_slice}
use Rattle.std.proofs.lemmas.Iterator.Search.{any_from_yields_List}
use Rattle.table_core.specs.LabelRows.{is_word}
use Rattle.table_core.proofs.LabelFields.{list_any-map}
use Rattle.table_core.proofs.labels.row.is_among.Goals as goal

pub returns : goal.returns
returns c =
    any_from_yields_List (λ f. is_word c.args.word.now (string_bytes f)) _ _ c.any.result
    c.any.ensures.ran (YieldsList-from_slice c.args.fields.now cc)
    (λ x b q k. search (rules, tests))
    ∙ list_any-map (is_word c.args.word.now) string_bytes c.args.fields.now
