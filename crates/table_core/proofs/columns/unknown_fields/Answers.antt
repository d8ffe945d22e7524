use Rattle.std.proofs.Common.{◌+◌, ◌++◌, ◌∷◌, [], ◌∙◌, ap, arith, cond}
use Rattle.table_core.specs.Columns.{is_unknown}
use Rattle.table_core.proofs.Growing.{moved}
use Rattle.table_core.proofs.HeadingSteps.{unknown_more}
use Rattle.table_core.proofs.columns.unknown_fields.Goals as goal

pub loop-i-preserved : goal.loop-i-preserved
loop-i-preserved c =
    let i = c.loop-i.i in
    moved _ _ _ _ _ _ c.loop-i.invariant
    (unknown_more c.args.words.now i c.index-words-i.result
    (omega (arith, c.loop-i-test.true, c.loop-i.auto.i-end)) c.index-words-i.is)
    (c.in_ok-push_unknown.ensures
    ∙ ap (λ w. c.loop-i.unknown.items ++ cond (is_unknown w) ((i + 1) ∷ []) []) c.as_bytes.ensures)
