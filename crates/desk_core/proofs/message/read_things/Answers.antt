use Rattle.std.proofs.Common.{◌∙◌, ◌++◌, ◌∷◌, [], ap}
use Rattle.desk_core.specs.Codes.{things_rejection}
use Rattle.desk_core.proofs.Rejections.{things-none, things-passed, things-rejected}
use Rattle.desk_core.proofs.Splits.{all_done, word_moves}
use Rattle.desk_core.proofs.message.read_things.Goals as goal

pub returns-in-Err : goal.returns-in-Err
returns-in-Err c =
    c.loop-word.invariant.same
    ∙ ap (things_rejection c.args.setup.now c.args.forced) c.in-Some.ensures.0
    ∙ things-rejected c.args.setup.now c.args.forced _ _ _ c.in-Err.ensures

pub loop-word-preserved : goal.loop-word-preserved
loop-word-preserved c = record {
  read =
      word_moves _ _ _ _ _ _ c.loop-word.invariant.read c.in-Some.ensures.0
      (c.in_ok-push-in-Ok.ensures.items
      ∙ ap (λ word. c.loop-word.things.items ++ word ∷ []) c.in-Ok.ensures.0);
  same =
      c.loop-word.invariant.same
      ∙ ap (things_rejection c.args.setup.now c.args.forced) c.in-Some.ensures.0
      ∙ things-passed c.args.setup.now c.args.forced _ _ c.in-Ok.ensures.1;
}

pub returns : goal.returns
returns c = (
  all_done _ _ _ c.loop-word.invariant.read c.in_default.ensures,
  c.loop-word.invariant.same
      ∙ ap (things_rejection c.args.setup.now c.args.forced) c.in_default.ensures
      ∙ things-none c.args.setup.now c.args.forced,
)
