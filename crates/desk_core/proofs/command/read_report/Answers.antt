use Rattle.std.proofs.Common.{◌∙◌, ◌++◌, ◌∷◌, [], ap}
use Rattle.std.specs.List.{list_all}
use Rattle.std.specs.Str.{is_utf8}
use Rattle.desk_core.specs.Verbs.{verb_word}
use Rattle.desk_core.proofs.Reports.{rejected, reported, texts-passed, texts-rejected}
use Rattle.desk_core.proofs.Splits.{all_done, word_moves}
use Rattle.desk_core.proofs.command.read_report.Goals as goal

pub returns-in-Err : goal.returns-in-Err
returns-in-Err c =
    rejected (verb_word c.args.verb) c.args.rest.now
    (c.loop-word.invariant.same ∙ ap (list_all is_utf8) c.in-Some.ensures.0
    ∙ texts-rejected _ _ c.in-Err.ensures.cases.0)

pub loop-word-preserved : goal.loop-word-preserved
loop-word-preserved c = record {
  read =
      word_moves _ _ _ _ _ _ c.loop-word.invariant.read c.in-Some.ensures.0
      (c.in_ok-push-in-Ok.ensures
      ∙ ap (λ word. c.loop-word.words ++ word ∷ []) c.in-Ok.ensures.cases.0);
  same =
      c.loop-word.invariant.same ∙ ap (list_all is_utf8) c.in-Some.ensures.0
      ∙ texts-passed _ _ c.in-Ok.ensures.cases.1;
}

pub returns : goal.returns
returns c =
    reported (verb_word c.args.verb) c.args.rest.now c.loop-word.words
    (all_done _ _ _ c.loop-word.invariant.read c.in_default.ensures)
    (c.loop-word.invariant.same ∙ ap (list_all is_utf8) c.in_default.ensures)
