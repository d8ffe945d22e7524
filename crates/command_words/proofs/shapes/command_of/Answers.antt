use Rattle.std.proofs.Common.{◌∙◌, ap, arith, sym}
use Rattle.std.proofs.lemmas.List.{at_drop_all}
use Rattle.clap.specs.Words.{app_of, with_rule}
use Rattle.command_words.specs.Tables.{with_arguments}
use Rattle.command_words.proofs.Tables.{one_argument_more}
use Rattle.command_words.proofs.shapes.command_of.Goals as goal

pub loop-argument-init : goal.loop-argument-init
loop-argument-init c =
    ap (λ app. with_arguments app c.arguments_of-argument-items.result.now) c.bare-command.ensures
    ∙ c.arguments_of-argument-items.ensures

pub loop-argument-preserved : goal.loop-argument-preserved
loop-argument-preserved c =
    one_argument_more (app_of c.loop-argument.command) (app_of c.in_ok-command.command) _ _
    c.loop-argument.argument-index _
    c.loop-argument-test.true c.loop-argument.invariant
    (c.in_ok-command.ensures.shape c.made.ensures.local
    ∙ ap (with_rule (app_of c.loop-argument.command)) c.made.ensures.rule)

pub returns : goal.returns
returns c =
    sym (at_drop_all (with_arguments (app_of c.loop-argument.command)) _
    c.loop-argument.argument-index (omega (arith, c.loop-argument-test.false)))
    ∙ c.loop-argument.invariant
