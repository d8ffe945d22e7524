use Rattle.std.proofs.Common.{◌≡◌, ◌∙◌, ◌&&◌, Bool, ap, arith, false, not, refl, sym, true}
use Rattle.std.proofs.lemmas.List.{at_drop_all}
use Rattle.clap.specs.Words.{App, app_of, shape_of, with_subcommand}
use Rattle.clap.specs.declared.builder.command.Command.{Command}
use Rattle.clap.specs.declared.builder.command.Command.TheViews.{out-Command as fields_of}
use Rattle.command_words.specs.Tables.{with_commands}
use Rattle.command_words.proofs.Tables.{all, one_more, plain_by, whole}
use Rattle.command_words.proofs.shapes.overview_command.Goals as goal

-- the third of four tests fails
third_fails : (a b c d : Bool) → (a && (b && (not c && d))) ≡ true → c ≡ false
third_fails true true false d e = refl
third_fails true true true d e = grind (arith, e)
third_fails true false c d e = grind (arith, e)
third_fails false b c d e = grind (arith, e)

no_globals : (command : Command) → (shape_of command).is_plain ≡ true
    → (fields_of command).has_globals ≡ false
no_globals command e = third_fails _ _ _ _ e

pub loop-name-init : goal.loop-name-init
loop-name-init c = whole (app_of c.program-command.result) c.program-command.ensures

pub loop-name-preserved : goal.loop-name-preserved
loop-name-preserved c =
    let above = app_of c.loop-name.command in
    let made = c.in-Ok.ensures in
    one_more above (app_of c.in_ok-command.command) all c.loop-name.name-index _
    c.loop-name-test.true
    c.loop-name.invariant
    (c.in_ok-command.ensures.shape (no_globals _ (plain_by _ c.in-Ok.next made))
    ∙ ap (λ (a : App). with_subcommand above a.top) made)

pub returns : goal.returns
returns c =
    sym (at_drop_all (with_commands (app_of c.loop-name.command)) all c.loop-name.name-index
    (omega (arith, c.loop-name-test.false)))
    ∙ c.loop-name.invariant
