use Rattle.std.proofs.Common.{Some, ap}
use Rattle.clap.specs.Words.{Rule}
use Rattle.clap.specs.declared.builder.action.ArgAction.TheVariants.{Set, SetTrue}
use Rattle.command_words.proofs.options.made.Goals as goal

pub returns-in-File-clause-rule : goal.returns-in-File-clause-rule
returns-in-File-clause-rule c =
    rw (
      c.value_name.ensures,
      c.short.ensures,
      c.long.ensures,
      c.action-made.ensures,
      c.help.ensures,
      ← c.action_of.ensures,
      c.in-File.is,
    )
    (ap (λ (rule : Rule). record rule {
      long = Some c.args.argument.now.id.now;
      short = Some c.in-File.letter;
      value_names = 1;
      action = Some Set;
    })
    c.new.ensures.rule)

pub returns-in-Valued-clause-rule : goal.returns-in-Valued-clause-rule
returns-in-Valued-clause-rule c =
    rw (
      c.value_name-in-Valued.ensures,
      c.long-in-Valued.ensures,
      c.action-made.ensures,
      c.help.ensures,
      ← c.action_of.ensures,
      c.in-Valued.is,
    )
    (ap (λ (rule : Rule). record rule {
      long = Some c.args.argument.now.id.now;
      value_names = 1;
      action = Some Set;
    })
    c.new.ensures.rule)

pub returns-in-Flag-clause-rule : goal.returns-in-Flag-clause-rule
returns-in-Flag-clause-rule c =
    rw (
      c.long-in-Flag.ensures,
      c.action-made.ensures,
      c.help.ensures,
      ← c.action_of.ensures,
      c.in-Flag.is,
    )
    (ap (λ (rule : Rule). record rule {
      long = Some c.args.argument.now.id.now;
      action = Some SetTrue;
    }) c.new.ensures.rule)
