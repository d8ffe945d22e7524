use Rattle.std.proofs.Common.{◌∙◌, ap, rules, sym}
use Rattle.std.specs.Prelude.{option_map}
use Rattle.command_words.specs.Needs.{IsUnread}
use Rattle.command_words.specs.Tables.{form_by}
use Rattle.command_words.specs.Words.{texts_of}
use Rattle.command_words.specs.declared.command.WordsFault.TheVariants.{NoMemory}
use Rattle.command_words.proofs.Missing.{missing_by, unread_by}
use Rattle.command_words.proofs.needs.list_missing.Goals as goal

pub returns-in_err-matches-clause-fault : goal.returns-in_err-matches-clause-fault
returns-in_err-matches-clause-fault c =
    let named = ap (option_map form_by) (sym c.in-Some.is) ∙ c.find_command.ensures in
    let fault : IsUnread (texts_of c.args.words.now) c.in_err-matches.field-0.0 =
    unread_by c.in-Some.name (texts_of c.args.words.now) named c.in_err-matches.field-0.0
    c.in_err-matches.ensures in
    search rules

pub returns-in_err-missing-clause-fault : goal.returns-in_err-missing-clause-fault
returns-in_err-missing-clause-fault c =
    let named = ap (option_map form_by) (sym c.in-Some.is) ∙ c.find_command.ensures in
    let fault : IsUnread (texts_of c.args.words.now) NoMemory =
    unread_by c.in-Some.name (texts_of c.args.words.now) named NoMemory tt in
    search rules

pub returns-clause-missing : goal.returns-clause-missing
returns-clause-missing c =
    let named = ap (option_map form_by) (sym c.in-Some.is) ∙ c.find_command.ensures in
    c.in_ok-missing.ensures
    ∙ missing_by c.in-Some.name (texts_of c.args.words.now) named _ _ c.in_ok-matches.ensures.1
    c.needs_in.ensures
