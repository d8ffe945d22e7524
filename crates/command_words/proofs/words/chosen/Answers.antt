use Rattle.std.proofs.Common.{◌∙◌, ap, rules, sym}
use Rattle.std.specs.Prelude.{option_map}
use Rattle.command_words.specs.Tables.{form_by}
use Rattle.command_words.specs.Words.{texts_of}
use Rattle.command_words.proofs.Lookup.{chooses_none}
use Rattle.command_words.proofs.words.chosen.Goals as goal

pub named-requires : goal.named-requires
named-requires c = ap (option_map form_by) (sym c.in-Some.is) ∙ c.find_command.ensures

pub returns-in-None-clause-chosen : goal.returns-in-None-clause-chosen
returns-in-None-clause-chosen c =
    let told =
    chooses_none (texts_of c.args.words.now) _
    (ap (option_map form_by) (sym c.in-None.is) ∙ c.find_command.ensures) c.no_command.ensures in
    search rules

pub returns-in-None-clause-taken : goal.returns-in-None-clause-taken
returns-in-None-clause-taken c =
    let told =
    chooses_none (texts_of c.args.words.now) _
    (ap (option_map form_by) (sym c.in-None.is) ∙ c.find_command.ensures) c.no_command.ensures in
    search rules

pub returns-in-None-clause-fault : goal.returns-in-None-clause-fault
returns-in-None-clause-fault c =
    let told =
    chooses_none (texts_of c.args.words.now) _
    (ap (option_map form_by) (sym c.in-None.is) ∙ c.find_command.ensures) c.no_command.ensures in
    search rules
