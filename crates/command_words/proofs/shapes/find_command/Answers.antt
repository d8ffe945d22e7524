use Rattle.std.proofs.Common.{◌≡◌, ◌∙◌, Some, ap, rules, sym}
use Rattle.std.specs.Borrow.{Bor}
use Rattle.std.specs.List.{slice_get}
use Rattle.std.specs.Option.{option_and_then, option_map}
use Rattle.std.proofs.lemmas.Option.{slice_get-map}
use Rattle.clap.specs.Words.{Text}
use Rattle.command_words.specs.Completion.{form_called}
use Rattle.command_words.specs.Words.{texts_of}
use Rattle.command_words.proofs.shapes.find_command.Goals as goal

pub returns-in-Some : goal.returns-in-Some
returns-in-Some c =
    let words = c.args.words.now in
    let first : slice_get words 0 ≡ Some c.in-Some.word = search rules in
    let text : slice_get (texts_of words) 0 ≡ Some c.in-Some.word.now =
    slice_get-map (λ (w : Bor Text). w.now) words 0
    ∙ ap (option_map (λ (w : Bor Text). w.now)) first in
    c.name_of.ensures ∙ ap (option_and_then form_called) (sym text)
