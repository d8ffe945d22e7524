-- Defines the words of a command line after the museum's own setup and store are filled in.
use Rattle.std.specs.Prelude.{◌∷◌, ◌++◌, [], Bool, List, Option, Some, None, codes, drop, find}
use Rattle.std.specs.Prelude.{◌||◌, ◌&&◌, false, if◌then◌else◌, nat_eq, not, take}
use Rattle.std.specs.List.{before_first, list_any, starts_with}
use Rattle.std.specs.Option.{option_map_or}
use Rattle.std.specs.Str.{bytes_eq}
use Rattle.clap.specs.Walk.{is_empty}
use Rattle.clap.specs.Words.{Text}
use Rattle.command_words.specs.Commands.{Form, commands}
use Rattle.command_words.specs.Words.{form_named}
use Rattle.command_words.specs.declared.completion.FileOption.{FileOption}
use Rattle.command_words.specs.declared.completion.FileOption.TheVariants.{Setup, Store}

-- The name of an option: --setup.
abbrev pub name_of : FileOption → Text
name_of Setup = codes "--setup"
name_of Store = codes "--store"

-- Its letter: -s.
abbrev pub letter_of : FileOption → Text
letter_of Setup = codes "-s"
letter_of Store = codes "-d"

-- The argument that it is.
abbrev pub id_of : FileOption → Text
id_of Setup = codes "setup"
id_of Store = codes "store"

-- The word begins with this text.
abbrev pub begins : Text → Text → Bool
begins text word = starts_with nat_eq word text

-- The word is an option of this name or letter: --setup, --setup=PATH, -s, -sPATH.
abbrev pub is_written : Text → Text → Text → Bool
is_written name letter word =
    bytes_eq word name || (begins (name ++ codes "=") word || begins letter word)

-- The word gives the option, or asks for help, so the option is not filled in.
abbrev pub settles : FileOption → Text → Bool
settles option word = is_written (name_of option) (letter_of option) word
    || (bytes_eq word (codes "--help") || begins (codes "-h") word)

-- The words that may be options: those before the first --.
abbrev pub option_words : List Text → List Text
option_words words = before_first (λ word. bytes_eq word (codes "--")) words

-- One of the words gives the option, or asks for help.
abbrev pub is_settled : FileOption → List Text → Bool
is_settled option words = list_any (settles option) (option_words words)

-- The command has the option.
abbrev pub has_option : FileOption → Form → Bool
has_option option form = list_any (λ rule. bytes_eq rule.id (id_of option)) form.app.top.rules

-- The command has the option, and a value that it needs. One that needs none, such as `check`,
-- takes only the files that its words name.
abbrev pub is_filled_in : FileOption → Form → Bool
is_filled_in option form = has_option option form && not (is_empty form.needed)

-- The command of this name.
abbrev pub form_called : Text → Option Form
form_called name = find (λ form. bytes_eq name form.app.top.name) commands

-- The first word names a command whose option is filled in, and the words have neither the option
-- nor a request for help.
abbrev pub lacks_option : FileOption → List Text → Bool
lacks_option option words =
    option_map_or (is_filled_in option) (form_named words) false && not (is_settled option words)

-- An option and its value: --setup PATH. None of it if there is no value, or an empty one.
abbrev pub option_with : FileOption → Option Text → List Text
option_with option None = []
option_with option (Some []) = []
option_with option (Some (c ∷ cs)) = name_of option ∷ (c ∷ cs) ∷ []

-- The words that are filled in: the option and its value, if the words lack it.
abbrev pub filled_in : FileOption → Option Text → List Text → List Text
filled_in option value words = if lacks_option option words then option_with option value else []

-- The words, with those filled in right after the command's name.
abbrev pub completed : List Text → Option Text → Option Text → List Text
completed words setup store =
    take 1 words ++ (filled_in Setup setup words ++ (filled_in Store store words ++ drop 1 words))
