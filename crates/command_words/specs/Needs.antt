-- Defines the arguments that a command needs and its words lack.
use Rattle.std.specs.Prelude.{[], List, MatchOption, filter, is_some, not}
use Rattle.std.specs.Option.{option_map_or}
use Rattle.clap.specs.Words.{Row, Text, first_of, matches_of}
use Rattle.command_words.specs.Words.{IsRefused, form_named, needed_in}
use Rattle.command_words.specs.declared.command.WordsFault.{WordsFault}

-- Those of the arguments that have no value in `clap`'s matches.
abbrev pub without_value : List Row → List Text → List Text
without_value rows ids = filter (λ id. not (is_some (first_of id rows))) ids

-- The arguments that the command needs and that have no value in the words. None if no command is
-- named.
abbrev pub missing_values : List Text → List Text
missing_values words = option_map_or (λ form. without_value (matches_of form.app words)
    (needed_in form (matches_of form.app words))) (form_named words) []

-- Why they can't be listed: `clap` rejects the words of the command, or memory ran out.
abbrev pub IsUnread : List Text → WordsFault → Type 0
IsUnread words fault =
    MatchOption (form_named words) ⊥ (λ form. IsRefused form.app words fault)
