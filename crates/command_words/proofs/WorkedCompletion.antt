-- The filling in of the options, computed on worked words.
use Rattle.std.specs.Prelude.{◌≡◌, ◌∷◌, [], List, None, Option, Some, codes, false, refl, true}
use Rattle.clap.specs.Words.{Text}
use Rattle.clap.proofs.OnLiterals.{clap_on_literals}
use Rattle.clap.specs.declared.error.kind.ErrorKind.TheVariants.{ArgumentConflict, InvalidValue}
use Rattle.command_words.specs.Commands.{register_app, replay, report_app, where_is}
use Rattle.command_words.specs.Completion.{completed, lacks_option}
use Rattle.command_words.specs.Needs.{missing_values}
use Rattle.command_words.specs.Words.{lacks, refusals, value}
use Rattle.command_words.specs.declared.completion.FileOption.TheVariants.{Store}

-- the museum's own setup and store
abbrev own_setup : Option Text
own_setup = Some (codes "m.csv")

abbrev own_store : Option Text
own_store = Some (codes "m.db")

-- where C1
abbrev where_words : List Text
where_words = codes "where" ∷ codes "C1" ∷ []

-- where --setup m.csv --store m.db C1
abbrev where_filled : List Text
where_filled = codes "where" ∷ codes "--setup" ∷ codes "m.csv" ∷ codes "--store" ∷ codes "m.db"
    ∷ codes "C1" ∷ []

pub both_filled : completed where_words own_setup own_store ≡ where_filled
unfolding register_app report_app
both_filled = refl

-- clap then reads both files, and nothing is missing
pub filled_setup : value where_is.app where_filled (codes "setup") ≡ own_setup
unfolding clap_on_literals register_app report_app
filled_setup = refl

pub filled_store : value where_is.app where_filled (codes "store") ≡ own_store
unfolding clap_on_literals register_app report_app
filled_store = refl

pub filled_has_all : lacks (Some where_is) where_filled ≡ false
unfolding clap_on_literals register_app report_app
filled_has_all = refl

-- one variable, none, and an empty one
pub store_filled : completed where_words None own_store
    ≡ codes "where" ∷ codes "--store" ∷ codes "m.db" ∷ codes "C1" ∷ []
unfolding register_app report_app
store_filled = refl

pub none_filled : completed where_words None None ≡ where_words
unfolding register_app report_app
none_filled = refl

pub empty_as_none : completed where_words (Some []) (Some []) ≡ where_words
unfolding register_app report_app
empty_as_none = refl

-- the words have the option: by its name, with =, by its letter, with the value attached
abbrev given : Text → Text → List Text
given setup store = codes "where" ∷ setup ∷ codes "C1" ∷ store ∷ codes "b" ∷ []

pub both_given : completed (given (codes "--setup=a") (codes "--store")) own_setup own_store
    ≡ given (codes "--setup=a") (codes "--store")
unfolding register_app report_app
both_given = refl

pub both_given_by_letter : completed (given (codes "-sa") (codes "-d")) own_setup own_store
    ≡ given (codes "-sa") (codes "-d")
unfolding register_app report_app
both_given_by_letter = refl

-- a value that looks like an option's name without its hyphens is not the option
pub value_gives_none : lacks_option Store (codes "copy" ∷ codes "--to" ∷ codes "store" ∷ []) ≡ true
unfolding register_app report_app
value_gives_none = refl

-- after -- there are no options
pub behind_dashes : completed (codes "where" ∷ codes "--" ∷ codes "--store" ∷ []) None own_store
    ≡ codes "where" ∷ codes "--store" ∷ codes "m.db" ∷ codes "--" ∷ codes "--store" ∷ []
unfolding register_app report_app
behind_dashes = refl

-- no command, a command without these options, a word that names none, and words that ask for help
pub no_words : completed [] own_setup own_store ≡ []
unfolding register_app report_app
no_words = refl

pub explain_has_none : completed (codes "explain" ∷ codes "Double" ∷ []) own_setup own_store
    ≡ codes "explain" ∷ codes "Double" ∷ []
unfolding register_app report_app
explain_has_none = refl

pub misspelt : completed (codes "wher" ∷ []) own_setup own_store ≡ codes "wher" ∷ []
unfolding register_app report_app
misspelt = refl

pub help_asked : completed (codes "where" ∷ codes "--help" ∷ []) own_setup own_store
    ≡ codes "where" ∷ codes "--help" ∷ []
unfolding register_app report_app
help_asked = refl

-- letters are read like names, and count together with them
abbrev letter_words : List Text
letter_words = codes "replay" ∷ codes "-s" ∷ codes "a" ∷ codes "-db" ∷ []

pub letter_setup : value replay.app letter_words (codes "setup") ≡ Some (codes "a")
unfolding clap_on_literals register_app report_app
letter_setup = refl

pub letter_store : value replay.app letter_words (codes "store") ≡ Some (codes "b")
unfolding clap_on_literals register_app report_app
letter_store = refl

pub setup_twice : refusals (codes "replay" ∷ codes "-s" ∷ codes "a" ∷ codes "--setup=b" ∷ [])
    ≡ ArgumentConflict ∷ []
unfolding clap_on_literals register_app report_app
setup_twice = refl

-- an option without its value remains an error
pub value_missing : refusals (completed (codes "replay" ∷ codes "-s" ∷ []) own_setup own_store)
    ≡ InvalidValue ∷ []
unfolding clap_on_literals register_app report_app
value_missing = refl

-- count --store b: the setup and the list are missing
pub count_missing : missing_values (codes "count" ∷ codes "--store=b" ∷ [])
    ≡ codes "setup" ∷ codes "list" ∷ []
unfolding clap_on_literals register_app report_app
count_missing = refl

-- only the store is filled in for setup
pub setup_store_filled : completed (codes "setup" ∷ []) own_setup own_store
    ≡ codes "setup" ∷ codes "--store" ∷ codes "m.db" ∷ []
unfolding register_app report_app
setup_store_filled = refl

-- setup alone: the store is missing
pub setup_missing : missing_values (codes "setup" ∷ []) ≡ codes "store" ∷ []
unfolding clap_on_literals register_app report_app
setup_missing = refl
