-- The definitions computed on worked words.
use Rattle.std.specs.Prelude.{◌≡◌, ◌∷◌, ◌++◌, [], ℕ, List, None, Some, codes, false, map, refl}
use Rattle.std.specs.Prelude.{true}
use Rattle.std.specs.Borrow.{Bor}
use Rattle.clap.specs.Words.{Text, matches_of, new_app}
use Rattle.clap.proofs.OnLiterals.{clap_on_literals}
use Rattle.clap.specs.declared.error.kind.ErrorKind.TheVariants.{ArgumentConflict, InvalidValue}
use Rattle.clap.specs.declared.error.kind.ErrorKind.TheVariants.{UnknownArgument}
use Rattle.command_words.specs.Commands.{away, copy, explain, export, grow, help}
use Rattle.command_words.specs.Commands.{posted, print_setup}
use Rattle.command_words.specs.Commands.{register_app, replay, report_app, serve}
use Rattle.command_words.specs.Tables.{with_arguments}
use Rattle.command_words.specs.Words.{form_named, format_in, is_given, lacks, refusals}
use Rattle.command_words.specs.Words.{report_kinds}
use Rattle.command_words.specs.Words.{HoldsReport, IsNoReport, status_of_kind, value, values}
use Rattle.command_words.specs.declared.command.Format.TheVariants.{Csv, Json, Lines, Table}
use Rattle.command_words.specs.declared.command.WordsFault.TheVariants.{Missing}
use Rattle.command_words.specs.declared.options.Argument.{Argument}
use Rattle.command_words.specs.declared.options.Kind.TheVariants.{Word}

-- replay --setup a --store b
abbrev replay_words : List Text
replay_words = codes "replay" ∷ codes "--setup" ∷ codes "a" ∷ codes "--store" ∷ codes "b" ∷ []

pub replay_named : form_named replay_words ≡ Some replay
unfolding register_app report_app
replay_named = refl

pub replay_setup : value replay.app replay_words (codes "setup") ≡ Some (codes "a")
unfolding clap_on_literals register_app report_app
replay_setup = refl

pub replay_store : value replay.app replay_words (codes "store") ≡ Some (codes "b")
unfolding clap_on_literals register_app report_app
replay_store = refl

pub replay_taken : refusals replay_words ≡ []
unfolding clap_on_literals register_app report_app
replay_taken = refl

pub replay_has_all : lacks (Some replay) replay_words ≡ false
unfolding clap_on_literals register_app report_app
replay_has_all = refl

-- serve --setup a f g
abbrev serve_words : List Text
serve_words = codes "serve" ∷ codes "--setup" ∷ codes "a" ∷ codes "f" ∷ codes "g" ∷ []

pub serve_feeds : values serve.app serve_words (codes "feeds") ≡ codes "f" ∷ codes "g" ∷ []
unfolding clap_on_literals register_app report_app
serve_feeds = refl

pub serve_setup : value serve.app serve_words (codes "setup") ≡ Some (codes "a")
unfolding clap_on_literals register_app report_app
serve_setup = refl

pub serve_in_memory : value serve.app serve_words (codes "store") ≡ None
unfolding clap_on_literals register_app report_app
serve_in_memory = refl

-- without a feed
pub serve_no_feed : values serve.app (codes "serve" ∷ codes "--setup=a" ∷ []) (codes "feeds") ≡ []
unfolding clap_on_literals register_app report_app
serve_no_feed = refl

-- overdue --setup a --store b: the day is missing, but there is no error
abbrev no_day : List Text
no_day = codes "overdue" ∷ codes "--setup" ∷ codes "a" ∷ codes "--store" ∷ codes "b" ∷ []

pub no_day_taken : refusals no_day ≡ []
unfolding clap_on_literals register_app report_app
no_day_taken = refl

pub no_day_lacks : lacks (form_named no_day) no_day ≡ true
unfolding clap_on_literals register_app report_app
no_day_lacks = refl

-- posted --setup a --store b --from 7
pub posted_from : value posted.app
    (codes "posted" ∷ codes "--setup" ∷ codes "a" ∷ codes "--store" ∷ codes "b"
    ∷ codes "--from" ∷ codes "7" ∷ []) (codes "from") ≡ Some (codes "7")
unfolding clap_on_literals register_app report_app
posted_from = refl

-- replay --setup a --progress, and without the option
pub progress_asked : is_given replay.app (codes "replay" ∷ codes "--setup=a" ∷ codes "--progress"
    ∷ []) (codes "progress") ≡ true
unfolding clap_on_literals register_app report_app
progress_asked = refl

pub no_progress_asked : is_given replay.app replay_words (codes "progress") ≡ false
unfolding clap_on_literals register_app report_app
no_progress_asked = refl

-- replay --setup a --strict doesn't print progress
abbrev strict_words : List Text
strict_words = codes "replay" ∷ codes "--setup=a" ∷ codes "--strict" ∷ []

pub strict_asked : is_given replay.app strict_words (codes "strict") ≡ true
unfolding clap_on_literals register_app report_app
strict_asked = refl

pub strict_is_no_progress : is_given replay.app strict_words (codes "progress") ≡ false
unfolding clap_on_literals register_app report_app
strict_is_no_progress = refl

-- copy --setup a --store b --to c
abbrev copy_words : List Text
copy_words = codes "copy" ∷ codes "--setup=a" ∷ codes "--store=b" ∷ codes "--to" ∷ codes "c" ∷ []

pub copy_to : value copy.app copy_words (codes "to") ≡ Some (codes "c")
unfolding clap_on_literals register_app report_app
copy_to = refl

pub copy_has_all : lacks (form_named copy_words) copy_words ≡ false
unfolding clap_on_literals register_app report_app
copy_has_all = refl

-- export --setup a --store b --to c, and without the new file
abbrev export_words : List Text
export_words = codes "export" ∷ codes "--setup=a" ∷ codes "--store=b" ∷ []

pub export_to : value export.app (export_words ++ codes "--to" ∷ codes "c" ∷ []) (codes "to")
    ≡ Some (codes "c")
unfolding clap_on_literals register_app report_app
export_to = refl

pub export_needs_file : lacks (form_named export_words) export_words ≡ true
unfolding clap_on_literals register_app report_app
export_needs_file = refl

-- away --setup a --store b, as plain lines, as comma-separated values, as JSON, as a table
abbrev away_words : List Text
away_words = codes "away" ∷ codes "--setup=a" ∷ codes "--store=b" ∷ []

pub away_lines : format_in away.app away_words ≡ Some Lines
unfolding clap_on_literals register_app report_app
away_lines = refl

pub away_csv : format_in away.app (away_words ++ codes "--csv" ∷ []) ≡ Some Csv
unfolding clap_on_literals register_app report_app
away_csv = refl

pub away_json : format_in away.app (away_words ++ codes "--json" ∷ []) ≡ Some Json
unfolding clap_on_literals register_app report_app
away_json = refl

pub away_table : format_in away.app (away_words ++ codes "--table" ∷ []) ≡ Some Table
unfolding clap_on_literals register_app report_app
away_table = refl

pub away_csv_taken : report_kinds away.app (away_words ++ codes "--csv" ∷ []) ≡ []
unfolding clap_on_literals register_app report_app
away_csv_taken = refl

-- two forms together are an error, which comes after `clap`'s own
abbrev both_forms : List Text
both_forms = away_words ++ codes "--csv" ∷ codes "--json" ∷ []

pub both_forms_none : format_in away.app both_forms ≡ None
unfolding clap_on_literals register_app report_app
both_forms_none = refl

pub both_forms_refused : report_kinds away.app both_forms ≡ ArgumentConflict ∷ []
unfolding clap_on_literals register_app report_app
both_forms_refused = refl

pub table_refused : report_kinds away.app (away_words ++ codes "--csv" ∷ codes "--table" ∷ [])
    ≡ ArgumentConflict ∷ []
unfolding clap_on_literals register_app report_app
table_refused = refl

pub word_refused_first : report_kinds away.app (both_forms ++ codes "x" ∷ []) ≡ UnknownArgument ∷ []
unfolding clap_on_literals register_app report_app
word_refused_first = refl

-- An error comes before a missing value: an option without its value, an option given twice, a word
-- too many.
pub value_missing : refusals (codes "replay" ∷ codes "--setup" ∷ []) ≡ InvalidValue ∷ []
unfolding clap_on_literals register_app report_app
value_missing = refl

pub setup_twice : refusals (codes "replay" ∷ codes "--setup=a" ∷ codes "--setup=b" ∷ [])
    ≡ ArgumentConflict ∷ []
unfolding clap_on_literals register_app report_app
setup_twice = refl

pub word_too_many : refusals (codes "away" ∷ codes "a" ∷ []) ≡ UnknownArgument ∷ []
unfolding clap_on_literals register_app report_app
word_too_many = refl

-- asking for help is not a usage error
pub helped : map status_of_kind (refusals (codes "count" ∷ codes "--help" ∷ [])) ≡ 0 ∷ []
unfolding clap_on_literals register_app report_app
helped = refl

-- no command at all, and a word that names none
pub no_words : refusals [] ≡ []
unfolding clap_on_literals register_app report_app
no_words = refl

pub no_words_lack : lacks (form_named []) [] ≡ true
no_words_lack = refl

pub misspelt : map status_of_kind (refusals (codes "replya" ∷ [])) ≡ 2 ∷ 2 ∷ []
unfolding clap_on_literals register_app report_app
misspelt = refl

-- help lines, and help alone
pub help_named : form_named (codes "help" ∷ codes "lines" ∷ []) ≡ Some help
unfolding register_app report_app
help_named = refl

pub help_topic : value help.app (codes "help" ∷ codes "lines" ∷ []) (codes "topic")
    ≡ Some (codes "lines")
unfolding clap_on_literals
help_topic = refl

pub help_alone : value help.app (codes "help" ∷ []) (codes "topic") ≡ None
unfolding clap_on_literals
help_alone = refl

pub help_lacks_nothing : lacks (form_named (codes "help" ∷ [])) (codes "help" ∷ []) ≡ false
unfolding register_app report_app
help_lacks_nothing = refl

-- the matches of a report, which lack the store
abbrev word : List ℕ → Bor (List ℕ)
word t = record { ref_ptr = (0, 0); now = t }

pub away_held : HoldsReport (matches_of away.app away_words)
    (record {
      setup = word (codes "a");
      store = word (codes "b");
      upto = None;
      format = Lines;
    })
unfolding clap_on_literals register_app report_app
away_held = (refl, refl, refl, refl)

pub no_store_held : IsNoReport (matches_of away.app (codes "away" ∷ codes "--setup=a" ∷ [])) Missing
unfolding clap_on_literals register_app report_app
no_store_held = (refl, refl)

-- the one argument of explain
abbrev name_word : Argument
name_word = record {
  kind = Word;
  id = word (codes "name");
  value = word (codes "NAME");
  help = word (codes "A word");
}

pub explain_arguments : with_arguments (new_app (codes "explain")) (name_word ∷ []) ≡ explain.app
explain_arguments = refl

-- grow --setup a --store b --check, and without the flag
abbrev grow_words : List Text
grow_words = codes "grow" ∷ codes "--setup=a" ∷ codes "--store=b" ∷ []

pub grow_checks : is_given grow.app (grow_words ++ codes "--check" ∷ []) (codes "check") ≡ true
unfolding clap_on_literals register_app report_app
grow_checks = refl

pub grow_adds : is_given grow.app grow_words (codes "check") ≡ false
unfolding clap_on_literals register_app report_app
grow_adds = refl

pub grow_has_all : lacks (form_named grow_words) grow_words ≡ false
unfolding clap_on_literals register_app report_app
grow_has_all = refl

-- setup --store b, and setup alone; it has no --setup
pub setup_store : value print_setup.app (codes "setup" ∷ codes "-d" ∷ codes "b" ∷ [])
    (codes "store") ≡ Some (codes "b")
unfolding clap_on_literals
setup_store = refl

pub setup_alone_lacks : lacks (form_named (codes "setup" ∷ [])) (codes "setup" ∷ []) ≡ true
unfolding clap_on_literals register_app report_app
setup_alone_lacks = refl

pub setup_of_a_setup : refusals (codes "setup" ∷ codes "--setup=a" ∷ []) ≡ UnknownArgument ∷ []
unfolding clap_on_literals register_app report_app
setup_of_a_setup = refl
