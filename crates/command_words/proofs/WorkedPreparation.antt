-- The words of the commands that prepare lines or check files, computed on worked words.
use Rattle.std.specs.Prelude.{◌≡◌, ◌∷◌, ◌++◌, [], List, None, Some, codes, false, refl, true}
use Rattle.clap.specs.Words.{Text}
use Rattle.clap.proofs.OnLiterals.{clap_on_literals}
use Rattle.command_words.specs.Commands.{audit, check_files, gap, lines, register_app, report_app}
use Rattle.command_words.specs.Commands.{resend}
use Rattle.command_words.specs.Completion.{completed}
use Rattle.command_words.specs.Needs.{missing_values}
use Rattle.command_words.specs.Words.{form_named, is_given, lacks, refusals, value}

-- lines --setup a --station REG --first 7 moves.csv
abbrev table_words : List Text
table_words = codes "lines" ∷ codes "--setup=a" ∷ codes "--station" ∷ codes "REG"
    ∷ codes "--first=7" ∷ codes "moves.csv" ∷ []

pub lines_named : form_named table_words ≡ Some lines
unfolding register_app report_app
lines_named = refl

pub lines_table : value lines.app table_words (codes "table") ≡ Some (codes "moves.csv")
unfolding clap_on_literals register_app report_app
lines_table = refl

pub lines_first : value lines.app table_words (codes "first") ≡ Some (codes "7")
unfolding clap_on_literals register_app report_app
lines_first = refl

pub lines_without_store : value lines.app table_words (codes "store") ≡ None
unfolding clap_on_literals register_app report_app
lines_without_store = refl

pub lines_has_all : lacks (form_named table_words) table_words ≡ false
unfolding clap_on_literals register_app report_app
lines_has_all = refl

pub lines_lenient : is_given lines.app table_words (codes "strict") ≡ false
unfolding clap_on_literals register_app report_app
lines_lenient = refl

pub lines_strict : is_given lines.app (table_words ++ codes "--strict" ∷ []) (codes "strict") ≡ true
unfolding clap_on_literals register_app report_app
lines_strict = refl

-- the table may be standard input
pub lines_of_input : value lines.app (codes "lines" ∷ codes "-" ∷ []) (codes "table")
    ≡ Some (codes "-")
unfolding clap_on_literals register_app report_app
lines_of_input = refl

pub lines_missing : missing_values (codes "lines" ∷ [])
    ≡ codes "setup" ∷ codes "station" ∷ codes "table" ∷ []
unfolding clap_on_literals register_app report_app
lines_missing = refl

-- check alone is taken, and neither a setup nor a store is filled in
abbrev check_alone : List Text
check_alone = codes "check" ∷ []

pub check_taken : refusals check_alone ≡ []
unfolding clap_on_literals register_app report_app
check_taken = refl

pub check_lacks_nothing : lacks (form_named check_alone) check_alone ≡ false
unfolding clap_on_literals register_app report_app
check_lacks_nothing = refl

pub check_not_filled : completed check_alone (Some (codes "m.csv")) (Some (codes "m.db"))
    ≡ check_alone
unfolding register_app report_app
check_not_filled = refl

pub check_setup : value check_files.app (codes "check" ∷ codes "-s" ∷ codes "a" ∷ [])
    (codes "setup") ≡ Some (codes "a")
unfolding clap_on_literals register_app report_app
check_setup = refl

-- lines gets both
pub lines_filled : completed (codes "lines" ∷ codes "moves.csv" ∷ []) (Some (codes "m.csv"))
    (Some (codes "m.db"))
    ≡ codes "lines" ∷ codes "--setup" ∷ codes "m.csv" ∷ codes "--store" ∷ codes "m.db"
    ∷ codes "moves.csv" ∷ []
unfolding register_app report_app
lines_filled = refl

-- gap --store b --by Ann: the setup and the station are missing
abbrev gap_words : List Text
gap_words = codes "gap" ∷ codes "--store=b" ∷ codes "--by" ∷ codes "Ann" ∷ []

pub gap_name : value gap.app gap_words (codes "by") ≡ Some (codes "Ann")
unfolding clap_on_literals register_app report_app
gap_name = refl

pub gap_missing : missing_values gap_words ≡ codes "setup" ∷ codes "station" ∷ []
unfolding clap_on_literals register_app report_app
gap_missing = refl

-- resend gal.jsonl
pub resend_file : value resend.app (codes "resend" ∷ codes "gal.jsonl" ∷ []) (codes "file")
    ≡ Some (codes "gal.jsonl")
unfolding clap_on_literals register_app report_app
resend_file = refl

-- audit --setup a --store b --station REG --day 2024-06-01 --sealed shelves.csv
abbrev audit_words : List Text
audit_words = codes "audit" ∷ codes "--setup=a" ∷ codes "--store=b" ∷ codes "--station=REG"
    ∷ codes "--day=2024-06-01" ∷ codes "--sealed" ∷ codes "shelves.csv" ∷ []

pub audit_list : value audit.app audit_words (codes "list") ≡ Some (codes "shelves.csv")
unfolding clap_on_literals register_app report_app
audit_list = refl

pub audit_sealed : is_given audit.app audit_words (codes "sealed") ≡ true
unfolding clap_on_literals register_app report_app
audit_sealed = refl

pub audit_first : value audit.app audit_words (codes "first") ≡ None
unfolding clap_on_literals register_app report_app
audit_first = refl

pub audit_has_all : lacks (form_named audit_words) audit_words ≡ false
unfolding clap_on_literals register_app report_app
audit_has_all = refl
