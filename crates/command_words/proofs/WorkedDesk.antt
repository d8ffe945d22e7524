-- The words of a desk, and of a report at a desk, computed on worked words.
use Rattle.std.specs.Prelude.{◌≡◌, ◌∷◌, ◌++◌, [], List, None, Some, codes, false, refl, true}
use Rattle.clap.specs.Words.{Text}
use Rattle.clap.proofs.OnLiterals.{clap_on_literals}
use Rattle.clap.specs.declared.error.kind.ErrorKind.TheVariants.{ArgumentConflict}
use Rattle.command_words.specs.Commands.{desk, overdue, register_app, report_app, where_is}
use Rattle.command_words.specs.Desk.{desk_line}
use Rattle.command_words.specs.Needs.{missing_values}
use Rattle.command_words.specs.Words.{form_named, is_given, lacks, refusals, value}

-- desk --setup a --store b --station PACK
abbrev desk_words : List Text
desk_words = codes "desk" ∷ codes "--setup=a" ∷ codes "--store=b" ∷ codes "--station"
    ∷ codes "PACK" ∷ []

pub desk_named : form_named desk_words ≡ Some desk
unfolding register_app report_app
desk_named = refl

pub desk_station : value desk.app desk_words (codes "station") ≡ Some (codes "PACK")
unfolding clap_on_literals register_app report_app
desk_station = refl

pub desk_has_all : lacks (form_named desk_words) desk_words ≡ false
unfolding clap_on_literals register_app report_app
desk_has_all = refl

pub no_day : value desk.app desk_words (codes "day") ≡ None
unfolding clap_on_literals register_app report_app
no_day = refl

pub no_bell : is_given desk.app desk_words (codes "bell") ≡ false
unfolding clap_on_literals register_app report_app
no_bell = refl

-- with a day and the bell
abbrev day_words : List Text
day_words = desk_words ++ codes "--day" ∷ codes "2024-05-01" ∷ codes "--bell" ∷ []

pub desk_day : value desk.app day_words (codes "day") ≡ Some (codes "2024-05-01")
unfolding clap_on_literals register_app report_app
desk_day = refl

pub desk_bell : is_given desk.app day_words (codes "bell") ≡ true
unfolding clap_on_literals register_app report_app
desk_bell = refl

-- with the files of a log and of labels
abbrev files_words : List Text
files_words = desk_words ++ codes "--log=pack.jsonl" ∷ codes "--labels=labels.csv" ∷ []

pub desk_log : value desk.app files_words (codes "log") ≡ Some (codes "pack.jsonl")
unfolding clap_on_literals register_app report_app
desk_log = refl

pub desk_labels : value desk.app files_words (codes "labels") ≡ Some (codes "labels.csv")
unfolding clap_on_literals register_app report_app
desk_labels = refl

-- desk alone lacks all three values, and the cards need none
abbrev cards_words : List Text
cards_words = codes "desk" ∷ codes "--cards" ∷ []

pub alone_missing : missing_values (codes "desk" ∷ [])
    ≡ codes "setup" ∷ codes "store" ∷ codes "station" ∷ []
unfolding clap_on_literals register_app report_app
alone_missing = refl

pub cards_taken : refusals cards_words ≡ []
unfolding clap_on_literals register_app report_app
cards_taken = refl

pub cards_have_all : lacks (form_named cards_words) cards_words ≡ false
unfolding clap_on_literals register_app report_app
cards_have_all = refl

pub cards_missing : missing_values cards_words ≡ []
unfolding clap_on_literals register_app report_app
cards_missing = refl

-- at a desk: where C1, and overdue --on 2024-05-31
abbrev where_line : List Text
where_line = desk_line (codes "where" ∷ codes "C1" ∷ [])

pub where_is_line : where_line
    ≡ codes "where" ∷ codes "--setup=desk" ∷ codes "--store=desk" ∷ codes "C1" ∷ []
where_is_line = refl

pub where_code : value where_is.app where_line (codes "code") ≡ Some (codes "C1")
unfolding clap_on_literals register_app report_app
where_code = refl

pub where_has_all : lacks (form_named where_line) where_line ≡ false
unfolding clap_on_literals register_app report_app
where_has_all = refl

pub overdue_day : value overdue.app
    (desk_line (codes "overdue" ∷ codes "--on" ∷ codes "2024-05-31" ∷ [])) (codes "on")
    ≡ Some (codes "2024-05-31")
unfolding clap_on_literals register_app report_app
overdue_day = refl

-- another store can't be named
pub other_store : refusals (desk_line (codes "where" ∷ codes "--store=b" ∷ codes "C1" ∷ []))
    ≡ ArgumentConflict ∷ []
unfolding clap_on_literals register_app report_app
other_store = refl
