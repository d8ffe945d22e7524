-- The words of the commands that seal a record, computed on worked words.
use Rattle.std.specs.Prelude.{◌≡◌, ◌∷◌, [], List, None, Some, codes, false, refl, true}
use Rattle.clap.specs.Words.{Text}
use Rattle.clap.proofs.OnLiterals.{clap_on_literals}
use Rattle.command_words.specs.Commands.{receipt, register_app, report_app, seal}
use Rattle.command_words.specs.Completion.{completed}
use Rattle.command_words.specs.Needs.{missing_values}
use Rattle.command_words.specs.Words.{form_named, lacks, refusals, value}

-- seal -s a -d b --upto 7
abbrev seal_words : List Text
seal_words = codes "seal" ∷ codes "-s" ∷ codes "a" ∷ codes "-d" ∷ codes "b" ∷ codes "--upto"
    ∷ codes "7" ∷ []

pub seal_named : form_named seal_words ≡ Some seal
unfolding register_app report_app
seal_named = refl

pub seal_upto : value seal.app seal_words (codes "upto") ≡ Some (codes "7")
unfolding clap_on_literals register_app report_app
seal_upto = refl

pub seal_checks_nothing : value seal.app seal_words (codes "check") ≡ None
unfolding clap_on_literals register_app report_app
seal_checks_nothing = refl

pub seal_has_all : lacks (form_named seal_words) seal_words ≡ false
unfolding clap_on_literals register_app report_app
seal_has_all = refl

-- a check of seals needs the record, too
pub check_needs_record : missing_values (codes "seal" ∷ codes "--check=c" ∷ [])
    ≡ codes "setup" ∷ codes "store" ∷ []
unfolding clap_on_literals register_app report_app
check_needs_record = refl

-- receipt: everything is missing
pub receipt_missing : missing_values (codes "receipt" ∷ [])
    ≡ codes "setup" ∷ codes "store" ∷ codes "entry" ∷ []
unfolding clap_on_literals register_app report_app
receipt_missing = refl

-- receipt --setup a --store b 12
abbrev receipt_words : List Text
receipt_words = codes "receipt" ∷ codes "--setup" ∷ codes "a" ∷ codes "--store" ∷ codes "b"
    ∷ codes "12" ∷ []

pub receipt_entry : value receipt.app receipt_words (codes "entry") ≡ Some (codes "12")
unfolding clap_on_literals register_app report_app
receipt_entry = refl

pub receipt_has_all : lacks (form_named receipt_words) receipt_words ≡ false
unfolding clap_on_literals register_app report_app
receipt_has_all = refl

-- receipt --check - needs no record
abbrev check_words : List Text
check_words = codes "receipt" ∷ codes "--check" ∷ codes "-" ∷ []

pub check_file : value receipt.app check_words (codes "check") ≡ Some (codes "-")
unfolding clap_on_literals register_app report_app
check_file = refl

pub check_has_all : lacks (form_named check_words) check_words ≡ false
unfolding clap_on_literals register_app report_app
check_has_all = refl

-- and is taken as well if the museum's own files are filled in
pub check_taken : refusals (completed check_words (Some (codes "a")) (Some (codes "b"))) ≡ []
unfolding clap_on_literals register_app report_app
check_taken = refl
