-- Defines the report that the words of a line at a desk ask for.
use Rattle.std.specs.Prelude.{◌≡◌, ◌∷◌, ◌++◌, ◌&&◌, [], Bool, Box, Err, List, Ok, Option, None}
use Rattle.std.specs.Prelude.{Result}
use Rattle.std.specs.Prelude.{Some, codes, drop, false, if◌then◌else◌, is_some, not, take, true}
use Rattle.std.specs.declared.alloc.Global.{Global}
use Rattle.clap.specs.Words.{Text}
use Rattle.command_words.specs.Words.{Chooses, form_named}
use Rattle.command_words.specs.declared.command.Asked.{Asked}
use Rattle.command_words.specs.declared.command.Asked.TheVariants as asked
use Rattle.command_words.specs.declared.command.Chosen.{Chosen}
use Rattle.command_words.specs.declared.command.Chosen.TheVariants as command
use Rattle.command_words.specs.declared.command.Format.{Format}
use Rattle.command_words.specs.declared.command.Format.TheVariants.{Lines}
use Rattle.command_words.specs.declared.command.Report.{Report}
use Rattle.command_words.specs.declared.command.WordsFault.{WordsFault}
use Rattle.command_words.specs.declared.command.WordsFault.TheVariants.{NoMemory}

-- The words of a report as a command line: with a setup and a store after the command's name.
abbrev pub desk_line : List Text → List Text
desk_line words =
    take 1 words ++ (codes "--setup=desk" ∷ codes "--store=desk" ∷ drop 1 words)

abbrev pub is_lines : Format → Bool
is_lines Lines = true
is_lines _ = false

-- The report prints plain lines about the whole record.
abbrev pub is_plain : Report → Bool
is_plain report = is_lines report.format && not (is_some report.upto)

-- The question is that of a count list, which a desk doesn't read.
abbrev pub is_count : Asked → Bool
is_count (asked.Count list sealed) = true
is_count _ = false

-- The question of a command that a desk can answer: that of a plain report other than `count`.
abbrev pub desk_question : Chosen → Option Asked
desk_question (command.Report report question) =
    if is_plain report && not (is_count question) then Some question else None
desk_question _ = None

-- The question of a command line, or none after a usage error.
abbrev pub IsQuestionOf : Result (Box Chosen Global) WordsFault → Option Asked → Type 0
IsQuestionOf (Ok chosen) question = question ≡ desk_question chosen.value
IsQuestionOf (Err NoMemory) question = ⊥
IsQuestionOf (Err fault) question = question ≡ None

-- The question is that of the command that the words choose. It is none if they choose none.
abbrev pub IsAskedBy : List Text → Option Asked → Type 0
IsAskedBy words question = (told : Result (Box Chosen Global) WordsFault)
    × (Chooses (form_named words) words told × IsQuestionOf told question)
