-- Defines the printed text of a comparison.
use Rattle.std.specs.Prelude.{ℕ, ◌==◌, ◌++◌, Bool, true, false, List, [], flat_map, codes}
use Rattle.std.specs.Prelude.{decimal, if◌then◌else◌}
use Rattle.std.specs.List.{list_all, list_any}
use Rattle.posting_core.specs.Book.{Book}
use Rattle.register_store.specs.MessageText.{body_of}
use Rattle.line_files.specs.declared.line_fault.LineFault.{LineFault}
use Rattle.line_files.specs.declared.line_fault.LineFault.TheVariants.{TooLong, Unread}
use Rattle.line_files.specs.declared.line_fault.LineFault.TheVariants.{UnknownStation, OtherStation}
use Rattle.line_files.specs.declared.line_fault.LineFault.TheVariants.{Question, BadNumber}
use Rattle.line_files.specs.declared.line_fault.LineFault.TheVariants.{SignedOff}
use Rattle.line_files.specs.declared.standing.Compared.{Compared}
use Rattle.line_files.specs.declared.standing.Standing.{Standing}
use Rattle.line_files.specs.declared.standing.Standing.TheVariants.{Same, Other, Next, Waits, Bad}
use Rattle.line_files.specs.Readings.{fault_text}
use Rattle.line_files.specs.Standings.{standings}

-- 8, or 8 to 11.
abbrev pub range_text : ℕ → ℕ → List ℕ
range_text from to =
    if from == to then decimal from else decimal from ++ codes " to " ++ decimal to

abbrev pub standing_text : Standing → List ℕ
standing_text Same = codes "same"
standing_text (Other known) = codes "other " ++ body_of known
standing_text Next = codes "next"
standing_text (Waits from to) = codes "waits for " ++ range_text from to
standing_text (Bad fault) = codes "bad " ++ fault_text fault

-- 12 waits for 8 to 11.
abbrev pub row_text : Compared → List ℕ
row_text c = decimal c.row ++ codes " " ++ standing_text c.standing ++ codes "\n"

abbrev pub resend_text : Book → ℕ → List ℕ → List ℕ
resend_text B s bytes = flat_map row_text (standings B s bytes)

-- The message is posted, or is if the file is sent.
abbrev pub is_fine : Standing → Bool
is_fine Same = true
is_fine (Other known) = false
is_fine Next = true
is_fine (Waits from to) = false
is_fine (Bad fault) = false

abbrev pub are_fine : Book → ℕ → List ℕ → Bool
are_fine B s bytes = list_all (λ c. is_fine c.standing) (standings B s bytes)

abbrev pub is_others : LineFault → Bool
is_others OtherStation = true
is_others TooLong = false
is_others (Unread fault) = false
is_others UnknownStation = false
is_others Question = false
is_others BadNumber = false
is_others SignedOff = false

-- The line is another station's.
abbrev pub is_other_station : Standing → Bool
is_other_station (Bad fault) = is_others fault
is_other_station Same = false
is_other_station (Other known) = false
is_other_station Next = false
is_other_station (Waits from to) = false

abbrev pub resend_help_on : List Compared → List ℕ
resend_help_on rows =
    if list_any (λ c. is_other_station c.standing) rows
    then codes "help: a line is of another station: --station is the one that sent the file\n"
    else []

-- The `help:` line of a comparison, if a line of the file is another station's.
abbrev pub resend_help : Book → ℕ → List ℕ → List ℕ
resend_help B s bytes = resend_help_on (standings B s bytes)
