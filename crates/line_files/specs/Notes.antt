-- Defines the notes of a trial: one on each row whose message isn't Applied.
use Rattle.std.specs.Prelude.{ℕ, ◌∷◌, ◌++◌, [], List, Option, Some, None, Result, Ok, Err, codes}
use Rattle.std.specs.Prelude.{decimal, flat_map, if◌then◌else◌}
use Rattle.std.specs.Option.{option_to_list}
use Rattle.posting_core.specs.declared.verdict.Verdict.{Verdict}
use Rattle.posting_core.specs.Book.{Book, verdict_in}
use Rattle.posting_core.specs.VerdictNames.{is_applied, verdict_name}
use Rattle.reports.specs.Causes.{sentence}
use Rattle.reports.specs.Cells.{joined_words}
use Rattle.line_files.specs.declared.gap_fault.GapFault.{GapFault}
use Rattle.line_files.specs.declared.gap_fault.GapFault.TheVariants.{SignedOff, Full, KnownLoan}
use Rattle.line_files.specs.declared.gap_fault.GapFault.TheVariants.{NoMemory}
use Rattle.line_files.specs.Gaps.{next_number}
use Rattle.table_core.specs.declared.row.TableLine.{TableLine}
use Rattle.line_files.specs.Trials.{after_message}

-- The words of a fault. Only the first two keep a station from sending.
abbrev pub gap_words : GapFault → List ℕ
gap_words SignedOff = codes "the station has signed off"
gap_words Full = codes "the station has no number left"
gap_words KnownLoan = codes "loan LO0000.1 was agreed"
gap_words NoMemory = codes "out of memory"

-- row 8 can't be sent: the station has signed off
abbrev pub unsent : ℕ → GapFault → List ℕ
unsent row fault = codes "row " ++ decimal row ++ codes " can't be sent: " ++ gap_words fault

-- The sentence behind a colon, unless it is empty.
abbrev pub after_colon : List ℕ → List ℕ
after_colon [] = []
after_colon (b ∷ bs) = codes ": " ++ b ∷ bs

-- row 4 would get NotListed: 1987.12.3 in C2 is not on LO2024.2
abbrev pub refusal : Book → TableLine → Verdict → List ℕ
refusal B line v =
    codes "row " ++ decimal line.row ++ codes " would get " ++ verdict_name v
    ++ after_colon (joined_words (sentence B line.message v))

-- The note on a row that is judged over record B.
abbrev pub verdict_note : Book → TableLine → Option (List ℕ)
verdict_note B line =
    if is_applied (verdict_in B line.message) then None
    else Some (refusal B line (verdict_in B line.message))

-- The note on a row that is sent under this number, or that can't be sent.
abbrev pub note_under : Book → TableLine → Result ℕ GapFault → Option (List ℕ)
note_under B line (Ok n) = verdict_note B line
note_under B line (Err fault) = Some (unsent line.row fault)

-- The note on a row that station s sends under its next number.
abbrev pub row_note : Book → ℕ → TableLine → Option (List ℕ)
row_note B s line = note_under B line (next_number B s)

-- The notes on rows. Each is on the record after the rows before it.
abbrev pub notes : Book → ℕ → List TableLine → List (List ℕ)
notes B s [] = []
notes B s (line ∷ lines) =
    option_to_list (row_note B s line) ++ notes (after_message B s line.message) s lines

-- A line for each note, behind the prefix.
abbrev pub note_lines : List ℕ → List (List ℕ) → List ℕ
note_lines prefix notes = flat_map (λ note. prefix ++ note ++ 10 ∷ []) notes
