-- The definitions of a trial, computed on worked rows.
use Rattle.std.specs.Fmt.{digits}
use Rattle.std.specs.Prelude.{◌≡◌, [], ◌∷◌, ℕ, List, codes, map, refl}
use Rattle.posting_core.specs.declared.message.Message.{Message}
use Rattle.posting_core.specs.declared.message.Message.TheVariants.{Pack, SignOff}
use Rattle.posting_core.specs.declared.verdict.Verdict.TheVariants.{Applied, UnknownPlace}
use Rattle.posting_core.specs.declared.verdict.Verdict.TheVariants.{ContainerNotHere}
use Rattle.posting_core.proofs.WorkedRows.{book, gal, may, moved, run}
use Rattle.table_core.specs.declared.row.TableLine.{TableLine}
use Rattle.line_files.specs.Notes.{note_lines, notes}
use Rattle.line_files.specs.Trials.{after_lines}

abbrev line : ℕ → Message → TableLine
line row m = record { row = row; number = 700; message = m }

-- a move, a move to an unknown place, a pack into a crate that an earlier row moved, a sign-off,
-- and a row after it
abbrev rows : List TableLine
rows =
    line 2 (moved (codes "C1") (codes "S1"))
    ∷ line 3 (moved (codes "2001.4.1") (codes "S9"))
    ∷ line 5 (Pack may (codes "2001.4.1") (codes "C1"))
    ∷ line 6 (SignOff (codes "Ada"))
    ∷ line 8 (moved (codes "2001.4.1") (codes "S2"))
    ∷ []

rows_notes : note_lines (codes "note: ") (notes (book []) gal rows) ≡ codes
    "note: row 3 would get UnknownPlace: S9 was not in the setup\nnote: row 8 can't be sent: the station has signed off\n"
unfolding digits
rows_notes = refl

-- the refused message has an entry, and row 8 has none
rows_verdicts : map (λ e. e.verdict) (after_lines (book []) gal rows).posted
    ≡ Applied ∷ Applied ∷ UnknownPlace ∷ Applied ∷ []
rows_verdicts = refl

rows_numbers : map (λ e. e.n) (after_lines (book []) gal rows).posted ≡ 4 ∷ 3 ∷ 2 ∷ 1 ∷ []
rows_numbers = refl

-- without the row that moves the crate, the pack would be refused
alone : map (λ e. e.verdict) (after_lines (book []) gal
    (line 5 (Pack may (codes "2001.4.1") (codes "C1")) ∷ [])).posted ≡ ContainerNotHere ∷ []
alone = refl

-- a table without notes
all_applied : notes (book (run [] ((gal, moved (codes "C1") (codes "S1")) ∷ []))) gal
    (line 2 (moved (codes "2001.4.1") (codes "S1"))
    ∷ line 3 (Pack may (codes "2001.4.1") (codes "C1")) ∷ []) ≡ []
all_applied = refl
