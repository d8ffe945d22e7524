-- Audits of count lists, computed on worked rows.
use Rattle.std.specs.Prelude.{◌≡◌, ◌++◌, true, false, List, ℕ, [], ◌∷◌, Some, None, map, refl}
use Rattle.std.specs.Prelude.{codes}
use Rattle.std.proofs.Common.{append-nil}
use Rattle.posting_core.specs.declared.message.Message.TheVariants.{Pack, Move}
use Rattle.posting_core.specs.Book.{Book}
use Rattle.posting_core.proofs.WorkedRows.{pack, gal, may, moved, run, book}
use Rattle.count_core.specs.declared.count_row.CountRow.{CountRow}
use Rattle.register_store.specs.SentLines.{sent_line}
use Rattle.line_files.specs.declared.audits.auditing.AuditOptions.{AuditOptions}
use Rattle.line_files.specs.AuditLines.{audit_lines, has_numbers, moves}
use Rattle.line_files.specs.AuditNotes.{audit_notes}

-- on the shelf S1-A the crate C1 with an object in it, and two objects beside it
abbrev packed : Book
packed = book (run [] (
    (pack, moved (codes "C1") (codes "S1-A"))
    ∷ (pack, moved (codes "2001.4.1") (codes "S1-A"))
    ∷ (pack, moved (codes "2001.4.2") (codes "S1-A"))
    ∷ (pack, moved (codes "2001.4.3") (codes "S1-A"))
    ∷ (pack, Pack may (codes "2001.4.2") (codes "C1"))
    ∷ []))

abbrev row : List ℕ → List ℕ → CountRow
row place object = record { place = place; object = Some object }

abbrev counted_alone : List ℕ → CountRow
counted_alone place = record { place = place; object = None }

abbrev options : AuditOptions
options = record { station = gal; day = may; first = 6; sealed = false }

-- two objects are seen at S2, and the third nowhere

abbrev two_seen : List CountRow
two_seen =
    row (codes "S2") (codes "2001.4.1") ∷ row (codes "S2") (codes "2001.4.2")
    ∷ counted_alone (codes "S1") ∷ []

-- the one that lies beside the crate is moved to where it was seen
two_seen-moves : moves packed may two_seen ≡ Move may (codes "2001.4.1") (codes "S2") ∷ []
two_seen-moves = refl

two_seen-lines : audit_lines packed options two_seen
    ≡ sent_line (codes "GAL") 6 (Move may (codes "2001.4.1") (codes "S2")) ++ codes "\n"
two_seen-lines =
    append-nil (sent_line (codes "GAL") 6 (Move may (codes "2001.4.1") (codes "S2")) ++ codes "\n")

-- the one in the crate is a note
two_seen-notes : audit_notes packed false two_seen ≡ codes
    "note: 2001.4.2 was seen at S2 but lies in C1 on record: move it yourself if it was taken out\nmissing: 2001.4.3 at S1-A on record\n"
two_seen-notes = refl

-- a crate is seen where the record has it, and no other thing is seen

abbrev crate_seen : List CountRow
crate_seen = row (codes "S1") (codes "C1") ∷ []

crate_seen-open : audit_notes packed false crate_seen ≡ codes
    "missing: 2001.4.1 at S1-A on record\nmissing: 2001.4.2 in C1 at S1-A on record\nmissing: 2001.4.3 at S1-A on record\n"
crate_seen-open = refl

-- sealed, it vouches for the object in it
crate_seen-sealed : audit_notes packed true crate_seen
    ≡ codes "missing: 2001.4.1 at S1-A on record\nmissing: 2001.4.3 at S1-A on record\n"
crate_seen-sealed = refl

crate_seen-moves : moves packed may crate_seen ≡ []
crate_seen-moves = refl

-- a crate that was seen elsewhere is moved; an object that was seen in it is a note
crate_moved : moves packed may
    (row (codes "S2") (codes "2001.4.2") ∷ row (codes "S2") (codes "C1") ∷ [])
    ≡ Move may (codes "C1") (codes "S2") ∷ []
crate_moved = refl

-- unknown things and places, a second row of a thing, and a thing that was never placed have no
-- move
others : moves packed may (
    row (codes "S9") (codes "2001.4.3") ∷ row (codes "S1") (codes "2009.1")
    ∷ row (codes "S2") (codes "C2") ∷ row (codes "S2") (codes "2001.4.1")
    ∷ row (codes "S2") (codes "2001.4.1") ∷ []) ≡ Move may (codes "2001.4.1") (codes "S2") ∷ []
others = refl

others-notes : audit_notes packed true (
    row (codes "S9") (codes "2001.4.3") ∷ row (codes "S1") (codes "2009.1")
    ∷ row (codes "S2") (codes "C2") ∷ row (codes "S2") (codes "2001.4.1")
    ∷ row (codes "S2") (codes "2001.4.1") ∷ row (codes "S1") (codes "C1")
    ∷ counted_alone (codes "S9") ∷ []) ≡ codes
    "note: 2001.4.3 was seen at S9, which is not in the setup\nnote: 2009.1 was seen at S1 but is not in the setup: add it there first\nnote: C2 was seen at S2 but has no place on record: move it there yourself\nnote: 2001.4.1 was seen at S2, too: its first row counts\nnote: the list names S9, which is not in the setup\n"
others-notes = refl

-- the numbers of lines

last_number : has_numbers 999999 1 ≡ true
last_number = refl

past_the_last : has_numbers 999999 2 ≡ false
past_the_last = refl

number_nought : has_numbers 0 1 ≡ false
number_nought = refl

no_lines : map (λ first. has_numbers first 0) (0 ∷ 1000000 ∷ []) ≡ true ∷ true ∷ []
no_lines = refl
