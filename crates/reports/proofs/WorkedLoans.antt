-- The reports that list loans, computed on a small record: a loan of two objects. The first has
-- left.
use Rattle.std.specs.Prelude.{◌≡◌, ◌∷◌, [], List, None, Some, codes, false, negsuc, pos, refl}
use Rattle.std.specs.Prelude.{true}
use Rattle.std.specs.Fmt.{digits}
use Rattle.codes_core.specs.Day.{day_text}
use Rattle.posting_core.specs.declared.message.Message.TheVariants.{Agree, Authorise, Exit}
use Rattle.posting_core.specs.declared.entry.Entry.{Entry}
use Rattle.posting_core.proofs.WorkedRows.{book, gal, may, moved, run}
use Rattle.reports.specs.declared.question.Question.TheVariants as question
use Rattle.reports.specs.Cells.{json, number, text}
use Rattle.reports.specs.LoanLists.{left_words}
use Rattle.reports.specs.Reports.{plain_rows, rows}

-- The loan ends on 2024-05-31.
abbrev lent : List Entry
lent = run [] (
    (gal, moved (codes "2001.4.1") (codes "S1"))
    ∷ (
      gal,
      Agree may (pos 19874) (codes "LO2024.1") (codes "MUSEUM-X")
          (codes "2001.4.1" ∷ codes "2001.4.2" ∷ []),
    )
    ∷ (gal, Authorise (codes "Ada") (codes "LO2024.1"))
    ∷ (gal, Exit may (codes "2001.4.1") (codes "LO2024.1"))
    ∷ [])

lent-line : plain_rows (book lent)
    (question.Loans (record { on = Some (pos 19864); by = None; «open» = true }))
    ≡ (text (codes "LO2024.1") ∷ text (codes "Running") ∷ text (codes "MUSEUM-X")
    ∷ text (day_text may) ∷ text (day_text (pos 19874)) ∷ number 2 ∷ text (codes "objects,")
    ∷ number 1 ∷ text (codes "out,") ∷ number 10 ∷ text (codes "days") ∷ text (codes "left") ∷ [])
    ∷ []
lent-line = refl

lent-values : rows (book lent)
    (question.Loans (record { on = Some (pos 19864); by = Some (pos 19874); «open» = false }))
    ≡ (text (codes "LO2024.1") ∷ text (codes "Running") ∷ text (codes "MUSEUM-X")
    ∷ text (day_text may) ∷ text (day_text (pos 19874)) ∷ number 2 ∷ number 1 ∷ number 1
    ∷ number 0 ∷ text (day_text (pos 19864)) ∷ json (codes "10") ∷ text (codes "Ada") ∷ []) ∷ []
unfolding digits
lent-values = refl

-- A loan that ends a day later than asked is not listed.
lent-later : rows (book lent)
    (question.Loans (record { on = None; by = Some (pos 19873); «open» = false })) ≡ []
lent-later = refl

one_day_over : left_words (Some (negsuc 0))
    ≡ number 1 ∷ text (codes "day") ∷ text (codes "over") ∷ []
one_day_over = refl

last_day : left_words (Some (pos 0)) ≡ number 0 ∷ text (codes "days") ∷ text (codes "left") ∷ []
last_day = refl

-- The object that left is due on the last day, and not before.
lent-due : rows (book lent) (question.Dues (pos 19874))
    ≡ (text (codes "LO2024.1") ∷ text (codes "2001.4.1") ∷ text (day_text (pos 19874))
    ∷ text (codes "Away") ∷ text (codes "MUSEUM-X") ∷ []) ∷ []
lent-due = refl

lent-not_due : rows (book lent) (question.Dues (pos 19873)) ≡ []
lent-not_due = refl
