-- The long report on a thing's locations, computed on a small record: a crate moves with an object
-- in it, and goes out on loan. The object comes back without the crate.
use Rattle.std.specs.Prelude.{◌≡◌, ◌∷◌, [], List, codes, pos, refl}
use Rattle.codes_core.specs.Day.{day_text}
use Rattle.posting_core.specs.declared.message.Message.TheVariants.{Agree, Authorise, Exit, Pack}
use Rattle.posting_core.specs.declared.message.Message.TheVariants.{Return}
use Rattle.posting_core.specs.declared.entry.Entry.{Entry}
use Rattle.posting_core.proofs.WorkedRows.{book, gal, may, moved, pack, run}
use Rattle.reports.specs.declared.question.Question.TheVariants as question
use Rattle.reports.specs.Cells.{nothing, number, text, texts}
use Rattle.reports.specs.Reports.{plain_rows, rows}

abbrev lent : List Entry
lent = run [] (
    (gal, moved (codes "2001.4.1") (codes "S1"))
    ∷ (gal, moved (codes "C1") (codes "S1"))
    ∷ (gal, Pack may (codes "2001.4.1") (codes "C1"))
    ∷ (gal, moved (codes "C1") (codes "S2"))
    ∷ (
      gal,
      Agree may (pos 19874) (codes "LO2024.1") (codes "MUSEUM-X") (codes "2001.4.1" ∷ []),
    )
    ∷ (gal, Authorise (codes "Ada") (codes "LO2024.1"))
    ∷ (pack, Exit may (codes "C1") (codes "LO2024.1"))
    ∷ (pack, Return may (codes "2001.4.1") (codes "LO2024.1") (codes "S1"))
    ∷ [])

-- Entries 4 and 7 name the crate that the object was in. Entry 3 only packed it, at the same place.
lent-object : rows (book lent) (question.LongHistory (codes "2001.4.1"))
    ≡ (number 1 ∷ text (day_text may) ∷ text (codes "S1") ∷ texts [] ∷ nothing
    ∷ text (codes "GAL") ∷ number 1 ∷ text (codes "move") ∷ [])
    ∷ (number 4 ∷ text (day_text may) ∷ text (codes "S2") ∷ texts (codes "C1" ∷ [])
    ∷ nothing ∷ text (codes "GAL") ∷ number 4 ∷ text (codes "move") ∷ [])
    ∷ (number 7 ∷ text (day_text may) ∷ text (codes "MUSEUM-X") ∷ texts (codes "C1" ∷ [])
    ∷ text (codes "LO2024.1") ∷ text (codes "PACK") ∷ number 1 ∷ text (codes "exit") ∷ [])
    ∷ (number 8 ∷ text (day_text may) ∷ text (codes "S1") ∷ texts [] ∷ text (codes "LO2024.1")
    ∷ text (codes "PACK") ∷ number 2 ∷ text (codes "return") ∷ []) ∷ []
lent-object = refl

-- The crate itself is in nothing, and stays with the partner.
lent-crate : rows (book lent) (question.LongHistory (codes "C1"))
    ≡ (number 2 ∷ text (day_text may) ∷ text (codes "S1") ∷ texts [] ∷ nothing
    ∷ text (codes "GAL") ∷ number 2 ∷ text (codes "move") ∷ [])
    ∷ (number 4 ∷ text (day_text may) ∷ text (codes "S2") ∷ texts [] ∷ nothing
    ∷ text (codes "GAL") ∷ number 4 ∷ text (codes "move") ∷ [])
    ∷ (number 7 ∷ text (day_text may) ∷ text (codes "MUSEUM-X") ∷ texts []
    ∷ text (codes "LO2024.1") ∷ text (codes "PACK") ∷ number 1 ∷ text (codes "exit") ∷ []) ∷ []
lent-crate = refl

-- In a plain line a word goes before the containers, and a missing loan has none.
lent-words : plain_rows (book lent) (question.LongHistory (codes "2001.4.1"))
    ≡ (number 1 ∷ text (day_text may) ∷ text (codes "S1") ∷ nothing ∷ texts [] ∷ nothing
    ∷ text (codes "GAL") ∷ number 1 ∷ text (codes "move") ∷ [])
    ∷ (number 4 ∷ text (day_text may) ∷ text (codes "S2") ∷ text (codes "in")
    ∷ texts (codes "C1" ∷ []) ∷ nothing ∷ text (codes "GAL") ∷ number 4 ∷ text (codes "move") ∷ [])
    ∷ (number 7 ∷ text (day_text may) ∷ text (codes "MUSEUM-X") ∷ text (codes "in")
    ∷ texts (codes "C1" ∷ []) ∷ text (codes "LO2024.1") ∷ text (codes "PACK") ∷ number 1
    ∷ text (codes "exit") ∷ [])
    ∷ (number 8 ∷ text (day_text may) ∷ text (codes "S1") ∷ nothing ∷ texts []
    ∷ text (codes "LO2024.1") ∷ text (codes "PACK") ∷ number 2 ∷ text (codes "return") ∷ []) ∷ []
lent-words = refl

-- A thing that the setup doesn't have.
lent-unknown : rows (book lent) (question.LongHistory (codes "2009.1")) ≡ []
lent-unknown = refl
