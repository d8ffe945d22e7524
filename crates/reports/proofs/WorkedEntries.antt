-- The filters of the posted entries, computed on a small record: three messages of GAL and two of
-- PACK, one of them refused.
use Rattle.std.specs.Prelude.{◌≡◌, ◌∷◌, [], List, None, Some, codes, false, refl, true}
use Rattle.posting_core.specs.declared.message.Message.TheVariants.{Agree, Authorise, Pack}
use Rattle.posting_core.specs.declared.entry.Entry.{Entry}
use Rattle.posting_core.proofs.WorkedRows.{book, gal, may, moved, pack, run}
use Rattle.reports.specs.declared.question.EntryFilter.{EntryFilter}
use Rattle.reports.specs.EntryFilters.{names_loan, names_thing, wanted}

abbrev five : List Entry
five = run [] (
    (gal, moved (codes "2001.4.1") (codes "S1"))
    ∷ (gal, moved (codes "C1") (codes "S1"))
    ∷ (pack, Pack may (codes "2001.4.1") (codes "C1"))
    ∷ (pack, Pack may (codes "2001.4.9") (codes "C1"))
    ∷ (gal, moved (codes "C1") (codes "S2"))
    ∷ [])

abbrev all : EntryFilter
all = record {
  from = 1;
  to = None;
  station = None;
  thing = None;
  loan = None;
  refused = false;
}

all-wanted : wanted (book five) all ≡ 0 ∷ 1 ∷ 2 ∷ 3 ∷ 4 ∷ []
all-wanted = refl

-- Entries 2 to 4.
some-wanted : wanted (book five) (record all { from = 2; to = Some 4 }) ≡ 1 ∷ 2 ∷ 3 ∷ []
some-wanted = refl

-- The pack of a thing that is not in the setup is refused.
refused-wanted : wanted (book five) (record all { refused = true }) ≡ 3 ∷ []
refused-wanted = refl

-- A container is named by what is packed into it, too.
crate-wanted : wanted (book five) (record all { thing = Some (codes "C1") })
    ≡ 1 ∷ 2 ∷ 3 ∷ 4 ∷ []
crate-wanted = refl

object-wanted : wanted (book five) (record all { thing = Some (codes "2001.4.1") }) ≡ 0 ∷ 2 ∷ []
object-wanted = refl

loan-wanted : wanted (book five) (record all { loan = Some (codes "LO2024.1") }) ≡ []
loan-wanted = refl

agreement-names_its_object : names_thing
    (Agree may may (codes "LO2024.1") (codes "MUSEUM-X") (codes "2001.4.1" ∷ [])) (codes "2001.4.1")
    ≡ true
agreement-names_its_object = refl

authorisation-names_its_loan : names_loan (Authorise (codes "Ada") (codes "LO2024.1"))
    (codes "LO2024.1") ≡ true
authorisation-names_its_loan = refl
