-- The tables computed on a small record: a loan of two objects, until 2024-05-31. The first object
-- has left.
use Rattle.std.specs.Prelude.{◌≡◌, ◌++◌, ◌∷◌, [], List, None, Some, codes, map, pos, refl, true}
use Rattle.std.specs.Prelude.{false}
use Rattle.std.specs.Fmt.{digits}
use Rattle.codes_core.specs.Day.{day_text}
use Rattle.posting_core.specs.declared.message.Message.TheVariants.{Agree, Authorise, Exit}
use Rattle.posting_core.specs.declared.message.Message.TheVariants.{Return}
use Rattle.posting_core.specs.declared.entry.Entry.{Entry}
use Rattle.posting_core.proofs.WorkedRows.{book, gal, may, moved, run}
use Rattle.page_core.specs.Pieces.{Piece, page_text}
use Rattle.reports.specs.Cells.{Cell, nothing, number, text}
use Rattle.page_core.specs.Away.{away_rows}
use Rattle.page_core.specs.Entries.{entry_row, entry_rows}
use Rattle.page_core.specs.LoanObjects.{object_rows}
use Rattle.page_core.specs.Loans.{loan_rows}
use Rattle.page_core.specs.Numbers.{open_loans}
use Rattle.page_core.specs.Stations.{next_cell, station_rows}
use Rattle.page_core.specs.Values.{values_row}

abbrev lent : List Entry
lent = run [] (
    (gal, moved (codes "2001.4.1") (codes "S1"))
    ∷ (
      gal,
      Agree may (pos 19874) (codes "LO2024.1") (codes "MUSEUM-X")
          (codes "2001.4.1" ∷ codes "2001.4.2" ∷ []),
    )
    ∷ (gal, Authorise (codes "Ada") (codes "LO2024.1"))
    ∷ (gal, Exit may (codes "2001.4.1") (codes "LO2024.1"))
    ∷ [])

-- the row of the loan, with this last cell
abbrev lent_row : Cell → List Piece
lent_row last = values_row (
    text (codes "LO2024.1") ∷ text (codes "Running") ∷ text (codes "MUSEUM-X")
    ∷ text (day_text may) ∷ text (day_text (pos 19874)) ∷ number 2 ∷ number 1 ∷ last ∷ [])

lent-overdue : loan_rows (book lent) (Some (pos 19875))
    ≡ lent_row (text (codes "overdue")) ∷ []
lent-overdue = refl

-- a loan is in time on its last day
lent-in_time : loan_rows (book lent) (Some (pos 19874)) ≡ lent_row nothing ∷ []
lent-in_time = refl

lent-without_a_day : loan_rows (book lent) None ≡ lent_row nothing ∷ []
lent-without_a_day = refl

lent-objects : map page_text (object_rows (book lent))
    ≡ (codes "<tr><td>LO2024.1</td><td>2001.4.1</td><td>Away</td></tr>\n"
    ++ codes "<tr><td>LO2024.1</td><td>2001.4.2</td><td>Awaiting</td></tr>\n") ∷ []
lent-objects = refl

lent-open : open_loans (book lent) ≡ 1
lent-open = refl

lent-away : map page_text (away_rows (book lent))
    ≡ codes "<tr><td>2001.4.1</td><td>MUSEUM-X</td><td>S1-A</td></tr>\n"
    ∷ codes "<tr><td>2001.4.2</td><td></td><td>S1-A</td></tr>\n"
    ∷ codes "<tr><td>2001.4.3</td><td></td><td>S1-A</td></tr>\n" ∷ []
lent-away = refl

lent-stations : map page_text (station_rows (book lent))
    ≡ codes "<tr><td>PACK</td><td>1</td></tr>\n"
    ∷ codes "<tr><td>GAL</td><td>5</td></tr>\n" ∷ []
unfolding digits
lent-stations = refl

signed_off : next_cell None true ≡ text (codes "signed off")
signed_off = refl

full : next_cell None false ≡ text (codes "full")
full = refl

-- the newest entry comes first
lent-entries : map page_text (entry_rows (book lent))
    ≡ (codes "<tr><td>4</td><td>GAL</td><td>4</td><td>Applied</td>"
    ++ codes "<td>2001.4.1 went to MUSEUM-X</td></tr>\n")
    ∷ codes "<tr><td>3</td><td>GAL</td><td>3</td><td>Applied</td><td></td></tr>\n"
    ∷ codes "<tr><td>2</td><td>GAL</td><td>2</td><td>Applied</td><td></td></tr>\n"
    ∷ (codes "<tr><td>1</td><td>GAL</td><td>1</td><td>Applied</td>"
    ++ codes "<td>2001.4.1 went to S1</td></tr>\n") ∷ []
unfolding digits
lent-entries = refl

-- the object is moved while it is away, and then comes back: the cause is by the record before the
-- move
abbrev returned : List Entry
returned = run lent (
    (gal, moved (codes "2001.4.1") (codes "S1"))
    ∷ (gal, Return may (codes "2001.4.1") (codes "LO2024.1") (codes "S1"))
    ∷ [])

returned-cause : page_text (entry_row (book returned) 4)
    ≡ codes "<tr><td>5</td><td>GAL</td><td>5</td><td>NotHere</td>"
    ++ codes "<td>2001.4.1 is at MUSEUM-X</td></tr>\n"
unfolding digits
returned-cause = refl
