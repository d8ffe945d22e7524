-- A count whose containers count as sealed, computed on worked rows.
use Rattle.std.specs.Prelude.{ℕ, ◌≡◌, true, false, List, [], ◌∷◌, Some, None, map, refl, codes}
use Rattle.posting_core.specs.declared.message.Message.TheVariants.{Pack}
use Rattle.posting_core.specs.Book.{Book, chain_in}
use Rattle.posting_core.proofs.WorkedRows.{pack, gal, s1, s1_a, crate_1, crate_2}
use Rattle.posting_core.proofs.WorkedRows.{object_1, object_2, object_3, may, moved, run, book}
use Rattle.count_core.specs.declared.count_row.CountRow.{CountRow}
use Rattle.count_core.specs.declared.answer.MissingObject.{MissingObject}
use Rattle.count_core.specs.declared.answer.CountAnswer.TheVariants.{Again, Elsewhere, Found}
use Rattle.count_core.specs.declared.answer.CountAnswer.TheVariants.{Counted}
use Rattle.count_core.specs.Counts.{answers}
use Rattle.count_core.specs.Sealed.{is_in_flagged, missing_sealed, missing_unless_sealed}

-- on the shelf S1-A the crate C1, which has an object and the crate C2 in it, which has an object,
-- too; and a third object beside them
abbrev packed : Book
packed = book (run [] (
    (pack, moved (codes "C1") (codes "S1-A"))
    ∷ (pack, moved (codes "C2") (codes "S1-A"))
    ∷ (pack, moved (codes "2001.4.1") (codes "S1-A"))
    ∷ (pack, moved (codes "2001.4.2") (codes "S1-A"))
    ∷ (pack, Pack may (codes "C2") (codes "C1"))
    ∷ (pack, Pack may (codes "2001.4.1") (codes "C2"))
    ∷ (pack, Pack may (codes "2001.4.2") (codes "C1"))
    ∷ (gal, moved (codes "2001.4.3") (codes "S1-A"))
    ∷ []))

abbrev row : List ℕ → List ℕ → CountRow
row place object = record { place = place; object = Some object }

abbrev counted_alone : List ℕ → CountRow
counted_alone place = record { place = place; object = None }

abbrev from_s1 : ℕ → MissingObject
from_s1 x = record { place = s1; object = x }

packed-chains : map (chain_in packed) (object_1 ∷ object_2 ∷ object_3 ∷ [])
    ≡ (crate_2 ∷ crate_1 ∷ []) ∷ (crate_1 ∷ []) ∷ [] ∷ []
packed-chains = refl

-- the outer crate is seen, and no object

abbrev outer_seen : List CountRow
outer_seen = row (codes "S1") (codes "C1") ∷ []

outer_seen-open : missing_unless_sealed packed false outer_seen
    ≡ from_s1 object_1 ∷ from_s1 object_2 ∷ from_s1 object_3 ∷ []
outer_seen-open = refl

-- sealed, it vouches for what is in it, at any depth, and not for what is beside it
outer_seen-sealed : missing_unless_sealed packed true outer_seen ≡ from_s1 object_3 ∷ []
outer_seen-sealed = refl

-- the inner crate vouches for the object in it alone
inner_seen-sealed : missing_sealed packed (row (codes "S1") (codes "C2") ∷ [])
    ≡ from_s1 object_2 ∷ from_s1 object_3 ∷ []
inner_seen-sealed = refl

-- a crate that the record has elsewhere doesn't vouch, nor does one at an unknown place

abbrev seen_elsewhere : List CountRow
seen_elsewhere = row (codes "S2") (codes "C1") ∷ counted_alone (codes "S1") ∷ []

seen_elsewhere-answers : answers packed seen_elsewhere ≡ Elsewhere s1_a ∷ Counted ∷ []
seen_elsewhere-answers = refl

seen_elsewhere-sealed : missing_sealed packed seen_elsewhere
    ≡ from_s1 object_1 ∷ from_s1 object_2 ∷ from_s1 object_3 ∷ []
seen_elsewhere-sealed = refl

seen_elsewhere-unknown : missing_sealed packed
    (row (codes "S9") (codes "C1") ∷ counted_alone (codes "S1") ∷ [])
    ≡ from_s1 object_1 ∷ from_s1 object_2 ∷ from_s1 object_3 ∷ []
seen_elsewhere-unknown = refl

-- a crate that is seen twice vouches if one of the rows has its place

abbrev seen_twice : List CountRow
seen_twice = row (codes "S2") (codes "C1") ∷ row (codes "S1") (codes "C1") ∷ []

seen_twice-answers : answers packed seen_twice ≡ Elsewhere s1_a ∷ Again ∷ []
seen_twice-answers = refl

seen_twice-sealed : missing_sealed packed seen_twice ≡ from_s1 object_3 ∷ []
seen_twice-sealed = refl

-- an object that is seen vouches for nothing
object_seen-sealed : missing_sealed packed (row (codes "S1") (codes "2001.4.3") ∷ [])
    ≡ from_s1 object_1 ∷ from_s1 object_2 ∷ []
object_seen-sealed = refl

-- a flag for the inner crate, and one for an object
packed-flagged : map (is_in_flagged packed (false ∷ true ∷ false ∷ false ∷ true ∷ false ∷ []))
    (object_1 ∷ object_2 ∷ object_3 ∷ []) ≡ true ∷ false ∷ false ∷ []
packed-flagged = refl
