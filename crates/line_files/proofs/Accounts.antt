-- Each row of a count list is accounted for.
use Rattle.std.specs.Prelude.{ℕ, ◌≡◌, List, Some, option_map, refl, slice_get}
use Rattle.std.proofs.Common.{ap}
use Rattle.posting_core.specs.Book.{Book}
use Rattle.count_core.specs.declared.answer.CountAnswer.{CountAnswer}
use Rattle.count_core.specs.declared.answer.CountAnswer.TheVariants.{UnknownPlace, Counted}
use Rattle.count_core.specs.declared.answer.CountAnswer.TheVariants.{UnknownObject, Again, Unplaced}
use Rattle.count_core.specs.declared.answer.CountAnswer.TheVariants.{Found, Elsewhere}
use Rattle.count_core.specs.declared.count_row.CountRow.{CountRow}
use Rattle.count_core.specs.Counts.{answers}
use Rattle.line_files.specs.Sightings.{answered, seen_by, sighting_of, unmoved_of}
use Rattle.line_files.specs.SeenMoves.{IsAccountedFor, IsUnmoved}
use Rattle.line_files.proofs.Answered.{comes_of}

module _ (B : Book) (rows : List CountRow) (i : ℕ) (row : CountRow)
    (at : slice_get rows i ≡ Some row) where
  noted : (a : CountAnswer) → slice_get (answers B rows) i ≡ Some a
      → unmoved_of row a ≡ Some (answered row a) → IsUnmoved B rows row a
  noted a its is = comes_of unmoved_of rows (answers B rows) (answered row a) i row a at its is

  pub accounted : (a : CountAnswer) → slice_get (answers B rows) i ≡ Some a
      → IsAccountedFor B rows row a
  accounted Counted its = tt
  accounted Found its = tt
  accounted (Elsewhere p) its = λ thing names.
      comes_of sighting_of rows (answers B rows) (seen_by row thing) i row (Elsewhere p) at its
      (ap (option_map (seen_by row)) names)
  accounted UnknownPlace its = noted UnknownPlace its refl
  accounted UnknownObject its = noted UnknownObject its refl
  accounted Again its = noted Again its refl
  accounted Unplaced its = noted Unplaced its refl
