-- Defines when a message is a move of an audit, and when a row is accounted for.
use Rattle.std.specs.Prelude.{ℕ, ℤ, ◌≡◌, ⊤, Contains, List, None, Some, slice_get}
use Rattle.posting_core.specs.declared.message.Message.{Message}
use Rattle.posting_core.specs.declared.message.Message.TheVariants.{Move}
use Rattle.posting_core.specs.Book.{Book}
use Rattle.count_core.specs.declared.answer.CountAnswer.{CountAnswer}
use Rattle.count_core.specs.declared.answer.CountAnswer.TheVariants.{UnknownPlace, Counted}
use Rattle.count_core.specs.declared.answer.CountAnswer.TheVariants.{UnknownObject, Again, Unplaced}
use Rattle.count_core.specs.declared.answer.CountAnswer.TheVariants.{Found, Elsewhere}
use Rattle.count_core.specs.declared.count_row.CountRow.{CountRow}
use Rattle.count_core.specs.Counts.{answers}
use Rattle.line_files.specs.Sightings.{answered, container_holding, seen_by, seen_elsewhere}
use Rattle.line_files.specs.Sightings.{unmoved}

-- A row of the list names a thing that the record has at another place, in no container. The
-- message moves the thing to the row's place.
pub record IsSeenMove (B : Book) (day : ℤ) (rows : List CountRow) (m : Message) : Type 0 where
  pub i : ℕ
  pub row : CountRow
  pub is_row : slice_get rows i ≡ Some row
  pub place : ℕ
  pub elsewhere : slice_get (answers B rows) i ≡ Some (Elsewhere place)
  pub thing : List ℕ
  pub names : row.object ≡ Some thing
  pub loose : container_holding B thing ≡ None
  pub is_move : m ≡ Move day thing row.place

-- The row and its answer are among those that have a note of their own.
abbrev pub IsUnmoved : Book → List CountRow → CountRow → CountAnswer → Type 0
IsUnmoved B rows row answer = Contains (unmoved B rows) (answered row answer)

-- A row with this answer is accounted for: it agrees with the record, or its thing is among those
-- that were seen elsewhere, or it is among the rows that have a note of their own.
abbrev pub IsAccountedFor : Book → List CountRow → CountRow → CountAnswer → Type 0
IsAccountedFor B rows row Counted = ⊤
IsAccountedFor B rows row Found = ⊤
IsAccountedFor B rows row (Elsewhere p) =
    (thing : List ℕ) → row.object ≡ Some thing
    → Contains (seen_elsewhere B rows) (seen_by row thing)
IsAccountedFor B rows row UnknownPlace = IsUnmoved B rows row UnknownPlace
IsAccountedFor B rows row UnknownObject = IsUnmoved B rows row UnknownObject
IsAccountedFor B rows row Again = IsUnmoved B rows row Again
IsAccountedFor B rows row Unplaced = IsUnmoved B rows row Unplaced
