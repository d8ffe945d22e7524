-- The moves of an audit are of the things that its list found elsewhere.
use Rattle.std.specs.Prelude.{ℕ, ℤ, ◌≡◌, ◌⊎◌, true, Contains, List, [], ◌∷◌, Option}
use Rattle.std.specs.Prelude.{Some, None, filter, is_none, option_map, slice_get}
use Rattle.std.specs.Prelude.{suc, refl}
use Rattle.std.specs.List.{cons_option}
use Rattle.std.proofs.Common.{ap, sym, ◌∙◌, subst, inl, inr}
use Rattle.posting_core.specs.declared.message.Message.{Message}
use Rattle.posting_core.specs.declared.message.Message.TheVariants.{Move}
use Rattle.posting_core.specs.Book.{Book}
use Rattle.count_core.specs.declared.answer.CountAnswer.{CountAnswer}
use Rattle.count_core.specs.declared.answer.CountAnswer.TheVariants.{UnknownPlace, Counted}
use Rattle.count_core.specs.declared.answer.CountAnswer.TheVariants.{UnknownObject, Again, Unplaced}
use Rattle.count_core.specs.declared.answer.CountAnswer.TheVariants.{Found, Elsewhere}
use Rattle.count_core.specs.declared.count_row.CountRow.{CountRow}
use Rattle.count_core.specs.Counts.{answers}
use Rattle.count_core.proofs.Membership.{none_in, first_or_rest, let_through, kept, in_map}
use Rattle.count_core.proofs.Membership.{from_map}
use Rattle.line_files.specs.declared.audits.sightings.Sighting.{Sighting}
use Rattle.line_files.specs.Sightings.{container_holding, seen_by, seen_elsewhere, seen_in}
use Rattle.line_files.specs.Sightings.{sighting_of}
use Rattle.line_files.specs.AuditLines.{is_loose, move_of, moves}
use Rattle.line_files.specs.SeenMoves.{IsSeenMove}
use Rattle.line_files.proofs.Answered.{comes_of}

-- row i, with its answer, is the sighting
record IsSeenAt (rows : List CountRow) (found : List CountAnswer) (s : Sighting) : Type 0 where
  i : ℕ
  row : CountRow
  answer : CountAnswer
  is_row : slice_get rows i ≡ Some row
  is_answer : slice_get found i ≡ Some answer
  is : sighting_of row answer ≡ Some s

one_further : (r : CountRow) (a : CountAnswer) (rows : List CountRow) (found : List CountAnswer)
    (s : Sighting) → IsSeenAt rows found s → IsSeenAt (r ∷ rows) (a ∷ found) s
one_further r a rows found s h = record {
  i = suc h.i;
  row = h.row;
  answer = h.answer;
  is_row = h.is_row;
  is_answer = h.is_answer;
  is = h.is;
}

from_seen : (rows : List CountRow) (found : List CountAnswer) (s : Sighting)
    → Contains (seen_in rows found) s → IsSeenAt rows found s
from_seen [] found s h = absurd (none_in s h)
from_seen (r ∷ rows) [] s h = absurd (none_in s h)
from_seen (r ∷ rows) (a ∷ found) s h = by (sighting_of r a) refl h
    (λ k. one_further r a rows found s (from_seen rows found s k))
  where
    by : (o : Option Sighting) → sighting_of r a ≡ o
        → Contains (cons_option o (seen_in rows found)) s
        → (Contains (seen_in rows found) s → IsSeenAt (r ∷ rows) (a ∷ found) s)
        → IsSeenAt (r ∷ rows) (a ∷ found) s
    by None is k rec = rec k
    by (Some t) is k rec = first (first_or_rest t s (seen_in rows found) k)
      where
        first : (t ≡ s) ⊎ Contains (seen_in rows found) s → IsSeenAt (r ∷ rows) (a ∷ found) s
        first (inl same) = record {
          i = 0;
          row = r;
          answer = a;
          is_row = refl;
          is_answer = refl;
          is = is ∙ ap Some same;
        }
        first (inr rest) = rec rest

-- the row of a sighting
record IsElsewhere (row : CountRow) (a : CountAnswer) (s : Sighting) : Type 0 where
  place : ℕ
  elsewhere : a ≡ Elsewhere place
  names : row.object ≡ Some s.thing
  at : row.place ≡ s.place

names_thing : (row : CountRow) (p : ℕ) (s : Sighting) (o : Option (List ℕ)) → row.object ≡ o
    → option_map (seen_by row) o ≡ Some s → IsElsewhere row (Elsewhere p) s
names_thing row p s None is e = absurd (cc)
names_thing row p s (Some thing) is e =
    let same : seen_by row thing ≡ s = cc in
    record {
      place = p;
      elsewhere = refl;
      names = is ∙ ap (λ (z : Sighting). Some z.thing) same;
      at = ap (λ (z : Sighting). z.place) same;
    }

found_elsewhere : (row : CountRow) (a : CountAnswer) (s : Sighting) → sighting_of row a ≡ Some s
    → IsElsewhere row a s
found_elsewhere row UnknownPlace s e = absurd (cc)
found_elsewhere row Counted s e = absurd (cc)
found_elsewhere row UnknownObject s e = absurd (cc)
found_elsewhere row Again s e = absurd (cc)
found_elsewhere row Unplaced s e = absurd (cc)
found_elsewhere row Found s e = absurd (cc)
found_elsewhere row (Elsewhere p) s e = names_thing row p s row.object refl e

none_there : (o : Option ℕ) → is_none o ≡ true → o ≡ None
none_there None e = refl
none_there (Some x) e = absurd (cc)

pub moves_seen : (B : Book) (day : ℤ) (rows : List CountRow) (m : Message)
    → Contains (moves B day rows) m → IsSeenMove B day rows m
moves_seen B day rows m h =
    let moved = from_map (move_of day) (filter (is_loose B) (seen_elsewhere B rows)) m h in
    let passed = let_through (is_loose B) (seen_elsewhere B rows) moved.0 moved.1 in
    let seen = from_seen rows (answers B rows) moved.0 passed.0 in
    let elsewhere = found_elsewhere seen.row seen.answer moved.0 seen.is in
    record {
      i = seen.i;
      row = seen.row;
      is_row = seen.is_row;
      place = elsewhere.place;
      elsewhere = seen.is_answer ∙ ap Some elsewhere.elsewhere;
      thing = moved.0.thing;
      names = elsewhere.names;
      loose = none_there (container_holding B moved.0.thing) passed.1;
      is_move = sym moved.2 ∙ ap (Move day moved.0.thing) (sym elsewhere.at);
    }

pub seen_moves : (B : Book) (day : ℤ) (rows : List CountRow) (m : Message) → IsSeenMove B day rows m
    → Contains (moves B day rows) m
seen_moves B day rows m h =
    let s : Sighting = seen_by h.row h.thing in
    let seen = comes_of sighting_of rows (answers B rows) s h.i h.row (Elsewhere h.place) h.is_row
    h.elsewhere (ap (option_map (seen_by h.row)) h.names) in
    let loose = kept (is_loose B) (seen_elsewhere B rows) s seen (ap is_none h.loose) in
    subst (Contains (moves B day rows)) (sym h.is_move)
    (in_map (move_of day) (filter (is_loose B) (seen_elsewhere B rows)) s loose)
