-- A place in an answer is a place of the setup.
use Rattle.std.specs.Prelude.{[], ◌∷◌, option_map, ℕ, ◌<◌, Bool, true, false, All, IfSome, List}
use Rattle.std.specs.Prelude.{length, take, Option, Some, None, is_none, if◌then◌else◌, slice_get}
use Rattle.std.proofs.lemmas.List.Elements.{All-head, All-map, All-tail}
use Rattle.std.proofs.Common.{subst}
use Rattle.std.specs.List.{last_or, range_with_len}
use Rattle.std.specs.Option.{option_map_or}
use Rattle.nest_core.specs.Museum.{Museum, find_place, find_thing}
use Rattle.posting_core.specs.Book.{Book, place_in}
use Rattle.posting_core.specs.Lawful.{IsLawful}
use Rattle.posting_core.specs.declared.entry.Entry.{Entry}
use Rattle.posting_core.specs.declared.entry.Spot.{Spot}
use Rattle.posting_core.specs.History.{place_at, spots}
use Rattle.posting_core.proofs.Bounds.{spots_within}
use Rattle.posting_core.proofs.LastSpots.{last_is_current}
use Rattle.count_core.specs.declared.count_row.CountRow.{CountRow}
use Rattle.count_core.specs.declared.answer.CountAnswer.TheVariants.{UnknownPlace, Counted}
use Rattle.count_core.specs.declared.answer.CountAnswer.TheVariants.{UnknownObject, Again, Found}
use Rattle.count_core.specs.declared.answer.CountAnswer.TheVariants.{Elsewhere}
use Rattle.count_core.specs.Counts.{answer, answer_at, answers, found_from, is_again, look}
use Rattle.count_core.specs.Counts.{look_object, IsAnswerIn}
use Rattle.count_core.specs.Reports.{lies_at}

-- the last of spots that are at places of the setup
last_known : (n : ℕ) (o : Option Spot) (row : List Spot) → IfSome o (λ s. s.place < n)
    → All (λ s. s.place < n) row → IfSome (option_map (λ s. s.place) (last_or o row)) (λ p. p < n)
last_known n None [] h all = tt
last_known n (Some s) [] h all = h
last_known n o (s ∷ row) h all =
    last_known n (Some s) row (All-head (λ (t : Spot). t.place < n) s row all)
    (All-tail (λ (t : Spot). t.place < n) s row all)

place_known : (S : Museum) (depth : ℕ) (P : List Entry) (x : ℕ) → IsLawful S depth P
    → IfSome (place_at S P x) (λ p. p < length S.places)
place_known S depth P x lawful =
    subst (λ o. IfSome o (λ p. p < length S.places)) (last_is_current S depth P x lawful)
    (last_known (length S.places) None (spots S P x) tt (spots_within S depth P x lawful))

from_known : (S : Museum) (sought : List ℕ) (o : Option ℕ) → IfSome o (λ p. p < length S.places)
    → IsAnswerIn S (found_from S sought o)
from_known S sought None h = tt
from_known S sought (Some p) h = by (lies_at S p sought)
  where
    by : (b : Bool) → IsAnswerIn S (if b then Found else Elsewhere p)
    by true = tt
    by false = h

module _ (B : Book) (lawful : IsLawful B.museum B.depth B.posted) where
  object_known : (sought : List ℕ) (o : Option ℕ)
      → IsAnswerIn B.museum (option_map_or (λ x. found_from B.museum sought (place_in B x)) o
      UnknownObject)
  object_known sought None = tt
  object_known sought (Some x) =
      from_known B.museum sought (place_in B x) (place_known B.museum B.depth B.posted x lawful)

  row_known : (sought : List ℕ) (o : Option (List ℕ))
      → IsAnswerIn B.museum (option_map_or (look_object B sought) o Counted)
  row_known sought None = tt
  row_known sought (Some code) = object_known sought (find_thing B.museum code)

  look_known : (r : CountRow) → IsAnswerIn B.museum (look B r)
  look_known r = by (is_none (find_place B.museum r.place))
    where
      by : (b : Bool)
          → IsAnswerIn B.museum (if b then UnknownPlace else option_map_or (look_object B r.place)
          r.object Counted)
      by true = tt
      by false = row_known r.place r.object

  answer_known : (before : List CountRow) (r : CountRow) → IsAnswerIn B.museum (answer B before r)
  answer_known before r = by (is_none (find_place B.museum r.place)) (is_again B.museum before r)
    where
      by : (a b : Bool)
          → IsAnswerIn B.museum (if a then UnknownPlace else (if b then Again else look B r))
      by true b = tt
      by false true = tt
      by false false = look_known r

  at_known : (rows : List CountRow) (i : ℕ) → IsAnswerIn B.museum (answer_at B rows i)
  at_known rows i = by (slice_get rows i)
    where
      by : (o : Option CountRow)
          → IsAnswerIn B.museum (option_map_or (answer B (take i rows)) o UnknownPlace)
      by None = tt
      by (Some r) = answer_known (take i rows) r

  pub answers_known : (rows : List CountRow) → All (IsAnswerIn B.museum) (answers B rows)
  answers_known rows = All-map (IsAnswerIn B.museum) (answer_at B rows)
      (range_with_len 0 (length rows)) (λ k d lt. at_known rows _)
