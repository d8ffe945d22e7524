-- Defines a ledger's view, its answers, and the changes that posting a message makes in it.
use Rattle.std.specs.Prelude.{ℕ, ℤ, ◌+◌, ◌&&◌, ◌||◌, Bool, false, List, [], length, map, Option}
use Rattle.std.specs.Prelude.{is_some, if◌then◌else◌}
use Rattle.std.specs.List.{range_with_len, filter_map}
use Rattle.std.specs.Option.{option_map, option_map_or}
use Rattle.nest_core.specs.Museum.{Museum}
use Rattle.nest_core.specs.Puts.{place, with_put}
use Rattle.posting_core.specs.declared.message.Message.{Message}
use Rattle.posting_core.specs.declared.verdict.Verdict.{Verdict}
use Rattle.posting_core.specs.declared.entry.Entry.{Entry}
use Rattle.posting_core.specs.declared.entry.Spot.{Spot}
use Rattle.posting_core.specs.declared.entry.NewSpot.{NewSpot}
use Rattle.posting_core.specs.declared.entry.NewLine.{NewLine}
use Rattle.posting_core.specs.declared.entry.Changes.{Changes}
use Rattle.posting_core.specs.declared.stage.LineStage.{LineStage}
use Rattle.posting_core.specs.declared.stage.LineStage.TheVariants.{Awaiting}
use Rattle.posting_core.specs.declared.stage.LoanState.{LoanState}
use Rattle.posting_core.specs.Messages.{thing_no, day_of}
use Rattle.posting_core.specs.History.{puts, put_in, put_by, carried_with, holds_at, takes_along}
use Rattle.posting_core.specs.History.{chain_at, place_at, spots, spot_from}
use Rattle.posting_core.specs.VerdictNames.{is_applied}
use Rattle.posting_core.specs.Agreements.{Agreement, agreement_in, loan_by, loans, last_day}
use Rattle.posting_core.specs.Loans.{Crossing, crossing_in, objects_in, objects_of, objects, line}
use Rattle.posting_core.specs.Loans.{loan_state}
use Rattle.posting_core.specs.Verdicts.{verdict, hangs_on_lines}

-- A ledger: the setup, the depth limit, and the posted entries, the newest first.
pub record Book : Type 0 where
  pub museum : Museum
  pub depth : ℕ
  pub posted : List Entry

-- The answers of a ledger follow, by looking back through its entries. First, a thing's place.
abbrev pub place_in : Book → ℕ → Option ℕ
place_in B x = place_at B.museum B.posted x

abbrev pub chain_in : Book → ℕ → List ℕ
chain_in B x = chain_at B.museum B.posted x

abbrev pub spots_in : Book → ℕ → List Spot
spots_in B x = spots B.museum B.posted x

abbrev pub loans_in : Book → List (List ℕ)
loans_in B = loans B.posted

abbrev pub objects_of_loan : Book → List ℕ → List ℕ
objects_of_loan B loan = objects B.museum B.posted loan

abbrev pub line_in : Book → List ℕ → ℕ → Option LineStage
line_in B loan o = line B.museum B.posted loan o

abbrev pub state_in : Book → List ℕ → Option LoanState
state_in B loan = loan_state B.museum B.posted loan

abbrev pub last_day_in : Book → List ℕ → Option ℤ
last_day_in B loan = last_day B.posted loan

abbrev pub verdict_in : Book → Message → Verdict
verdict_in B m = verdict B.museum B.depth B.posted m

-- A thing's place after P and then this message, if it is applied.
abbrev pub place_after : Museum → List Entry → Message → ℕ → Option ℕ
place_after S P m x = place (length S.things) (with_put (put_in S P m) (puts S P)) x

-- The new spot of a thing, if its place changes, with its number from 1 in the thing's list.
abbrev pub new_spot : ℕ → ℕ → Option ℕ → Option ℕ → Option ℤ → ℕ → Option NewSpot
new_spot number count before after day x =
    option_map (λ spot. record { thing = x; k = count + 1; spot = spot })
    (spot_from number before after day)

-- The spots that the message adds if it is applied after P, in ascending order of things.
abbrev pub new_spots : Museum → List Entry → Message → List NewSpot
new_spots S P m = filter_map
    (λ x. new_spot (length P + 1) (length (spots S P x)) (place_at S P x) (place_after S P m x)
    (day_of m) x)
    (range_with_len 0 (length S.things))

-- The lines that an agreement makes, one for each object in its order.
abbrev pub lines_of_agreement : Museum → Agreement → List NewLine
lines_of_agreement S t =
    map (λ o. record { loan = t.loan; object = o; stage = Awaiting }) (objects_of S t)

-- The lines that a crossing changes, one for each object that crosses, in ascending order.
abbrev pub lines_of_crossing : Museum → List Entry → Crossing → List NewLine
lines_of_crossing S P c =
    map (λ o. record { loan = c.loan; object = o; stage = c.stage }) (objects_in S P c.thing)

-- The lines that the message makes or changes if it is applied after P.
abbrev pub new_lines : Museum → List Entry → Message → List NewLine
new_lines S P m =
    option_map_or (lines_of_agreement S) (agreement_in m)
    (option_map_or (lines_of_crossing S P) (crossing_in m) [])

-- Everything that posting the message changes: the number of its entry, its verdict, its put, the
-- things that the put moves, the new spots, the loan that it continues, and the loan lines. A
-- refused message changes nothing but the list of entries.
abbrev pub changes_of : Book → Message → Changes
changes_of B m =
    let v = verdict_in B m in record {
      entry = length B.posted + 1;
      verdict = v;
      put = put_by B.museum B.posted v m;
      carried = carried_with B.museum B.posted (put_by B.museum B.posted v m);
      spots = if is_applied v then new_spots B.museum B.posted m else [];
      loan = loan_by B.posted v m;
      lines = if is_applied v then new_lines B.museum B.posted m else [];
    }

-- The message makes or changes loan lines.
abbrev pub has_lines : Message → Bool
has_lines m = is_some (agreement_in m) || is_some (crossing_in m)

-- A container with something in it crosses.
abbrev pub crosses_with : Book → Message → Bool
crosses_with B m = option_map_or
    (λ c. holds_at B.museum B.posted (thing_no B.museum c.thing)) (crossing_in m) false

-- Judging the message may run out of memory: a container with something in it crosses, and the
-- verdict depends on the lines of its contents.
abbrev pub asks_lines : Book → Message → Bool
asks_lines B m = crosses_with B m && hangs_on_lines (verdict_in B m)

-- Planning the message may run out of memory: to judge it, or because it is applied and changes
-- loan lines or moves a container with its contents. Every other message is planned without memory:
-- one refused before its lines are looked at, a move of a thing with nothing in it, an
-- authorisation, an extension, a sign-off.
abbrev pub asks_memory : Book → Message → Bool
asks_memory B m =
    asks_lines B m
    || (is_applied (verdict_in B m)
    && (has_lines m || takes_along B.museum B.posted (put_in B.museum B.posted m)))
