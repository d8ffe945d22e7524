-- Defines which refused messages name something that a growth from S to T lists, and how they are
-- printed.
use Rattle.std.specs.Prelude.{ℕ, ◌+◌, ◌++◌, ◌∷◌, ◌&&◌, [], Bool, List, Option, Some, None}
use Rattle.std.specs.Prelude.{codes, decimal, if◌then◌else◌, is_some, not, option_map, unwrap_or}
use Rattle.std.specs.List.{find, list_all}
use Rattle.std.specs.Option.{option_and_then, option_to_list}
use Rattle.nest_core.specs.Museum.{Museum, find_thing_at, station_name_of}
use Rattle.posting_core.specs.declared.entry.Entry.{Entry}
use Rattle.posting_core.specs.declared.message.Message.{Message}
use Rattle.posting_core.specs.declared.verdict.Verdict.{Verdict}
use Rattle.posting_core.specs.declared.verdict.Verdict.TheVariants.{UnknownContainer, UnknownPlace}
use Rattle.posting_core.specs.declared.verdict.Verdict.TheVariants.{UnknownThing}
use Rattle.posting_core.specs.VerdictNames.{verdict_name}
use Rattle.posting_core.specs.Verdicts.{is_container_code, is_known, is_known_place}
use Rattle.posting_core.specs.declared.culprit.Culprit.{Culprit}
use Rattle.posting_core.specs.declared.culprit.Culprit.TheVariants.{Loan, Place, Thing}
use Rattle.posting_core.specs.Culprits.{a_place, a_thing}
use Rattle.posting_core.specs.Named.{container_named, place_named, things_named}
use Rattle.reports.specs.Lines.{lines}

-- The value, if it passes the test.
abbrev pub kept_if : {X : Type 0} → (X → Bool) → Option X → Option X
kept_if test found = option_and_then (λ x. if test x then Some x else None) found

-- The thing wasn't listed yet when k entries had been posted.
abbrev pub was_unlisted : Museum → ℕ → List ℕ → Bool
was_unlisted S k x = not (is_some (find_thing_at S k x))

-- The setup lists all of these things.
abbrev pub knows_all : Museum → List (List ℕ) → Bool
knows_all S things = list_all (is_known S) things

-- T lists the thing or the place, and S doesn't.
abbrev pub is_new_thing : Museum → Museum → List ℕ → Bool
is_new_thing S T code = is_known T code && not (is_known S code)

abbrev pub is_new_place : Museum → Museum → List ℕ → Bool
is_new_place S T code = is_known_place T code && not (is_known_place S code)

-- The code for which the message after k entries was refused as unknown, if T lists what it lacked
-- and S doesn't. A message about several things has one only if T lists them all. A pack into an
-- object that is no container has none: it stays refused even when the object is listed.
abbrev pub new_code_of : Museum → Museum → ℕ → Message → Verdict → Option Culprit
new_code_of S T k m UnknownThing =
    if knows_all T (things_named m) && not (knows_all S (things_named m))
    then a_thing (find (was_unlisted S k) (things_named m)) else None
new_code_of S T k m UnknownPlace = a_place (kept_if (is_new_place S T) (place_named m))
new_code_of S T k m UnknownContainer =
    a_thing (kept_if (is_new_thing S T) (kept_if is_container_code (container_named m)))
new_code_of S T k m _ = None

-- The code for which the entry after k others was refused, if it is new in T.
abbrev pub new_code : Museum → Museum → ℕ → Entry → Option Culprit
new_code S T k e = new_code_of S T k e.message e.verdict

abbrev pub code_of : Culprit → List ℕ
code_of (Thing code) = code
code_of (Place code) = code
code_of (Loan code) = code

abbrev pub cause_text : Verdict → Culprit → List ℕ
cause_text verdict code =
    verdict_name verdict ++ codes " " ++ code_of code ++ codes ": send it again under a new number"

-- The entry after k others: its number, its station, the station's number, the cause.
abbrev pub entry_row : Museum → ℕ → Entry → Culprit → List ℕ
entry_row S k e code =
    decimal (k + 1) ++ codes " " ++ unwrap_or (station_name_of S e.station) [] ++ codes " "
    ++ decimal e.n ++ codes " " ++ cause_text e.verdict code

-- The rows of these entries after k others, oldest first.
abbrev pub now_known_rows : Museum → Museum → ℕ → List Entry → List (List ℕ)
now_known_rows S T k [] = []
now_known_rows S T k (e ∷ entries) =
    option_to_list (option_map (entry_row S k e) (new_code S T k e))
    ++ now_known_rows S T (k + 1) entries

-- A line for each of the entries, oldest first, whose code is new in T.
abbrev pub now_known_text : Museum → Museum → List Entry → List ℕ
now_known_text S T entries = lines (codes "entry ") (now_known_rows S T 0 entries)
