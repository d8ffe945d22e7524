-- Defines the objects that a count list misses if containers count as sealed: a container that was
-- seen where the record has it vouches for the things in it.
use Rattle.std.specs.Prelude.{ℕ, Bool, true, false, not, List, filter, Option, Some, None}
use Rattle.std.specs.Prelude.{if◌then◌else◌}
use Rattle.std.specs.List.{list_any}
use Rattle.std.specs.Option.{option_map_or}
use Rattle.nest_core.specs.Puts.{is_among}
use Rattle.posting_core.specs.Book.{Book, chain_in}
use Rattle.count_core.specs.declared.count_row.CountRow.{CountRow}
use Rattle.count_core.specs.declared.answer.MissingObject.{MissingObject}
use Rattle.count_core.specs.declared.answer.CountAnswer.{CountAnswer}
use Rattle.count_core.specs.declared.answer.CountAnswer.TheVariants.{UnknownPlace, Counted}
use Rattle.count_core.specs.declared.answer.CountAnswer.TheVariants.{UnknownObject, Again, Unplaced}
use Rattle.count_core.specs.declared.answer.CountAnswer.TheVariants.{Found, Elsewhere}
use Rattle.count_core.specs.Counts.{look, missing, named}
use Rattle.count_core.specs.Marks.{flagged}

abbrev pub is_found : CountAnswer → Bool
is_found UnknownPlace = false
is_found Counted = false
is_found UnknownObject = false
is_found Again = false
is_found Unplaced = false
is_found Found = true
is_found (Elsewhere p) = false

-- The thing that the row saw where the record has it. An earlier row may name the same thing.
abbrev pub seen_in_place : Book → CountRow → Option ℕ
seen_in_place B row = if is_found (look B row) then named B.museum row else None

-- The row saw a container that thing x is in, at any depth, where the record has it.
abbrev pub vouches : Book → ℕ → CountRow → Bool
vouches B x row = option_map_or (λ y. is_among y (chain_in B x)) (seen_in_place B row) false

-- One of the rows vouches for thing x.
abbrev pub is_vouched_for : Book → List CountRow → ℕ → Bool
is_vouched_for B rows x = list_any (vouches B x) rows

-- The objects that the list misses and that no row vouches for, in the same order.
abbrev pub missing_sealed : Book → List CountRow → List MissingObject
missing_sealed B rows = filter (λ m. not (is_vouched_for B rows m.object)) (missing B rows)

-- The objects that the list misses, by whether containers count as sealed.
abbrev pub missing_unless_sealed : Book → Bool → List CountRow → List MissingObject
missing_unless_sealed B sealed rows = if sealed then missing_sealed B rows else missing B rows

-- A container that thing x is in, at any depth, has a flag.
abbrev pub is_in_flagged : Book → List Bool → ℕ → Bool
is_in_flagged B flags x = list_any (λ c. flagged flags (Some c)) (chain_in B x)
