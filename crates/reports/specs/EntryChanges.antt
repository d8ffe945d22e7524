-- Defines what an entry changed.
use Rattle.std.specs.Prelude.{ℕ, [], List, Option, option_map, reverse, slice_get}
use Rattle.std.specs.Option.{option_map_or}
use Rattle.posting_core.specs.declared.entry.Changes.{Changes}
use Rattle.posting_core.specs.declared.entry.Spot.{Spot}
use Rattle.posting_core.specs.Book.{Book, changes_of}
use Rattle.posting_core.specs.Onward.{spots_for}
use Rattle.posting_core.specs.Past.{upto}

-- What the entry at index i, from 0, changed in the record before it.
abbrev pub changes_at : Book → ℕ → Option Changes
changes_at B i =
    option_map (λ e. changes_of (upto B i) e.message) (slice_get (reverse B.posted) i)

-- The new locations that the entry at index i brought thing x.
abbrev pub locations_at : Book → ℕ → ℕ → List Spot
locations_at B x i = option_map_or (λ c. spots_for c x) (changes_at B i) []
