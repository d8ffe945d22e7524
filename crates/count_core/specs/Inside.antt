-- Defines the places that a place lies in, found by its code, and the objects of each place that no
-- row of a count list has flagged.
use Rattle.std.specs.Prelude.{ℕ, ◌≡◌, ◌≢◌, ◌+◌, ◌<◌, ◌&&◌, Bool, List, [], length, drop, take, map}
use Rattle.std.specs.Prelude.{filter, Option, None, if◌then◌else◌, slice_get, unwrap_or, Vec}
use Rattle.std.specs.List.{filter_map, range_with_len}
use Rattle.std.specs.Option.{option_map_or}
use Rattle.std.specs.declared.alloc.Global.{Global}
use Rattle.codes_core.specs.Place.{ends_segment}
use Rattle.nest_core.specs.Museum.{Museum, find_place, place_code_of}
use Rattle.posting_core.specs.Book.{Book}
use Rattle.count_core.specs.Counts.{is_within}
use Rattle.count_core.specs.Marks.{is_unflagged}

-- The place whose code is the first `end` bytes of this code, if a segment ends there.
abbrev pub outer_place : Museum → List ℕ → ℕ → Option ℕ
outer_place S code end = if ends_segment (drop end code) then find_place S (take end code) else None

-- The places that the place with this code lies in, outermost first.
abbrev pub outer_places : Museum → List ℕ → List ℕ
outer_places S code = filter_map (outer_place S code) (range_with_len 0 (length code + 1))

-- The places that place p lies in, outermost first.
abbrev pub outer_of : Museum → ℕ → List ℕ
outer_of S p = option_map_or (outer_places S) (place_code_of S p) []

-- The members of each vector.
abbrev pub lists : List (Vec ℕ Global) → List (List ℕ)
lists vs = map (λ v. v.items) vs

-- List q, or an empty one if there is none.
abbrev pub list_at : List (List ℕ) → ℕ → List ℕ
list_at xss q = unwrap_or (slice_get xss q) []

-- For each place, the list of the places that it lies in. A list is empty until it is first needed.
pub record AreOuter (S : Museum) (xss : List (List ℕ)) : Type 0 where
  pub many : length xss ≡ length S.places
  pub each : (p : ℕ) → list_at xss p ≢ [] → list_at xss p ≡ outer_of S p

-- An object in place q that has no flag.
abbrev pub is_unflagged_in : Book → List Bool → ℕ → ℕ → Bool
is_unflagged_in B flags q x = is_unflagged B.museum flags x && is_within B q x

-- For each place, the list of the objects in it that have no flag, of the first n things.
pub record AreUnflaggedIn (B : Book) (flags : List Bool) (n : ℕ)
    (xss : List (List ℕ)) : Type 0 where
  pub many : length xss ≡ length B.museum.places
  pub each : (q : ℕ) → q < length B.museum.places
      → list_at xss q ≡ filter (is_unflagged_in B flags q) (range_with_len 0 n)
