-- Parts of the rows of a setup.
use Rattle.std.specs.Prelude.{ℕ, ◌≡◌, ◌+◌, ◌<◌, ◌≤◌, List, [], ◌∷◌, ◌++◌, Some, length, drop, map}
use Rattle.std.specs.Prelude.{take, slice_get, zero, suc, refl}
use Rattle.std.proofs.Common.{arith, ap, append_assoc, sym, ◌∙◌, length-append}
use Rattle.std.proofs.Math.Seq.{drop-append-add, take-append-add, take-append_seam}
use Rattle.std.proofs.lemmas.Grind.{flat_map-append}
use Rattle.std.proofs.lemmas.List.{drop-append-le, length-map, length-take, take_more}
use Rattle.std.proofs.lemmas.Option.{get_or_from_slice_get, slice_get_within}
use Rattle.nest_core.specs.Museum.{Museum}
use Rattle.nest_core.specs.SetupTexts.{growth_fields, joined, place_fields, setup_rows}
use Rattle.nest_core.specs.SetupTexts.{station_fields, thing_fields}
use Rattle.reports.specs.Lines.{lines}
use Rattle.reports.specs.SetupFiles.{file_rows, place_rows, station_rows, thing_rows}
use Rattle.reports.proofs.NumberedRows.{behind_at, front_at}

-- no rows yet
pub none_before : {X : Type 0} (n : ℕ) (xs : List X) → drop n (take n xs) ≡ []
none_before zero xs = refl
none_before (suc n) [] = refl
none_before (suc n) (x ∷ xs) = none_before n xs

-- one more row
window_more : {X : Type 0} (xs : List X) (from i : ℕ) (x : X) → from ≤ i
    → slice_get xs i ≡ Some x
    → drop from (take (i + 1) xs) ≡ drop from (take i xs) ++ x ∷ []
window_more xs from i x least at =
    let within = slice_get_within xs i x at in
    let few : from ≤ length (take i xs) = omega (arith, length-take i xs, within, least) in
    ap (drop from) (take_more xs i x within
    ∙ ap (λ y. take i xs ++ y ∷ []) (get_or_from_slice_get xs i x x at))
    ∙ drop-append-le from (take i xs) (x ∷ []) few

pub lines_more : (mark start old new row : List ℕ) (rows : List (List ℕ))
    → old ≡ start ++ lines mark rows → new ≡ old ++ lines mark (row ∷ [])
    → new ≡ start ++ lines mark (rows ++ row ∷ [])
lines_more mark start old new row rows is more =
    more ∙ (ap (λ t. t ++ lines mark (row ∷ [])) is
    ∙ (append_assoc start (lines mark rows) (lines mark (row ∷ []))
    ∙ ap (λ t. start ++ t)
    (sym (flat_map-append (λ r. mark ++ r ++ 10 ∷ []) rows (row ∷ [])))))

pub line_more : (mark start old new row : List ℕ) (rows : List (List ℕ)) (from i : ℕ) → from ≤ i
    → slice_get rows i ≡ Some row → old ≡ start ++ lines mark (drop from (take i rows))
    → new ≡ old ++ lines mark (row ∷ [])
    → new ≡ start ++ lines mark (drop from (take (i + 1) rows))
line_more mark start old new row rows from i least at is more =
    lines_more mark start old new row (drop from (take i rows)) is more
    ∙ ap (λ rs. start ++ lines mark rs) (sym (window_more rows from i row least at))

first_part : {X : Type 0} (xs rest : List X) (n : ℕ) → n ≡ length xs → take n (xs ++ rest) ≡ xs
first_part xs rest n is = ap (λ k. take k (xs ++ rest)) is ∙ take-append_seam xs rest

next_part : {X : Type 0} (xs ys rest : List X) (n m from : ℕ) → n ≡ length xs → m ≡ length ys
    → drop (n + from) (take (n + m) (xs ++ (ys ++ rest))) ≡ drop from ys
next_part xs ys rest n m from is has =
    ap (λ k. drop (k + from) (take (k + m) (xs ++ (ys ++ rest)))) is
    ∙ ap (drop (length xs + from)) (take-append-add xs (ys ++ rest) m
    ∙ ap (λ t. xs ++ t) (first_part ys rest m has))
    ∙ drop-append-add xs ys from

abbrev growth_rows : Museum → List (List ℕ)
growth_rows S = map (λ g. joined (growth_fields g)) S.growths

module _ (S : Museum) where
  stations_are : length S.stations ≡ length (station_rows S)
  stations_are = sym (length-map S.stations (λ name. joined (station_fields name)))

  places_are : length S.places ≡ length (place_rows S)
  places_are = sym (length-map S.places (λ row. joined (place_fields row)))

  things_are : length S.things ≡ length (thing_rows S)
  things_are = sym (length-map S.things (λ row. joined (thing_fields S row)))

  before_are : length S.stations + length S.places ≡ length (station_rows S ++ place_rows S)
  before_are = omega (
    arith,
    stations_are,
    places_are,
    length-append (station_rows S) (place_rows S),
  )

  file_is : length S.stations + length S.places + length S.things ≡ length (file_rows S)
  file_is = omega (
    arith,
    before_are,
    things_are,
    length-append (station_rows S ++ place_rows S) (thing_rows S),
  )

  -- the lines of the things, between those before them and those after them
  around_things : setup_rows S
      ≡ (station_rows S ++ place_rows S) ++ (thing_rows S ++ growth_rows S)
  around_things = append_assoc (station_rows S ++ place_rows S) (thing_rows S) (growth_rows S)

  from_places : setup_rows S
      ≡ station_rows S ++ (place_rows S ++ (thing_rows S ++ growth_rows S))
  from_places = around_things
      ∙ append_assoc (station_rows S) (place_rows S) (thing_rows S ++ growth_rows S)

  pub stations_from : (from : ℕ) → drop from (take (length S.stations) (setup_rows S))
      ≡ drop from (station_rows S)
  stations_from from =
      ap (λ rows. drop from (take (length S.stations) rows)) from_places
      ∙ ap (drop from) (first_part (station_rows S)
      (place_rows S ++ (thing_rows S ++ growth_rows S)) (length S.stations) stations_are)

  pub places_from : (from : ℕ)
      → drop (length S.stations + from) (take (length S.stations + length S.places) (setup_rows S))
      ≡ drop from (place_rows S)
  places_from from =
      ap (λ rows. drop (length S.stations + from)
      (take (length S.stations + length S.places) rows)) from_places
      ∙ next_part (station_rows S) (place_rows S) (thing_rows S ++ growth_rows S)
      (length S.stations) (length S.places) from stations_are places_are

  pub things_from : (from : ℕ)
      → drop (length S.stations + length S.places + from)
      (take (length S.stations + length S.places + length S.things) (setup_rows S))
      ≡ drop from (thing_rows S)
  things_from from =
      ap (λ rows. drop (length S.stations + length S.places + from)
      (take (length S.stations + length S.places + length S.things) rows)) around_things
      ∙ next_part (station_rows S ++ place_rows S) (thing_rows S) (growth_rows S)
      (length S.stations + length S.places) (length S.things) from before_are things_are

  pub file_part : take (length S.stations + length S.places + length S.things) (setup_rows S)
      ≡ file_rows S
  file_part = first_part (file_rows S) (growth_rows S)
      (length S.stations + length S.places + length S.things) file_is

pub thing_at : (S : Museum) (x : ℕ) → x < length S.things
    → slice_get (setup_rows S) (length S.stations + length S.places + x)
    ≡ slice_get (thing_rows S) x
thing_at S x within =
    ap (λ rows. slice_get rows (length S.stations + length S.places + x)) (around_things S)
    ∙ (ap (λ n. slice_get ((station_rows S ++ place_rows S) ++ (thing_rows S ++ growth_rows S))
    (n + x)) (before_are S)
    ∙ (behind_at (station_rows S ++ place_rows S) (thing_rows S ++ growth_rows S) x
    ∙ front_at (thing_rows S) (growth_rows S) x (omega (arith, things_are S, within))))
