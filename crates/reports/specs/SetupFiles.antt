-- Defines the setup file of a setup.
use Rattle.std.specs.Prelude.{ℕ, ◌++◌, [], List, map}
use Rattle.nest_core.specs.Museum.{Museum}
use Rattle.nest_core.specs.SetupTexts.{joined, place_fields, station_fields, thing_fields}
use Rattle.reports.specs.Lines.{lines}

abbrev pub station_rows : Museum → List (List ℕ)
station_rows S = map (λ name. joined (station_fields name)) S.stations

abbrev pub place_rows : Museum → List (List ℕ)
place_rows S = map (λ row. joined (place_fields row)) S.places

abbrev pub thing_rows : Museum → List (List ℕ)
thing_rows S = map (λ row. joined (thing_fields S row)) S.things

-- The rows of the stations, the places and the things. A setup file has no rows about growths.
abbrev pub file_rows : Museum → List (List ℕ)
file_rows S = station_rows S ++ place_rows S ++ thing_rows S

abbrev pub setup_file : Museum → List ℕ
setup_file S = lines [] (file_rows S)
