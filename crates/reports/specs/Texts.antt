-- The museum's names and codes, cell_of by number; what has no such number tells an empty text.
use Rattle.std.specs.Prelude.{[], ℕ, List, Option, option_map, unwrap_or}
use Rattle.nest_core.specs.Museum.{Museum, place_code_of, station_name_of, thing_code_of}

abbrev pub station_text : Museum → ℕ → List ℕ
station_text S s = unwrap_or (station_name_of S s) []

abbrev pub place_text : Museum → ℕ → List ℕ
place_text S p = unwrap_or (place_code_of S p) []

abbrev pub thing_text : Museum → ℕ → List ℕ
thing_text S x = unwrap_or (thing_code_of S x) []

-- The code of the place, if there is one.
abbrev pub place_text_if : Museum → Option ℕ → Option (List ℕ)
place_text_if S p = option_map (place_text S) p
