-- Defines the line about a file without faults.
use Rattle.std.specs.Prelude.{ℕ, ◌-◌, ◌%◌, ◌==◌, ◌++◌, ◌&&◌, not, List, [], ◌∷◌, codes, decimal}
use Rattle.std.specs.Prelude.{filter, if◌then◌else◌, length}
use Rattle.std.specs.List.{range_with_len}
use Rattle.nest_core.specs.Museum.{Museum, is_container}

-- The comma after a digit that has this many digits after it: there is one if these are whole
-- groups of three.
abbrev pub comma_after : ℕ → List ℕ
comma_after count = if not (count == 0) && (count % 3 == 0) then codes "," else []

abbrev pub with_commas : List ℕ → List ℕ
with_commas [] = []
with_commas (digit ∷ digits) = digit ∷ comma_after (length digits) ++ with_commas digits

-- A number in decimal digits with commas, such as 80,000.
abbrev pub grouped : ℕ → List ℕ
grouped n = with_commas (decimal n)

-- A count with its noun, in the singular for 1.
abbrev pub counted : ℕ → List ℕ → List ℕ → List ℕ
counted n one many = grouped n ++ codes " " ++ (if n == 1 then one else many)

abbrev pub joined : List ℕ → List ℕ → List ℕ
joined first second = first ++ codes ", " ++ second

abbrev pub ok_line : List ℕ → List ℕ
ok_line much = codes "ok: " ++ much ++ codes "\n"

-- The things that are containers.
abbrev pub boxes : Museum → List ℕ
boxes S = filter (is_container S) (range_with_len 0 (length S.things))

-- The number of the other things.
abbrev pub object_count : Museum → ℕ
object_count S = length S.things - length (boxes S)

-- The line about a setup.
abbrev pub setup_summary : Museum → List ℕ
setup_summary S = ok_line (joined
    (joined (counted (length S.stations) (codes "station") (codes "stations"))
    (counted (length S.places) (codes "place") (codes "places")))
    (joined (counted (length (boxes S)) (codes "box") (codes "boxes"))
    (counted (object_count S) (codes "object") (codes "objects"))))

-- The line about a count list with this many rows.
abbrev pub counts_summary : ℕ → List ℕ
counts_summary rows = ok_line (counted rows (codes "row") (codes "rows"))
