-- Defines the notes about the columns of a table that are not used.
use Rattle.std.specs.Prelude.{ℕ, ◌-◌, ◌++◌, List, [], codes, decimal}
use Rattle.std.specs.List.{flat_map, slice_index_or}
use Rattle.codes_core.specs.VisibleText.{quoted}

-- The note for a field of the heading. The fields count from 1.
abbrev pub note_text : List (List ℕ) → ℕ → List ℕ
note_text heading field =
    codes "note: column " ++ decimal field ++ codes " "
    ++ quoted (slice_index_or heading (field - 1) []) ++ codes " is not used\n"

abbrev pub notes_text : List (List ℕ) → List ℕ → List ℕ
notes_text heading unknown = flat_map (note_text heading) unknown
