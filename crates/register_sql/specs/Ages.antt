-- Defines the version of a store, by its rows in `meta`.
use Rattle.std.specs.Prelude.{◌≡◌, ◌≢◌, ◌<◌, ℕ, pos, List, [], ◌∷◌, length, slice_index_or, map}
use Rattle.std.specs.Prelude.{codes}
use Rattle.std.specs.List.Sorted.{IsPermutation}
use Rattle.sqlite.specs.Order.{Row}
use Rattle.register_store.specs.StoredRows.{MetaRow}
use Rattle.register_sql.specs.Rows.{meta_cells}
use Rattle.register_sql.specs.Says.{HasOther}
use Rattle.register_sql.specs.declared.version.Age.{Age}
use Rattle.register_sql.specs.declared.version.Age.TheVariants.{New, Second, First, Other, Damaged}

-- The row with this version.
abbrev pub version_row : ℕ → MetaRow
version_row version = record { name = codes "version"; val = pos version }

-- The rows about a store of version 1: its version, and the depth limit 8.
abbrev pub first_meta : List MetaRow
first_meta = version_row 1 ∷ record { name = codes "depth"; val = pos 8 } ∷ []

-- No row has this version.
abbrev pub LacksRow : ℕ → List Row → Type 0
LacksRow version rows =
    (k : ℕ) (d : Row) → k < length rows → slice_index_or rows k d ≢ meta_cells (version_row version)

-- The two rows of a store of version 1.
abbrev pub IsFirst : List Row → Type 0
IsFirst rows = IsPermutation (map meta_cells first_meta) rows

-- The result of checking the version: New; Second, if a row has version 2; First; Other, if a row
-- has another version and none has 1 or 2; otherwise Damaged.
abbrev pub IsAged : List Row → Age → Type 0
IsAged rows New = rows ≡ []
IsAged rows Second = ¬ LacksRow 2 rows
IsAged rows First = IsFirst rows
IsAged rows Other = HasOther rows × LacksRow 1 rows × LacksRow 2 rows
IsAged rows Damaged =
    (rows ≢ []) × LacksRow 2 rows × ¬ IsFirst rows × (HasOther rows → ¬ LacksRow 1 rows)
