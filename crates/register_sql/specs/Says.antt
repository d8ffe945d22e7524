-- Defines the information about a store in the rows of `meta` and `setup`, in the order in which it
-- is checked.
use Rattle.std.specs.Prelude.{◌≡◌, ◌≢◌, ◌<◌, ℕ, ℤ, pos, true, List, [], ◌∷◌, length, slice_index_or}
use Rattle.std.specs.Prelude.{map, codes}
use Rattle.std.specs.List.Sorted.{IsPermutation}
use Rattle.nest_core.specs.Museum.{Museum}
use Rattle.nest_core.specs.SetupTexts.{setup_rows}
use Rattle.sqlite.specs.Order.{Row}
use Rattle.sqlite.specs.Tree.{Trees}
use Rattle.sqlite.specs.declared.types.Value.TheVariants.{Int, Text}
use Rattle.register_store.specs.StoredRows.{rows_of_meta, is_depth}
use Rattle.register_sql.specs.Making.{setup_from}
use Rattle.register_sql.specs.Rows.{had, meta_cells}
use Rattle.register_sql.specs.Shown.{shown_meta, shown_setup, setup_shown}
use Rattle.register_sql.specs.declared.identity.Identity.{Identity}
use Rattle.register_sql.specs.declared.identity.Identity.TheVariants.{New, OtherVersion, Damaged}
use Rattle.register_sql.specs.declared.identity.Identity.TheVariants.{Bound}

-- A version other than 2.
abbrev pub IsOther : Row → Type 0
IsOther row = (n : ℤ) × (row ≡ Text (codes "version") ∷ Int n ∷ []) × (n ≢ pos 2)

-- One of the rows has a version other than 2.
abbrev pub HasOther : List Row → Type 0
HasOther rows =
    (k : ℕ) × (row : Row) × (k < length rows) × (row ≡ slice_index_or rows k row) × IsOther row

-- The two rows of a store with this depth limit.
abbrev pub IsWhole : ℕ → List Row → Type 0
IsWhole depth rows = IsPermutation (map meta_cells (rows_of_meta depth)) rows

-- The result of checking `meta`: New, OtherVersion, Damaged, or Bound with this depth limit.
abbrev pub IsIdentity : List Row → Identity → Type 0
IsIdentity rows New = rows ≡ []
IsIdentity rows OtherVersion = HasOther rows
IsIdentity rows Damaged =
    (rows ≢ []) × ¬ HasOther rows × ((depth : ℕ) → is_depth depth ≡ true → ¬ IsWhole depth rows)
IsIdentity rows (Bound depth) = (is_depth depth ≡ true) × IsWhole depth rows

-- The rows about itself that the query returns of a store of the first `made` tables.
abbrev pub metas_in : ℕ → Trees → List Row
metas_in made db = map shown_meta (had 1 made (db 0))

-- The setup with these texts, as the query returns it.
abbrev pub setup_rows_shown : List (List ℕ) → List Row
setup_rows_shown texts = map setup_shown (setup_from 1 texts)

-- The setup that the query returns of a store of the first `made` tables.
abbrev pub setup_in : ℕ → Trees → List Row
setup_in made db = map shown_setup (had 2 made (db 2))

-- A store of the first `made` tables has this setup.
abbrev pub HasSetup : Museum → ℕ → Trees → Type 0
HasSetup S made db = IsPermutation (setup_rows_shown (setup_rows S)) (setup_in made db)
