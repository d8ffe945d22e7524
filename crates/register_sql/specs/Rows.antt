-- Defines which rows the tables of a store hold.
use Rattle.std.specs.Prelude.{◌≤◌, ℕ, Bool, List, [], ◌∷◌, map, drop, nat_lt, if◌then◌else◌, IsTrue}
use Rattle.std.specs.List.{AllByRecursion, IsDistinct}
use Rattle.std.specs.List.Sorted.{IsPermutation}
use Rattle.std.specs.Ordering.{is_eq}
use Rattle.sqlite.specs.Order.{Row}
use Rattle.sqlite.specs.Tree.{Trees, rowid}
use Rattle.sqlite.specs.declared.types.Value.TheVariants.{Null, Int, Text}
use Rattle.sqlite_catalog.specs.Listing.{IsSound}
use Rattle.sqlite_trees.specs.View.{is_int}
use Rattle.sqlite_value.specs.Order.{value_cmp}
use Rattle.register_store.specs.StoredRows.{Content, SetupRow, MetaRow, PostingRow, SpotRow}
use Rattle.register_store.specs.StoredRows.{LineRow, TermRow}
use Rattle.register_sql.specs.Tables.{prefix}

-- The cells of a row. In `setup` and `posting` the number is the rowid: it comes first, and its own
-- column has NULL. Rows of the other tables have a rowid before these cells, which a content leaves
-- out.
abbrev pub setup_cells : SetupRow → Row
setup_cells r = Int r.id ∷ Null ∷ Text r.text ∷ []

abbrev pub meta_cells : MetaRow → Row
meta_cells r = Text r.name ∷ Int r.val ∷ []

abbrev pub posting_cells : PostingRow → Row
posting_cells r = Int r.id ∷ Null ∷ Int r.station ∷ Int r.n ∷ Text r.body ∷ Int r.verdict ∷ []

abbrev pub spot_cells : SpotRow → Row
spot_cells r = Int r.thing ∷ Int r.k ∷ Int r.entry ∷ Int r.place ∷ Int r.day ∷ []

abbrev pub line_cells : LineRow → Row
line_cells r = Text r.loan ∷ Int r.object ∷ Int r.stage ∷ []

abbrev pub term_cells : TermRow → Row
term_cells r = Text r.loan ∷ Int r.day ∷ []

-- The rows of a table in a store of the first `made` tables. Empty if `place`, counted from 1, is
-- after those.
abbrev pub had : ℕ → ℕ → List Row → List Row
had place made rows = if nat_lt made place then [] else rows

-- A store of the first `made` tables holds this content, in any order of rows.
pub record HasPart (made : ℕ) (db : Trees) (c : Content) : Type 0 where
  pub meta : IsPermutation (map meta_cells c.meta) (map (drop 1) (had 1 made (db 0)))
  pub setup : IsPermutation (map setup_cells c.setup) (had 2 made (db 2))
  pub postings : IsPermutation (map posting_cells c.postings) (had 3 made (db 3))
  pub spots : IsPermutation (map spot_cells c.spots) (map (drop 1) (had 4 made (db 5)))
  pub lines : IsPermutation (map line_cells c.lines) (map (drop 1) (had 5 made (db 7)))
  pub terms : IsPermutation (map term_cells c.terms) (map (drop 1) (had 6 made (db 9)))

-- A whole store holds this content.
abbrev pub AreRows : Trees → Content → Type 0
AreRows = HasPart 6

-- The database is a store of some of the tables, and holds this content. Every database with the
-- right tables holds one content, and no other but for the order of its rows.
pub record IsStored (db : Trees) (c : Content) : Type 0 where
  pub made : ℕ
  pub few : made ≤ 6
  pub sound : IsSound (prefix made) db
  pub rows : HasPart made db c

-- The rowids are the same.
abbrev pub same_id : Row → Row → Bool
same_id a b = is_eq (value_cmp (rowid a) (rowid b))

-- The rowid is a number.
abbrev pub HasNumber : Row → Type 0
HasNumber r = IsTrue (is_int (rowid r))

-- the rowids are numbers
abbrev pub AreNumbered : List Row → Type 0
AreNumbered = AllByRecursion HasNumber

-- The rowids are numbers, and no two are the same.
pub record Apart (rows : List Row) : Type 0 where
  pub ints : AreNumbered rows
  pub differ : IsDistinct same_id rows
