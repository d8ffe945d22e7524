-- Defines the six tables of a store, in the order in which they are created. The first five alone
-- are a store of version 1. Each table and each index has its own tree; trees are numbered from 0
-- in the order of creation.
use Rattle.std.specs.Prelude.{◌≢◌, true, false, [], ◌∷◌, Some, None, codes, map, take, List, ℕ}
use Rattle.std.specs.Prelude.{zero, suc, Bool, Option}
use Rattle.sqlite.specs.Collation.TheVariants.{Binary}
use Rattle.sqlite.specs.Effect.{Database}
use Rattle.sqlite.specs.Kind.{Kind}
use Rattle.sqlite.specs.Kind.TheVariants.{Integer, Text}
use Rattle.sqlite.specs.Schema.{Schema}
use Rattle.sqlite.specs.Table.{Table}
use Rattle.sqlite.specs.declared.types.Value.TheVariants.{Null}
use Rattle.sqlite_schema.specs.declared.schema.Column.{Column}
use Rattle.sqlite_schema.specs.declared.schema.Index.{Index}
use Rattle.sqlite_value.specs.Keys.{plain}

-- A column of a STRICT table.
abbrev pub typed : List ℕ → Kind → Bool → Column
typed name kind not_null =
    record {
      name = name;
      kind = kind;
      is_strict = true;
      not_null = not_null;
      default = Null;
      collation = Binary;
    }

-- A table with no rules besides its columns and keys. Keys count columns from 1; 0 is the rowid.
abbrev pub table : List ℕ → ℕ → List Column → Option ℕ → List ℕ → List (List ℕ) → Table
table name tree columns key primary uniques = record {
  name = name;
  tree = tree;
  columns = columns;
  key = key;
  primary = primary;
  uniques = uniques;
  orders = map (λ _. plain) uniques;
  checks = [];
  references = [];
  computed = [];
  stamps = record { places = []; terms = []; formats = [] };
  is_counted = false;
}

-- The rows about the store: version and depth limit.
abbrev pub meta : Table
meta = table (codes "meta") 0
    (typed (codes "name") Text true ∷ typed (codes "val") Integer true ∷ []) None (1 ∷ [])
    ((1 ∷ []) ∷ [])

-- The rows of the setup.
abbrev pub setup : Table
setup = table (codes "setup") 2
    (typed (codes "id") Integer false ∷ typed (codes "txt") Text true ∷ []) (Some 0) (0 ∷ []) []

abbrev pub posting_columns : List Column
posting_columns =
    typed (codes "id") Integer false ∷ typed (codes "station") Integer true
    ∷ typed (codes "n") Integer true
    ∷ typed (codes "body") Text true ∷ typed (codes "verdict") Integer true ∷ []

-- The posted entries.
abbrev pub posting : Table
posting = table (codes "posting") 3 posting_columns (Some 0) (0 ∷ []) ((2 ∷ 3 ∷ []) ∷ [])

abbrev pub spot_columns : List Column
spot_columns =
    typed (codes "thing") Integer true ∷ typed (codes "k") Integer true
    ∷ typed (codes "entry") Integer true
    ∷ typed (codes "place") Integer true ∷ typed (codes "day") Integer true ∷ []

-- The spots of things.
abbrev pub spot : Table
spot = table (codes "spot") 5 spot_columns None (1 ∷ 2 ∷ []) ((1 ∷ 2 ∷ []) ∷ [])

abbrev pub line_columns : List Column
line_columns =
    typed (codes "loan") Text true ∷ typed (codes "object") Integer true
    ∷ typed (codes "stage") Integer true ∷ []

-- The objects of loans, with their stages.
abbrev pub line : Table
line = table (codes "line") 7 line_columns None (1 ∷ 2 ∷ []) ((1 ∷ 2 ∷ []) ∷ [])

-- The last days of loans.
abbrev pub term : Table
term = table (codes "term") 9
    (typed (codes "loan") Text true ∷ typed (codes "day") Integer true ∷ []) None (1 ∷ [])
    ((1 ∷ []) ∷ [])

-- The index that SQLite makes for a UNIQUE or a PRIMARY KEY.
abbrev pub automatic : List ℕ → ℕ → ℕ → List ℕ → Index
automatic name tree over key =
    record {
      name = name;
      tree = tree;
      table = over;
      columns = key;
      order = plain;
      is_unique = true;
    }

abbrev pub meta_index : Index
meta_index = automatic (codes "sqlite_autoindex_meta_1") 1 0 (1 ∷ [])

abbrev pub posting_index : Index
posting_index = automatic (codes "sqlite_autoindex_posting_1") 4 3 (2 ∷ 3 ∷ [])

abbrev pub spot_index : Index
spot_index = automatic (codes "sqlite_autoindex_spot_1") 6 5 (1 ∷ 2 ∷ [])

abbrev pub line_index : Index
line_index = automatic (codes "sqlite_autoindex_line_1") 8 7 (1 ∷ 2 ∷ [])

abbrev pub term_index : Index
term_index = automatic (codes "sqlite_autoindex_term_1") 10 9 (1 ∷ [])

-- A schema of these tables and indexes alone.
abbrev pub of_tables : List Table → List Index → Schema
of_tables tables indexes = record { tables = tables; indexes = indexes; views = [] }

-- The table of this number, from 0 in the order of creation.
abbrev pub table_at : ℕ → Table
table_at zero = meta
table_at (suc zero) = setup
table_at (suc (suc zero)) = posting
table_at (suc (suc (suc zero))) = spot
table_at (suc (suc (suc (suc zero)))) = line
table_at _ = term

-- The index of this number, from 0 in the order of creation.
abbrev pub index_at : ℕ → Index
index_at zero = meta_index
index_at (suc zero) = posting_index
index_at (suc (suc zero)) = spot_index
index_at (suc (suc (suc zero))) = line_index
index_at _ = term_index

abbrev pub all_tables : List Table
all_tables = meta ∷ setup ∷ posting ∷ spot ∷ line ∷ term ∷ []

abbrev pub all_indexes : List Index
all_indexes = meta_index ∷ posting_index ∷ spot_index ∷ line_index ∷ term_index ∷ []

-- The number of indexes that the first n tables have. `setup` has none.
abbrev pub index_count : ℕ → ℕ
index_count zero = 0
index_count (suc zero) = 1
index_count (suc n) = n

-- The schema of the first `made` tables: five are version 1, all six version 2.
abbrev pub prefix : ℕ → Schema
prefix made = of_tables (take made all_tables) (take (index_count made) all_indexes)

-- The schema of a whole store.
abbrev pub hub_schema : Schema
hub_schema = prefix 6

-- The tables are those of no store, whole or partly created.
abbrev pub IsNoStore : Database → Type 0
IsNoStore db = (made : ℕ) → db.schema ≢ prefix made
