-- The definitions computed on a worked store, and on other databases.
use lib.Ieee.{is_nan, lt}
use Rattle.std.specs.Prelude.{◌≡◌, ◌-◌, ◌^◌, ℕ, pos, negsuc, List, [], ◌∷◌, map, codes}
use Rattle.std.specs.Prelude.{slice_index_or, true, false, Some, None, refl}
use Rattle.std.proofs.Common.{arith, inl, inr, lit<, ⊎_elim}
use Rattle.std.specs.List.{IsDistinct}
use Rattle.std.proofs.lemmas.List.Sorted.{IsPermutation-refl, IsPermutation-middle}
use Rattle.std.proofs.lemmas.List.Sorted.{length_permutation}
use Rattle.sqlite.specs.Edit.{is_taken}
use Rattle.sqlite.specs.Order.{Row}
use Rattle.sqlite.specs.State.{State}
use Rattle.sqlite.specs.Tree.{Trees}
use Rattle.sqlite.specs.declared.types.Value.TheVariants.{Null, Int, Text}
use Rattle.sqlite_catalog.specs.Listing.{IsSound}
use Rattle.sqlite_trees.specs.View.{doubt}
use Rattle.sqlite_value.specs.Order.{value_cmp}
use Rattle.posting_core.specs.declared.entry.NewLine.{NewLine}
use Rattle.posting_core.specs.declared.entry.NewSpot.{NewSpot}
use Rattle.posting_core.specs.declared.stage.LineStage.TheVariants.{Awaiting, Away, Back}
use Rattle.register_store.specs.StoredRows.{Content, SetupRow, PostingRow, TermRow, rows_of_meta}
use Rattle.register_store.specs.StoredRows.{spot_row, line_row}
use Rattle.register_store.specs.declared.store_fault.StoreFault.TheVariants.{NoMemory, Store}
use Rattle.nest_core.specs.Museum.{Museum}
use Rattle.register_sql.specs.Binding.{IsSettled, IsUnfitFor, IsUnfitNew}
use Rattle.register_sql.specs.Fits.{FitsSpot, IsNoSpot, IsNoLine, IsNoTerm}
use Rattle.register_sql.specs.Making.{MakesWhole, setup_from}
use Rattle.register_sql.specs.Posting.{with_posting, with_spot, with_line, without_line, with_each}
use Rattle.register_sql.specs.Posting.{with_some_term}
use Rattle.register_sql.specs.Queries.{shown_in, AreApart}
use Rattle.register_sql.specs.Rows.{HasPart, AreRows, had, spot_cells, line_cells, same_id}
use Rattle.register_sql.specs.Says.{IsOther, IsIdentity, metas_in, setup_in, setup_rows_shown}
use Rattle.register_sql.specs.Stores.{in_store, no_rows, counted}
use Rattle.register_sql.specs.Tables.{hub_schema, table_at, index_at, all_tables, all_indexes}
use Rattle.register_sql.specs.Tables.{index_count}
use Rattle.register_sql.specs.declared.queries.Query.TheVariants.{Metas, Setups, Postings, Spots}
use Rattle.register_sql.specs.declared.queries.Query.TheVariants.{Lines, Terms, LineIds}
use Rattle.register_sql.specs.declared.identity.Identity.TheVariants as told

-- ---- a store with an entry, its spot, two lines of a loan and its last day

abbrev setup_row : ℕ → List ℕ → SetupRow
setup_row id text = record { id = pos id; text = text }

abbrev texts : List (List ℕ)
texts = codes "station,PACK" ∷ codes "place,S1,inside" ∷ codes "own,2001.4.1,S1" ∷ []

abbrev setup : List SetupRow
setup = setup_row 1 (codes "station,PACK") ∷ setup_row 2 (codes "place,S1,inside") ∷ setup_row 3
    (codes "own,2001.4.1,S1") ∷ []

abbrev body : List ℕ
body = codes "the text of a message"

abbrev entry : PostingRow
entry = record { id = pos 1; station = pos 0; n = pos 1; body = body; verdict = pos 0 }

abbrev spot : NewSpot
spot = record { thing = 0; k = 1; spot = record { entry = 1; place = 0; day = pos 19844 } }

abbrev loan : List ℕ
loan = codes "LO2024.1"

abbrev away : NewLine
away = record { loan = loan; object = 0; stage = Away }

abbrev awaited : NewLine
awaited = record { loan = loan; object = 1; stage = Awaiting }

abbrev last : TermRow
last = record { loan = loan; day = pos 19874 }

abbrev worked : Content
worked = record {
  setup = setup;
  meta = rows_of_meta 12;
  postings = entry ∷ [];
  spots = spot_row spot ∷ [];
  lines = line_row away ∷ line_row awaited ∷ [];
  terms = last ∷ [];
}

-- the rows of its tables, in their trees: a rowid comes first if no column is it
abbrev meta_table : List Row
meta_table = (Int (pos 1) ∷ Text (codes "depth") ∷ Int (pos 12) ∷ [])
    ∷ (Int (pos 2) ∷ Text (codes "version") ∷ Int (pos 2) ∷ []) ∷ []

abbrev setup_table : List Row
setup_table =
    (Int (pos 1) ∷ Null ∷ Text (codes "station,PACK") ∷ [])
    ∷ (Int (pos 2) ∷ Null ∷ Text (codes "place,S1,inside") ∷ [])
    ∷ (Int (pos 3) ∷ Null ∷ Text (codes "own,2001.4.1,S1") ∷ []) ∷ []

abbrev posting_table : List Row
posting_table = (Int (pos 1) ∷ Null ∷ Int (pos 0) ∷ Int (pos 1) ∷ Text body ∷ Int (pos 0) ∷ []) ∷ []

abbrev spot_table : List Row
spot_table =
    (Int (pos 1) ∷ Int (pos 0) ∷ Int (pos 1) ∷ Int (pos 1) ∷ Int (pos 0)
    ∷ Int (pos 19844) ∷ []) ∷ []

abbrev line_table : List Row
line_table = (Int (pos 4) ∷ Text loan ∷ Int (pos 0) ∷ Int (pos 1) ∷ [])
    ∷ (Int (pos 7) ∷ Text loan ∷ Int (pos 1) ∷ Int (pos 0) ∷ []) ∷ []

abbrev term_table : List Row
term_table = (Int (pos 2) ∷ Text loan ∷ Int (pos 19874) ∷ []) ∷ []

abbrev tables : Trees
tables t = slice_index_or (meta_table ∷ [] ∷ setup_table ∷ posting_table ∷ [] ∷ spot_table ∷ []
    ∷ line_table ∷ [] ∷ term_table ∷ []) t []

abbrev says : List ℕ → ℕ → Row
says name val = Text name ∷ Int (pos val) ∷ []

-- the tables hold these rows; those of `meta` have the depth limit first
held : AreRows tables worked
held = record {
  meta = IsPermutation-middle (says (codes "version") 2 ∷ []) (says (codes "depth") 12) [];
  setup = IsPermutation-refl _;
  postings = IsPermutation-refl _;
  spots = IsPermutation-refl _;
  lines = IsPermutation-refl _;
  terms = IsPermutation-refl _;
}

-- and no content that differs in one row
spot_missing : AreRows tables (record worked { spots = [] }) → ⊥
spot_missing h = absurd (omega (arith, length_permutation _ _ h.spots))

-- in a store of the first two tables, the other tables hold nothing
first_two : HasPart 2 tables (record worked { postings = []; spots = []; lines = []; terms = [] })
first_two = record {
  meta = held.meta;
  setup = held.setup;
  postings = IsPermutation-refl [];
  spots = IsPermutation-refl [];
  lines = IsPermutation-refl [];
  terms = IsPermutation-refl [];
}

had-three : map (λ made. had 3 made posting_table) (0 ∷ 2 ∷ 3 ∷ 6 ∷ []) ≡ [] ∷ [] ∷ posting_table
    ∷ posting_table ∷ []
had-three = refl

-- ---- an open connection to it, between two transactions

abbrev at_rest : State
at_rest = record {
  now = record { schema = hub_schema; trees = tables };
  committed = record { schema = hub_schema; trees = tables };
  in_transaction = false;
  marks = [];
  is_open = true;
  is_clean = true;
  faults = 0;
  blamed = None;
  changes = 0;
  last_rowid = pos 0;
  step_limit = None;
  may_leave = λ db. db ≡ tables;
  IsShielded = Unit {0};
}

rests : IsSettled at_rest
rests = record { is_open = refl; settled = refl }

quiet : (in_store at_rest).is_quiet
unfolding doubt
quiet = refl

-- it may hold these rows, if its database obeys the tables
may_hold : IsSound hub_schema tables → (in_store at_rest).holds worked
may_hold sound = (tables, refl, record { made = 6; few = omega arith; sound = sound; rows = held })

shut-at_rest : IsSettled (record at_rest { is_open = false }) → ⊥
shut-at_rest h = absurd (let e : false ≡ true = h.is_open in cc)

-- each fault, and how often the register has then refused
counts : map (counted 3) (NoMemory ∷ Store ∷ []) ≡ 3 ∷ 4 ∷ []
counts = refl

counts-most : counted (2 ^ 64 - 1) Store ≡ 2 ^ 64 - 1
counts-most = refl

-- ---- the columns that the queries return of it

shown-metas : shown_in Metas tables ≡ (Text (codes "depth") ∷ Int (pos 12) ∷ [])
    ∷ (Text (codes "version") ∷ Int (pos 2) ∷ []) ∷ []
shown-metas = refl

shown-setups : shown_in Setups tables ≡ setup_rows_shown texts
shown-setups = refl

shown-postings : shown_in Postings tables
    ≡ (Int (pos 1) ∷ Int (pos 0) ∷ Int (pos 1) ∷ Text body ∷ Int (pos 0) ∷ []) ∷ []
shown-postings = refl

shown-spots : shown_in Spots tables ≡ spot_cells (spot_row spot) ∷ []
shown-spots = refl

shown-lines : shown_in Lines tables ≡ line_cells (line_row away)
    ∷ line_cells (line_row awaited) ∷ []
shown-lines = refl

shown-terms : shown_in Terms tables ≡ (Text loan ∷ Int (pos 19874) ∷ []) ∷ []
shown-terms = refl

shown-ids : shown_in LineIds tables ≡ (Int (pos 4) ∷ []) ∷ (Int (pos 7) ∷ []) ∷ []
shown-ids = refl

setup-unmade : map (λ made. setup_in made tables) (1 ∷ 2 ∷ []) ≡ [] ∷ setup_rows_shown texts ∷ []
setup-unmade = refl

metas-unmade : map (λ made. metas_in made tables) (0 ∷ 1 ∷ []) ≡ [] ∷ shown_in Metas tables ∷ []
metas-unmade = refl

-- ---- rowids

apart : AreApart 6 tables
unfolding IsDistinct value_cmp is_nan lt
apart = record {
  setup = record {
    ints = (refl, (refl, (refl, tt)));
    differ = ((refl, (refl, tt)), ((refl, tt), (tt, tt)));
  };
  postings = record { ints = (refl, tt); differ = (tt, tt) };
  lines = record { ints = (refl, (refl, tt)); differ = ((refl, tt), (tt, tt)) };
  terms = record { ints = (refl, tt); differ = (tt, tt) };
}

-- it is unfit for no setup, if its database obeys the tables
says_something : IsSound hub_schema tables → IsUnfitNew at_rest.now → ⊥
says_something sound h =
    absurd (let e : false ≡ true = h.new worked
    (record { made = 6; few = omega arith; sound = sound; rows = held }) in cc)

fit : (S : Museum) → IsSound hub_schema tables → IsUnfitFor S at_rest.now → ⊥
fit S sound (inl h) = h 6 refl
fit S sound (inr (inl h)) = says_something sound h
fit S sound (inr (inr h)) = ⊎_elim (λ other. other refl) (λ not. not apart) h.unfit

twice : same_id (Int (pos 4) ∷ Text loan ∷ []) (Int (pos 4) ∷ []) ≡ true
unfolding value_cmp is_nan lt
twice = refl

taken : map (λ id. is_taken line_table (Int (pos id) ∷ [])) (4 ∷ 5 ∷ 7 ∷ []) ≡ true
    ∷ false ∷ true ∷ []
unfolding value_cmp is_nan lt
taken = refl

-- ---- its rows about itself

says_whole : IsIdentity (shown_in Metas tables) (told.Bound 12)
says_whole = (refl, held.meta)

says_nothing : IsIdentity [] told.New
says_nothing = refl

version_one : IsOther (Text (codes "version") ∷ Int (pos 1) ∷ [])
version_one = (pos 1, refl, λ is. cc)

version_two : IsOther (Text (codes "version") ∷ Int (pos 2) ∷ []) → ⊥
version_two h = h.2 (let e = h.1 in cc)

-- ---- making the store

new_setup : setup_from 1 texts ≡ setup
new_setup = refl

abbrev made_tables : Trees
made_tables t = slice_index_or (meta_table ∷ [] ∷ setup_table ∷ []) t []

made_whole : MakesWhole 0 setup (rows_of_meta 12) tables made_tables
made_whole = record {
  meta = held.meta;
  setup_is = held.setup;
  postings = refl;
  spots = refl;
  lines = refl;
  terms = refl;
}

-- ---- posted

posted : with_posting entry (with_spot (spot_row spot) no_rows) ≡ record no_rows
    { postings = entry ∷ []; spots = spot_row spot ∷ [] }
posted = refl

-- a line replaces that of its object, and no other
back : (with_line (line_row (record away { stage = Back })) worked).lines
    ≡ line_row (record away { stage = Back }) ∷ line_row awaited ∷ []
back = refl

without : (without_line (line_row away) worked).lines ≡ line_row awaited ∷ []
without = refl

both : (with_each (λ l. with_line (line_row l)) (away ∷ awaited ∷ []) no_rows).lines
    ≡ line_row awaited ∷ line_row away ∷ []
both = refl

later : (with_some_term (Some (record last { day = pos 19904 })) worked).terms ≡ record last
    { day = pos 19904 } ∷ []
later = refl

no_later : (with_some_term None worked).terms ≡ last ∷ []
no_later = refl

-- ---- the rows that can be those of a spot

fits : FitsSpot spot
fits = record {
  thing = lit< tt;
  k = lit< tt;
  entry = lit< tt;
  place = lit< tt;
  day = record { from = record { le = tt }; to = record { le = tt } };
}

-- a text in place of a number, a row of four cells, and a number out of range
no_spot-text : IsNoSpot (Text loan ∷ Int (pos 1) ∷ Int (pos 1) ∷ Int (pos 0) ∷ Int (pos 19844) ∷ [])
no_spot-text s fit is = cc

no_spot-short : IsNoSpot (Int (pos 0) ∷ Int (pos 1) ∷ Int (pos 1) ∷ Int (pos 0) ∷ [])
no_spot-short s fit is = cc

no_spot-below : IsNoSpot (Int (negsuc 0) ∷ Int (pos 1) ∷ Int (pos 1) ∷ Int (pos 0)
    ∷ Int (pos 19844) ∷ [])
no_spot-below s fit is = cc

no_line-null : IsNoLine (Null ∷ Int (pos 0) ∷ Int (pos 1) ∷ [])
no_line-null l fit is = cc

no_term-null : IsNoTerm (Text loan ∷ Null ∷ [])
no_term-null t fit is = cc

-- ---- the tables by their numbers, and how many indexes the first of them have

tables_in_turn : map table_at (0 ∷ 1 ∷ 2 ∷ 3 ∷ 4 ∷ 5 ∷ []) ≡ all_tables
tables_in_turn = refl

indexes_in_turn : map index_at (0 ∷ 1 ∷ 2 ∷ 3 ∷ 4 ∷ []) ≡ all_indexes
indexes_in_turn = refl

index_counts : map index_count (0 ∷ 1 ∷ 2 ∷ 3 ∷ 4 ∷ 5 ∷ 6 ∷ []) ≡ 0 ∷ 1 ∷ 1 ∷ 2 ∷ 3 ∷ 4 ∷ 5 ∷ []
index_counts = refl
