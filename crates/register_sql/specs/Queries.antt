-- Defines the queries of a store: their text, table and columns. Each returns its rows in the order
-- of their rowids.
use Rattle.std.specs.Prelude.{◌≡◌, ℕ, Bool, true, false, List, map, codes, IsTrue}
use Rattle.std.specs.List.Sorted.{IsSorted}
use Rattle.sqlite.specs.Effect.{IsDatabase}
use Rattle.sqlite.specs.Order.{Row}
use Rattle.sqlite.specs.State.{State}
use Rattle.sqlite.specs.Tree.{Trees}
use Rattle.register_sql.specs.Rows.{had, Apart}
use Rattle.register_sql.specs.Shown.{shown_meta, shown_setup, shown_posting, shown_spot, shown_line}
use Rattle.register_sql.specs.Shown.{shown_term, shown_id, id_cmp}
use Rattle.register_sql.specs.Tables.{prefix}
use Rattle.register_sql.specs.declared.queries.Query.{Query}
use Rattle.register_sql.specs.declared.queries.Query.TheVariants.{Metas, Setups, Postings, Spots}
use Rattle.register_sql.specs.declared.queries.Query.TheVariants.{Lines, Terms, MetaIds, SetupIds}
use Rattle.register_sql.specs.declared.queries.Query.TheVariants.{PostingIds, LineIds, TermIds}

-- The text of the query.
abbrev pub text_of : Query → List ℕ
text_of Metas = codes "SELECT name, val FROM meta ORDER BY rowid"
text_of Setups = codes "SELECT id, txt FROM setup ORDER BY id"
text_of Postings = codes "SELECT id, station, n, body, verdict FROM posting ORDER BY id"
text_of Spots = codes "SELECT thing, k, entry, place, day FROM spot ORDER BY rowid"
text_of Lines = codes "SELECT loan, object, stage FROM line ORDER BY rowid"
text_of Terms = codes "SELECT loan, day FROM term ORDER BY rowid"
text_of MetaIds = codes "SELECT rowid FROM meta ORDER BY rowid"
text_of SetupIds = codes "SELECT id FROM setup ORDER BY id"
text_of PostingIds = codes "SELECT id FROM posting ORDER BY id"
text_of LineIds = codes "SELECT rowid FROM line ORDER BY rowid"
text_of TermIds = codes "SELECT rowid FROM term ORDER BY rowid"

-- The tree of the query's table.
abbrev pub tree_of : Query → ℕ
tree_of Metas = 0
tree_of Setups = 2
tree_of Postings = 3
tree_of Spots = 5
tree_of Lines = 7
tree_of Terms = 9
tree_of MetaIds = 0
tree_of SetupIds = 2
tree_of PostingIds = 3
tree_of LineIds = 7
tree_of TermIds = 9

-- How many of its tables a store must have for this query. Postings are read only of a store that
-- has at least all five tables of version 1.
abbrev pub least_of : Query → ℕ
least_of Metas = 1
least_of Setups = 2
least_of Postings = 5
least_of Spots = 6
least_of Lines = 6
least_of Terms = 6
least_of MetaIds = 1
least_of SetupIds = 2
least_of PostingIds = 3
least_of LineIds = 5
least_of TermIds = 6

-- The columns that the query returns of a row.
abbrev pub shown_by : Query → Row → Row
shown_by Metas = shown_meta
shown_by Setups = shown_setup
shown_by Postings = shown_posting
shown_by Spots = shown_spot
shown_by Lines = shown_line
shown_by Terms = shown_term
shown_by MetaIds = shown_id
shown_by SetupIds = shown_id
shown_by PostingIds = shown_id
shown_by LineIds = shown_id
shown_by TermIds = shown_id

-- The first column is the rowid.
abbrev pub shows_id : Query → Bool
shows_id Metas = false
shows_id Setups = true
shows_id Postings = true
shows_id Spots = false
shows_id Lines = false
shows_id Terms = false
shows_id MetaIds = true
shows_id SetupIds = true
shows_id PostingIds = true
shows_id LineIds = true
shows_id TermIds = true

-- The columns of all rows in the query's table.
abbrev pub shown_in : Query → Trees → List Row
shown_in query db = map (shown_by query) (db (tree_of query))

-- If the first column is the rowid, the rows come in its order.
abbrev pub IsInOrder : Query → List Row → Type 0
IsInOrder query rows = shows_id query ≡ true → IsSorted id_cmp rows

-- An open connection to a sound store of the first `made` tables, with no transaction.
pub record IsPart (made : ℕ) (s : State) : Type 0 where
  pub is_open : IsTrue s.is_open
  pub settled : s.now ≡ s.committed
  pub schema : s.now.schema ≡ prefix made
  pub sound : IsDatabase s.now

-- The connection was open and still is, and has the same database.
pub record IsSame (old new : State) : Type 0 where
  pub was_open : IsTrue old.is_open
  pub is_open : IsTrue new.is_open
  pub now : new.now ≡ old.now
  pub committed : new.committed ≡ old.committed

-- The rowids of the query's table, if it is there, are numbers that differ.
abbrev pub IsApartIn : Query → ℕ → Trees → Type 0
IsApartIn query made db = Apart (had (least_of query) made (db (tree_of query)))

-- In the tables that are there, the rowids of the setup, the entries, the loan lines and the last
-- days are numbers that differ.
pub record AreApart (made : ℕ) (db : Trees) : Type 0 where
  pub setup : Apart (had 2 made (db 2))
  pub postings : Apart (had 3 made (db 3))
  pub lines : Apart (had 5 made (db 7))
  pub terms : Apart (had 6 made (db 9))
