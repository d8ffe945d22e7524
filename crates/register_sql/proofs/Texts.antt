-- The meaning of the statements that write a whole store, and of a query of a table in the order of
-- its rowids.
use Rattle.std.proofs.Common.{◌≡◌, ℕ, pos, negsuc, List, [], ◌∷◌, codes, false, None, refl}
use Rattle.sqlite.specs.declared.types.Value.TheVariants.{Null, Int}
use Rattle.sqlite.specs.Term.{Term, lit, col, op2}
use Rattle.sqlite.specs.Query.{Query, inner, end}
use Rattle.sqlite.specs.Collation.TheVariants.{Binary}
use Rattle.sqlite_sql.specs.declared.ops.BinaryOp.TheVariants.{Compare}
use Rattle.sqlite_sql.specs.declared.ops.CompareOp.TheVariants.{Eq}
use Rattle.sqlite_value.specs.Keys.{ascending}
use Rattle.sqlite.specs.Source.TheVariants.{Values}
use Rattle.sqlite.specs.Command.TheVariants.{Insert, Delete}
use Rattle.sqlite_tied.specs.Compute.{everything}
use Rattle.sqlite.specs.Listing.{understood}
use Rattle.sqlite.proofs.Callers.{IsPlain, command_of}
use Rattle.register_sql.specs.Tables.{hub_schema}

abbrev pub insert_meta : List ℕ
insert_meta = codes "INSERT INTO meta (name, val) VALUES (?1, ?2)"

abbrev pub meta_terms : List Term
meta_terms = lit Null ∷ col 0 0 ∷ col 0 1 ∷ []

pub insert_meta_is : command_of (understood hub_schema insert_meta) ≡ Insert 0 (Values meta_terms 3)
unfolding understood everything
insert_meta_is = refl

pub insert_meta_plain : IsPlain (understood hub_schema insert_meta)
unfolding understood everything
insert_meta_plain = (refl, refl)

abbrev pub insert_setup : List ℕ
insert_setup = codes "INSERT INTO setup (id, txt) VALUES (?1, ?2)"

abbrev pub setup_terms : List Term
setup_terms = col 0 0 ∷ lit Null ∷ col 0 1 ∷ []

pub insert_setup_is : command_of (understood hub_schema insert_setup)
    ≡ Insert 1 (Values setup_terms 3)
unfolding understood everything
insert_setup_is = refl

pub insert_setup_plain : IsPlain (understood hub_schema insert_setup)
unfolding understood everything
insert_setup_plain = (refl, refl)

abbrev pub insert_posting : List ℕ
insert_posting =
    codes "INSERT INTO posting (id, station, n, body, verdict) VALUES (?1, ?2, ?3, ?4, ?5)"

abbrev pub posting_terms : List Term
posting_terms = col 0 0 ∷ lit Null ∷ col 0 1 ∷ col 0 2 ∷ col 0 3 ∷ col 0 4 ∷ []

pub insert_posting_is : command_of (understood hub_schema insert_posting)
    ≡ Insert 2 (Values posting_terms 6)
unfolding understood everything
insert_posting_is = refl

pub insert_posting_plain : IsPlain (understood hub_schema insert_posting)
unfolding understood everything
insert_posting_plain = (refl, refl)

abbrev pub insert_spot : List ℕ
insert_spot = codes "INSERT INTO spot (thing, k, entry, place, day) VALUES (?1, ?2, ?3, ?4, ?5)"

abbrev pub spot_terms : List Term
spot_terms = lit Null ∷ col 0 0 ∷ col 0 1 ∷ col 0 2 ∷ col 0 3 ∷ col 0 4 ∷ []

pub insert_spot_is : command_of (understood hub_schema insert_spot) ≡ Insert 3 (Values spot_terms 6)
unfolding understood everything
insert_spot_is = refl

pub insert_spot_plain : IsPlain (understood hub_schema insert_spot)
unfolding understood everything
insert_spot_plain = (refl, refl)

abbrev pub insert_line : List ℕ
insert_line = codes "INSERT INTO line (loan, object, stage) VALUES (?1, ?2, ?3)"

abbrev pub line_terms : List Term
line_terms = lit Null ∷ col 0 0 ∷ col 0 1 ∷ col 0 2 ∷ []

pub insert_line_is : command_of (understood hub_schema insert_line) ≡ Insert 4 (Values line_terms 4)
unfolding understood everything
insert_line_is = refl

pub insert_line_plain : IsPlain (understood hub_schema insert_line)
unfolding understood everything
insert_line_plain = (refl, refl)

abbrev pub insert_term : List ℕ
insert_term = codes "INSERT INTO term (loan, day) VALUES (?1, ?2)"

abbrev pub term_terms : List Term
term_terms = lit Null ∷ col 0 0 ∷ col 0 1 ∷ []

pub insert_term_is : command_of (understood hub_schema insert_term) ≡ Insert 5 (Values term_terms 3)
unfolding understood everything
insert_term_is = refl

pub insert_term_plain : IsPlain (understood hub_schema insert_term)
unfolding understood everything
insert_term_plain = (refl, refl)

-- rows of a table, with all returned columns, in no order
abbrev pub query_of : ℕ → List Term → List Term → Query
query_of tree filter project = record {
  from = inner tree end;
  filter = filter;
  group = None;
  project = project;
  distinct = false;
  collations = [];
  order = [];
  limit = lit (Int (negsuc 0));
  offset = lit (Int (pos 0));
}

-- in the order of rowids
abbrev pub ordered_by_rowid : ℕ → List Term → Query
ordered_by_rowid tree project =
    record (query_of tree [] project) { order = (col 1 0, ascending Binary) ∷ [] }

-- a column of the row is a parameter
abbrev pub is_given : ℕ → ℕ → Term
is_given column param = op2 (Compare Eq Binary) (col 1 column) (col 0 param)

abbrev pub deletes : ℕ → List Term → Query
deletes tree filter = query_of tree filter (col 1 0 ∷ [])

abbrev pub delete_setup : List ℕ
delete_setup = codes "DELETE FROM setup"

abbrev pub setup_key : List Term
setup_key = []

pub delete_setup_is : command_of (understood hub_schema delete_setup)
    ≡ Delete 1 (record { lets = []; body = deletes 2 setup_key })
unfolding understood everything
delete_setup_is = refl

pub delete_setup_plain : IsPlain (understood hub_schema delete_setup)
unfolding understood everything
delete_setup_plain = (refl, refl)

abbrev pub delete_line : List ℕ
delete_line = codes "DELETE FROM line WHERE loan = ?1 AND object = ?2"

abbrev pub line_key : List Term
line_key = is_given 1 0 ∷ is_given 2 1 ∷ []

pub delete_line_is : command_of (understood hub_schema delete_line)
    ≡ Delete 4 (record { lets = []; body = deletes 7 line_key })
unfolding understood everything
delete_line_is = refl

pub delete_line_plain : IsPlain (understood hub_schema delete_line)
unfolding understood everything
delete_line_plain = (refl, refl)

abbrev pub delete_term : List ℕ
delete_term = codes "DELETE FROM term WHERE loan = ?1"

abbrev pub term_key : List Term
term_key = is_given 1 0 ∷ []

pub delete_term_is : command_of (understood hub_schema delete_term)
    ≡ Delete 5 (record { lets = []; body = deletes 9 term_key })
unfolding understood everything
delete_term_is = refl

pub delete_term_plain : IsPlain (understood hub_schema delete_term)
unfolding understood everything
delete_term_plain = (refl, refl)
