-- The row that each INSERT of the store adds.
use Rattle.std.proofs.Common.{◌≡◌, ℕ, [], ◌∷◌, Ok, refl}
use Rattle.sqlite.specs.Edit.{next_rowid}
use Rattle.sqlite.specs.Order.{Row}
use Rattle.sqlite.specs.State.{State, Executes}
use Rattle.sqlite.specs.Tree.{Trees}
use Rattle.sqlite.specs.declared.types.Value.TheVariants.{Int, Text}
use Rattle.register_sql.specs.Changes.{Adds}
use Rattle.register_store.specs.StoredRows.{SetupRow, MetaRow, PostingRow, SpotRow, LineRow}
use Rattle.register_store.specs.StoredRows.{TermRow}
use Rattle.register_sql.specs.Rows.{setup_cells, meta_cells, posting_cells, spot_cells, line_cells}
use Rattle.register_sql.specs.Rows.{term_cells}
use Rattle.register_sql.specs.Tables.{meta, setup, posting, spot, line, term, hub_schema}
use Rattle.register_sql.proofs.Added.{added, cast_int, cast_null}
use Rattle.register_sql.proofs.Texts.{insert_meta, meta_terms, insert_meta_is, insert_meta_plain}
use Rattle.register_sql.proofs.Texts.{insert_setup, setup_terms, insert_setup_is}
use Rattle.register_sql.proofs.Texts.{insert_setup_plain, insert_posting, posting_terms}
use Rattle.register_sql.proofs.Texts.{insert_posting_is, insert_posting_plain, insert_spot}
use Rattle.register_sql.proofs.Texts.{spot_terms, insert_spot_is, insert_spot_plain, insert_line}
use Rattle.register_sql.proofs.Texts.{line_terms, insert_line_is, insert_line_plain, insert_term}
use Rattle.register_sql.proofs.Texts.{term_terms, insert_term_is, insert_term_plain}

-- the row under a rowid that the table chooses
abbrev pub under_next : ℕ → Row → Trees → Row
under_next t cells db = Int (next_rowid (db t)) ∷ cells

abbrev pub meta_params : MetaRow → Row
meta_params r = Text r.name ∷ Int r.val ∷ []

pub adds_meta : (old new : State) (r : MetaRow) (count : ℕ) → old.now.schema ≡ hub_schema
    → Executes insert_meta (meta_params r) old new (Ok count)
    → Adds 0 (under_next 0 (meta_cells r) old.now.trees) old.now new.now
adds_meta old new r =
    added insert_meta (meta_params r) 0 meta_terms 3 meta.name meta.tree meta.columns meta.key
    meta.primary meta.uniques insert_meta_is insert_meta_plain refl
    (under_next 0 (meta_cells r))
    (λ db. rw (cast_null, cast_int r.val)) old new

abbrev pub setup_params : SetupRow → Row
setup_params r = Int r.id ∷ Text r.text ∷ []

pub adds_setup : (old new : State) (r : SetupRow) (count : ℕ) → old.now.schema ≡ hub_schema
    → Executes insert_setup (setup_params r) old new (Ok count)
    → Adds 2 (setup_cells r) old.now new.now
adds_setup old new r =
    added insert_setup (setup_params r) 1 setup_terms 3 setup.name setup.tree setup.columns
    setup.key setup.primary setup.uniques insert_setup_is insert_setup_plain refl
    (λ _. setup_cells r)
    (λ db. rw (cast_null, cast_int r.id)) old new

abbrev pub posting_params : PostingRow → Row
posting_params r = Int r.id ∷ Int r.station ∷ Int r.n ∷ Text r.body ∷ Int r.verdict ∷ []

pub adds_posting : (old new : State) (r : PostingRow) (count : ℕ) → old.now.schema ≡ hub_schema
    → Executes insert_posting (posting_params r) old new (Ok count)
    → Adds 3 (posting_cells r) old.now new.now
adds_posting old new r =
    added insert_posting (posting_params r) 2 posting_terms 6 posting.name posting.tree
    posting.columns posting.key posting.primary posting.uniques insert_posting_is
    insert_posting_plain refl (λ _. posting_cells r)
    (λ db. rw (cast_null, cast_int r.id, cast_int r.station, cast_int r.n, cast_int r.verdict)) old
    new

abbrev pub spot_params : SpotRow → Row
spot_params = spot_cells

pub adds_spot : (old new : State) (r : SpotRow) (count : ℕ) → old.now.schema ≡ hub_schema
    → Executes insert_spot (spot_params r) old new (Ok count)
    → Adds 5 (under_next 5 (spot_cells r) old.now.trees) old.now new.now
adds_spot old new r =
    added insert_spot (spot_params r) 3 spot_terms 6 spot.name spot.tree spot.columns spot.key
    spot.primary spot.uniques insert_spot_is insert_spot_plain refl
    (under_next 5 (spot_cells r))
    (λ db. rw (
      cast_null,
      cast_int r.thing,
      cast_int r.k,
      cast_int r.entry,
      cast_int r.place,
      cast_int r.day,
    )) old new

abbrev pub line_params : LineRow → Row
line_params = line_cells

pub adds_line : (old new : State) (r : LineRow) (count : ℕ) → old.now.schema ≡ hub_schema
    → Executes insert_line (line_params r) old new (Ok count)
    → Adds 7 (under_next 7 (line_cells r) old.now.trees) old.now new.now
adds_line old new r =
    added insert_line (line_params r) 4 line_terms 4 line.name line.tree line.columns line.key
    line.primary line.uniques insert_line_is insert_line_plain refl
    (under_next 7 (line_cells r))
    (λ db. rw (cast_null, cast_int r.object, cast_int r.stage)) old new

abbrev pub term_params : TermRow → Row
term_params = term_cells

pub adds_term : (old new : State) (r : TermRow) (count : ℕ) → old.now.schema ≡ hub_schema
    → Executes insert_term (term_params r) old new (Ok count)
    → Adds 9 (under_next 9 (term_cells r) old.now.trees) old.now new.now
adds_term old new r =
    added insert_term (term_params r) 5 term_terms 3 term.name term.tree term.columns term.key
    term.primary term.uniques insert_term_is insert_term_plain refl
    (under_next 9 (term_cells r))
    (λ db. rw (cast_null, cast_int r.day)) old new
