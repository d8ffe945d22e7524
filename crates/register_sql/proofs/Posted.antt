-- The effect of a posting's statements on the rows that a store holds.
use Rattle.std.proofs.Common.{◌≡◌, ℕ, List, ◌∷◌, map, drop, false, Ok, Err, Result, OnOk, refl, sym}
use Rattle.std.proofs.Common.{subst, ◌∙◌, arith}
use Rattle.std.specs.List.Sorted.{IsPermutation}
use Rattle.std.proofs.lemmas.List.Sorted.{IsPermutation-trans, IsPermutation-cons}
use Rattle.std.proofs.lemmas.List.Sorted.{IsPermutation-map}
use Rattle.sqlite.specs.Edit.{is_taken}
use Rattle.sqlite.specs.Effect.{Database, IsDatabase}
use Rattle.sqlite.specs.Order.{Row}
use Rattle.sqlite.specs.State.{State, Executes, ExecutesInside}
use Rattle.sqlite.specs.declared.error.Error.{Error}
use Rattle.sqlite.specs.declared.types.Value.{Value}
use Rattle.register_sql.specs.Changes.{Adds, Spares}
use Rattle.register_sql.specs.Posting.{IsWhole, Within, Turns, Makes, with_posting, with_spot}
use Rattle.register_sql.specs.Posting.{more_line, without_line, more_term, without_term}
use Rattle.register_store.specs.StoredRows.{Content, PostingRow, SpotRow, LineRow, TermRow}
use Rattle.register_sql.specs.Rows.{Apart, posting_cells, spot_cells, line_cells, term_cells}
use Rattle.register_sql.specs.Rows.{HasNumber}
use Rattle.register_sql.proofs.Apart.{apart_moved, apart_more, apart_kept}
use Rattle.register_sql.proofs.Deletes.{removes_line, removes_term, fewer_lines, fewer_terms}
use Rattle.register_sql.proofs.Deletes.{line_key_params, term_key_params}
use Rattle.register_sql.proofs.Inserts.{adds_posting, adds_spot, adds_line, adds_term}
use Rattle.register_sql.proofs.Inserts.{posting_params, spot_params, line_params, term_params}
use Rattle.register_sql.proofs.Texts.{insert_posting, insert_spot, insert_line, insert_term}
use Rattle.register_sql.proofs.Texts.{delete_line, delete_term}

-- one more row in one table, which the others don't have
more : {X : Type 0} (cells : X → Row) (x : X) (xs : List X) (id : Value) (rows next : List Row)
    → IsPermutation ((id ∷ cells x) ∷ rows) next
    → IsPermutation (map cells xs) (map (drop 1) rows)
    → IsPermutation (map cells (x ∷ xs)) (map (drop 1) next)
more cells x xs id rows next adds held =
    IsPermutation-trans _ (cells x ∷ map (drop 1) rows) _ (IsPermutation-cons _ _ _ held)
    (IsPermutation-map (drop 1) _ _ adds)

apart_added : (row : Row) (rows next : List Row) → HasNumber row → is_taken rows row ≡ false
    → IsPermutation (row ∷ rows) next → Apart rows → Apart next
apart_added row rows next int free adds apart =
    apart_moved _ _ adds (apart_more row rows int free apart)

posting_added : (r : PostingRow) (db next : Database) → IsWhole db
    → Adds 3 (posting_cells r) db next → IsWhole next × Turns (with_posting r) db.trees next.trees
posting_added r db next whole it =
    let same = it.others in
    let lines = same.lines (λ e. omega arith) in
    let terms = same.terms (λ e. omega arith) in (
      record {
        schema = it.schema;
        sound = it.sound;
        lines = subst Apart (sym lines) whole.lines;
        terms = subst Apart (sym terms) whole.terms;
      },
      λ c rows. record {
        meta = rw (same.meta (λ e. omega arith)) rows.meta;
        setup = rw (same.setup (λ e. omega arith)) rows.setup;
        postings = IsPermutation-trans _ (posting_cells r ∷ db.trees 3) _
            (IsPermutation-cons _ _ _ rows.postings) it.rows;
        spots = rw (same.spots (λ e. omega arith)) rows.spots;
        lines = rw lines rows.lines;
        terms = rw terms rows.terms;
      },
    )

spot_added : (r : SpotRow) (id : Value) (db next : Database) → IsWhole db
    → Adds 5 (id ∷ spot_cells r) db next → IsWhole next × Turns (with_spot r) db.trees next.trees
spot_added r id db next whole it =
    let same = it.others in
    let lines = same.lines (λ e. omega arith) in
    let terms = same.terms (λ e. omega arith) in (
      record {
        schema = it.schema;
        sound = it.sound;
        lines = subst Apart (sym lines) whole.lines;
        terms = subst Apart (sym terms) whole.terms;
      },
      λ c rows. record {
        meta = rw (same.meta (λ e. omega arith)) rows.meta;
        setup = rw (same.setup (λ e. omega arith)) rows.setup;
        postings = rw (same.postings (λ e. omega arith)) rows.postings;
        spots = more spot_cells r c.spots id (db.trees 5) (next.trees 5) it.rows rows.spots;
        lines = rw lines rows.lines;
        terms = rw terms rows.terms;
      },
    )

-- the rest of a whole store if only its lines change
lines_changed : (change : List LineRow → List LineRow) (db next : Database) → IsWhole db
    → next.schema ≡ db.schema → IsDatabase next → Spares 7 db.trees next.trees
    → Apart (next.trees 7) → ((ls : List LineRow)
    → IsPermutation (map line_cells ls) (map (drop 1) (db.trees 7))
    → IsPermutation (map line_cells (change ls)) (map (drop 1) (next.trees 7)))
    → IsWhole next × Turns (λ c. record c { lines = change c.lines }) db.trees next.trees
lines_changed change db next whole schema sound same apart held =
    let terms = same.terms (λ e. omega arith) in (
      record {
        schema = rw schema whole.schema;
        sound = sound;
        lines = apart;
        terms = subst Apart (sym terms) whole.terms;
      },
      λ c rows. record {
        meta = rw (same.meta (λ e. omega arith)) rows.meta;
        setup = rw (same.setup (λ e. omega arith)) rows.setup;
        postings = rw (same.postings (λ e. omega arith)) rows.postings;
        spots = rw (same.spots (λ e. omega arith)) rows.spots;
        lines = held c.lines rows.lines;
        terms = rw terms rows.terms;
      },
    )

-- and if only its last days change
terms_changed : (change : List TermRow → List TermRow) (db next : Database) → IsWhole db
    → next.schema ≡ db.schema → IsDatabase next → Spares 9 db.trees next.trees
    → Apart (next.trees 9) → ((ts : List TermRow)
    → IsPermutation (map term_cells ts) (map (drop 1) (db.trees 9))
    → IsPermutation (map term_cells (change ts)) (map (drop 1) (next.trees 9)))
    → IsWhole next × Turns (λ c. record c { terms = change c.terms }) db.trees next.trees
terms_changed change db next whole schema sound same apart held =
    let lines = same.lines (λ e. omega arith) in (
      record {
        schema = rw schema whole.schema;
        sound = sound;
        lines = subst Apart (sym lines) whole.lines;
        terms = apart;
      },
      λ c rows. record {
        meta = rw (same.meta (λ e. omega arith)) rows.meta;
        setup = rw (same.setup (λ e. omega arith)) rows.setup;
        postings = rw (same.postings (λ e. omega arith)) rows.postings;
        spots = rw (same.spots (λ e. omega arith)) rows.spots;
        lines = rw lines rows.lines;
        terms = held c.terms rows.terms;
      },
    )

-- a statement that succeeds inside the transaction keeps it going
module _ (text : List ℕ) (given params : Row) (change : Content → Content) (old new : State)
    (within : Within old)
    (is : given ≡ params) (step : (count : ℕ) → IsWhole old.now
    → Executes text params old new (Ok count) → IsWhole new.now
    × Turns change old.now.trees new.now.trees) where
  makes : (q : Result ℕ Error) → ExecutesInside 0 text given old new q
      → OnOk q (Makes old new change)
  makes (Err e) h = tt
  makes (Ok count) h =
      let done = step count (within.whole h.1.was_open) (rw is at h.0) in
      record {
        within = record { whole = λ _. done.0; inside = h.1.mode };
        stays = λ _. h.1.is_open;
        rows = done.1;
      }

pub inserts_posting : (old new : State) (r : PostingRow) (given : Row) (q : Result ℕ Error)
    → Within old → ExecutesInside 0 insert_posting given old new q → given ≡ posting_params r
    → OnOk q (Makes old new (with_posting r))
inserts_posting old new r given q within h is =
    makes insert_posting given (posting_params r) (with_posting r) old new within is
    (λ count whole ran. posting_added r old.now new.now whole
    (adds_posting old new r count whole.schema ran)) q h

pub inserts_spot : (old new : State) (r : SpotRow) (given : Row) (q : Result ℕ Error) → Within old
    → ExecutesInside 0 insert_spot given old new q → given ≡ spot_params r
    → OnOk q (Makes old new (with_spot r))
inserts_spot old new r given q within h is =
    makes insert_spot given (spot_params r) (with_spot r) old new within is
    (λ count whole ran. spot_added r _ old.now new.now whole
    (adds_spot old new r count whole.schema ran)) q h

pub inserts_line : (old new : State) (r : LineRow) (given : Row) (q : Result ℕ Error) → Within old
    → ExecutesInside 0 insert_line given old new q → given ≡ line_params r
    → OnOk q (Makes old new (more_line r))
inserts_line old new r given q within h is =
    makes insert_line given (line_params r) (more_line r) old new within is (λ count whole ran.
    let it = adds_line old new r count whole.schema ran in
    lines_changed (λ ls. r ∷ ls) old.now new.now whole (it.schema ∙ sym whole.schema) it.sound
    it.others (apart_added _ _ _ refl it.free it.rows whole.lines)
    (λ ls held. more line_cells r ls _ (old.now.trees 7) (new.now.trees 7) it.rows held)) q h

pub inserts_term : (old new : State) (r : TermRow) (given : Row) (q : Result ℕ Error) → Within old
    → ExecutesInside 0 insert_term given old new q → given ≡ term_params r
    → OnOk q (Makes old new (more_term r))
inserts_term old new r given q within h is =
    makes insert_term given (term_params r) (more_term r) old new within is (λ count whole ran.
    let it = adds_term old new r count whole.schema ran in
    terms_changed (λ ts. r ∷ ts) old.now new.now whole (it.schema ∙ sym whole.schema) it.sound
    it.others (apart_added _ _ _ refl it.free it.rows whole.terms)
    (λ ts held. more term_cells r ts _ (old.now.trees 9) (new.now.trees 9) it.rows held)) q h

pub deletes_line : (old new : State) (r : LineRow) (given : Row) (q : Result ℕ Error) → Within old
    → ExecutesInside 0 delete_line given old new q → given ≡ line_key_params r
    → OnOk q (Makes old new (without_line r))
deletes_line old new r given q within h is =
    makes delete_line given (line_key_params r) (without_line r) old new within is
    (λ count whole ran.
    let it = removes_line old new r count whole.schema whole.lines ran in
    lines_changed _ old.now new.now whole (it.schema ∙ sym whole.schema) it.sound it.others
    (subst Apart (sym it.rows) (apart_kept _ (old.now.trees 7) whole.lines))
    (λ ls held. rw it.rows (fewer_lines r ls (old.now.trees 7) held))) q h

pub deletes_term : (old new : State) (r : TermRow) (given : Row) (q : Result ℕ Error) → Within old
    → ExecutesInside 0 delete_term given old new q → given ≡ term_key_params r
    → OnOk q (Makes old new (without_term r))
deletes_term old new r given q within h is =
    makes delete_term given (term_key_params r) (without_term r) old new within is
    (λ count whole ran.
    let it = removes_term old new r count whole.schema whole.terms ran in
    terms_changed _ old.now new.now whole (it.schema ∙ sym whole.schema) it.sound it.others
    (subst Apart (sym it.rows) (apart_kept _ (old.now.trees 9) whole.terms))
    (λ ts held. rw it.rows (fewer_terms r ts (old.now.trees 9) held))) q h
