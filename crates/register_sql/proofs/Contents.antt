-- A sound store holds exactly one set of rows, in some order.
use Rattle.std.proofs.Common.{zero, suc, ◌≡◌, ◌≤◌, ℕ, List, [], ◌∷◌, length, map, drop, true, refl}
use Rattle.std.proofs.Common.{sym, ap, subst, ◌∙◌, arith}
use Rattle.std.specs.List.{AllByRecursion}
use Rattle.std.specs.List.Sorted.{IsPermutation}
use Rattle.std.proofs.lemmas.Bool.{and_parts}
use Rattle.std.proofs.lemmas.Slice.Zip.{AllZip-long}
use Rattle.std.proofs.lemmas.List.Sorted.{IsPermutation-refl, IsPermutation-sym}
use Rattle.std.proofs.lemmas.List.Sorted.{IsPermutation-trans, IsPermutation-map}
use Rattle.sqlite.specs.Edit.{id_in}
use Rattle.sqlite.specs.Order.{Row, column}
use Rattle.sqlite.specs.Table.{Table}
use Rattle.sqlite.specs.Schema.{Schema}
use Rattle.sqlite.specs.Tree.{Trees}
use Rattle.sqlite_catalog.specs.Listing.{IsSound}
use Rattle.sqlite_schema.specs.Rules.{are_typed, passes, has_computed}
use Rattle.sqlite_schema.specs.declared.schema.Constraint.TheVariants.{Datatype, NotNull}
use Rattle.sqlite_value.specs.Order.{bytes}
use Rattle.register_store.specs.StoredRows.{Content, SetupRow, MetaRow, PostingRow, SpotRow}
use Rattle.register_store.specs.StoredRows.{LineRow, TermRow, AreSame}
use Rattle.register_sql.specs.Rows.{setup_cells, meta_cells, posting_cells, spot_cells, line_cells}
use Rattle.register_sql.specs.Rows.{term_cells, had, HasPart, IsStored, HasNumber, AreNumbered}
use Rattle.register_sql.specs.Tables.{meta, setup, posting, spot, line, term, prefix}
use Rattle.register_sql.proofs.Cells.{IsRight, meta_read, setup_read, posting_read, spot_read}
use Rattle.register_sql.proofs.Cells.{line_read, term_read}

-- each row of a table can be read, if the rules of a database hold for it
module _ (schema : Schema) (db : Trees) (table : Table) {X : Type 0} (part : Row → Row) (cells : X
    → Row) (Known : Row → Type 0)
    (reads : (r : Row) → Known r → IsRight table r → (x : X) × (part r ≡ cells x)) where
  all_read : (rows : List Row) → AllByRecursion Known rows
      → AllByRecursion (λ r. passes Datatype schema db table r ≡ true) rows
      → AllByRecursion (λ r. passes NotNull schema db table r ≡ true) rows
      → (xs : List X) × (map cells xs ≡ map part rows)
  all_read [] known typed present = ([], refl)
  all_read (r ∷ rows) known typed present =
      let one =
      reads r known.0
      (record {
        typed = (and_parts (are_typed table.key 0 table.columns (drop 1 r))
            (has_computed table r) typed.0).0;
        present = present.0;
      }) in
      let more = all_read rows known.1 typed.1 present.1 in
      (one.0 ∷ more.0, rw (sym one.1, more.1))

all_known : (rows : List Row) → AllByRecursion (λ _. Unit {0}) rows
all_known [] = tt
all_known (r ∷ rows) = (tt, all_known rows)

-- the rows of a store of the first `made` tables, each in the order of its table
record AreRead (made : ℕ) (db : Trees) : Type 0 where
  meta : (xs : List MetaRow) × (map meta_cells xs ≡ map (drop 1) (had 1 made (db 0)))
  setup : (xs : List SetupRow) × (map setup_cells xs ≡ had 2 made (db 2))
  postings : (xs : List PostingRow) × (map posting_cells xs ≡ had 3 made (db 3))
  spots : (xs : List SpotRow) × (map spot_cells xs ≡ map (drop 1) (had 4 made (db 5)))
  lines : (xs : List LineRow) × (map line_cells xs ≡ map (drop 1) (had 5 made (db 7)))
  terms : (xs : List TermRow) × (map term_cells xs ≡ map (drop 1) (had 6 made (db 9)))

same_rows : (a b : List Row) → a ≡ b → IsPermutation a b
same_rows a b is = subst (IsPermutation a) is (IsPermutation-refl a)

read_content : (made : ℕ) (db : Trees) → AreRead made db → (c : Content) × HasPart made db c
read_content made db r = (
  record {
    setup = r.setup.0;
    meta = r.meta.0;
    postings = r.postings.0;
    spots = r.spots.0;
    lines = r.lines.0;
    terms = r.terms.0;
  },
  record {
    meta = same_rows _ _ r.meta.1;
    setup = same_rows _ _ r.setup.1;
    postings = same_rows _ _ r.postings.1;
    spots = same_rows _ _ r.spots.1;
    lines = same_rows _ _ r.lines.1;
    terms = same_rows _ _ r.terms.1;
  },
)

module _ (schema : Schema) (db : Trees) where
  abbrev Passes : Table → Type 0
  Passes t = AllByRecursion (λ r. passes Datatype schema db t r ≡ true) (db t.tree)
      × AllByRecursion (λ r. passes NotNull schema db t r ≡ true) (db t.tree)

  metas : Passes meta → (xs : List MetaRow) × (map meta_cells xs ≡ map (drop 1) (db 0))
  metas h = all_read schema db meta (drop 1) meta_cells (λ _. Unit {0}) (λ r _. meta_read r) (db 0)
      (all_known (db 0)) h.0 h.1

  setups : AreNumbered (db 2) → Passes setup → (xs : List SetupRow) × (map setup_cells xs ≡ db 2)
  setups known h = let it = all_read schema db setup (λ r. r) setup_cells HasNumber setup_read
      (db 2) known h.0 h.1 in (it.0, it.1 ∙ map_all (db 2))
    where
      map_all : (rows : List Row) → map (λ r. r) rows ≡ rows
      map_all [] = refl
      map_all (r ∷ rows) = ap (λ l. r ∷ l) (map_all rows)

  postings : AreNumbered (db 3) → Passes posting → (xs : List PostingRow)
      × (map posting_cells xs ≡ db 3)
  postings known h = let it = all_read schema db posting (λ r. r) posting_cells HasNumber
      posting_read (db 3) known h.0 h.1 in (it.0, it.1 ∙ map_all (db 3))
    where
      map_all : (rows : List Row) → map (λ r. r) rows ≡ rows
      map_all [] = refl
      map_all (r ∷ rows) = ap (λ l. r ∷ l) (map_all rows)

  spots : Passes spot → (xs : List SpotRow) × (map spot_cells xs ≡ map (drop 1) (db 5))
  spots h = all_read schema db spot (drop 1) spot_cells (λ _. Unit {0}) (λ r _. spot_read r) (db 5)
      (all_known (db 5)) h.0 h.1

  lines : Passes line → (xs : List LineRow) × (map line_cells xs ≡ map (drop 1) (db 7))
  lines h = all_read schema db line (drop 1) line_cells (λ _. Unit {0}) (λ r _. line_read r) (db 7)
      (all_known (db 7)) h.0 h.1

  terms : Passes term → (xs : List TermRow) × (map term_cells xs ≡ map (drop 1) (db 9))
  terms h = all_read schema db term (drop 1) term_cells (λ _. Unit {0}) (λ r _. term_read r) (db 9)
      (all_known (db 9)) h.0 h.1

are_read : (made : ℕ) → made ≤ 6 → (db : Trees) → IsSound (prefix made) db
    → AreNumbered (had 2 made (db 2)) → AreNumbered (had 3 made (db 3)) → AreRead made db
are_read zero few db sound ids numbers =
    record {
      meta = ([], refl);
      setup = ([], refl);
      postings = ([], refl);
      spots = ([], refl);
      lines = ([], refl);
      terms = ([], refl);
    }
are_read (suc zero) few db sound ids numbers =
    let d = sound.obeys.rules Datatype in let n = sound.obeys.rules NotNull in
    record {
      meta = metas (prefix 1) db (d.0, n.0);
      setup = ([], refl);
      postings = ([], refl);
      spots = ([], refl);
      lines = ([], refl);
      terms = ([], refl);
    }
are_read (suc (suc zero)) few db sound ids numbers =
    let d = sound.obeys.rules Datatype in let n = sound.obeys.rules NotNull in
    record {
      meta = metas (prefix 2) db (d.0, n.0);
      setup = setups (prefix 2) db ids (d.1.0, n.1.0);
      postings = ([], refl);
      spots = ([], refl);
      lines = ([], refl);
      terms = ([], refl);
    }
are_read (suc (suc (suc zero))) few db sound ids numbers =
    let d = sound.obeys.rules Datatype in let n = sound.obeys.rules NotNull in
    record {
      meta = metas (prefix 3) db (d.0, n.0);
      setup = setups (prefix 3) db ids (d.1.0, n.1.0);
      postings = postings (prefix 3) db numbers (d.1.1.0, n.1.1.0);
      spots = ([], refl);
      lines = ([], refl);
      terms = ([], refl);
    }
are_read (suc (suc (suc (suc zero)))) few db sound ids numbers =
    let d = sound.obeys.rules Datatype in let n = sound.obeys.rules NotNull in
    record {
      meta = metas (prefix 4) db (d.0, n.0);
      setup = setups (prefix 4) db ids (d.1.0, n.1.0);
      postings = postings (prefix 4) db numbers (d.1.1.0, n.1.1.0);
      spots = spots (prefix 4) db (d.1.1.1.0, n.1.1.1.0);
      lines = ([], refl);
      terms = ([], refl);
    }
are_read (suc (suc (suc (suc (suc zero))))) few db sound ids numbers =
    let d = sound.obeys.rules Datatype in let n = sound.obeys.rules NotNull in
    record {
      meta = metas (prefix 5) db (d.0, n.0);
      setup = setups (prefix 5) db ids (d.1.0, n.1.0);
      postings = postings (prefix 5) db numbers (d.1.1.0, n.1.1.0);
      spots = spots (prefix 5) db (d.1.1.1.0, n.1.1.1.0);
      lines = lines (prefix 5) db (d.1.1.1.1.0, n.1.1.1.1.0);
      terms = ([], refl);
    }
are_read (suc (suc (suc (suc (suc (suc zero)))))) few db sound ids numbers =
    let d = sound.obeys.rules Datatype in let n = sound.obeys.rules NotNull in
    record {
      meta = metas (prefix 6) db (d.0, n.0);
      setup = setups (prefix 6) db ids (d.1.0, n.1.0);
      postings = postings (prefix 6) db numbers (d.1.1.0, n.1.1.0);
      spots = spots (prefix 6) db (d.1.1.1.0, n.1.1.1.0);
      lines = lines (prefix 6) db (d.1.1.1.1.0, n.1.1.1.1.0);
      terms = terms (prefix 6) db (d.1.1.1.1.1.0, n.1.1.1.1.1.0);
    }
are_read (suc (suc (suc (suc (suc (suc (suc made))))))) few db sound ids numbers =
    absurd (omega (arith, few))

-- a sound store holds some rows if its setup and its postings are numbered
pub content_in : (made : ℕ) → made ≤ 6 → (db : Trees) → IsSound (prefix made) db
    → AreNumbered (had 2 made (db 2)) → AreNumbered (had 3 made (db 3))
    → (c : Content) × HasPart made db c
content_in made few db sound ids numbers =
    read_content made db (are_read made few db sound ids numbers)

-- ---- and no others

pub unmapped : {X : Type 0} (cells : X → Row) (back : Row → X) → ((x : X) → back (cells x) ≡ x)
    → (xs ys : List X) (rows : List Row) → IsPermutation (map cells xs) rows
    → IsPermutation (map cells ys) rows → IsPermutation xs ys
unmapped {X} cells back undoes xs ys rows p q =
    let both : IsPermutation (map back (map cells xs)) (map back (map cells ys)) =
    IsPermutation-map back _ _ (IsPermutation-trans _ rows _ p (IsPermutation-sym _ _ q)) in
    subst (λ l. IsPermutation l ys) (all xs)
    (subst (IsPermutation (map back (map cells xs))) (all ys) both)
  where
    all : (zs : List X) → map back (map cells zs) ≡ zs
    all [] = refl
    all (z ∷ zs) = rw (undoes z, all zs) refl

pub same_part : (made : ℕ) (db : Trees) (c d : Content) → HasPart made db c → HasPart made db d
    → AreSame c d
same_part made db c d p q = record {
  setup = unmapped setup_cells (λ r. record { id = id_in (column r 0); text = bytes (column r 2) })
      (λ x. refl) _ _ _ p.setup q.setup;
  meta = unmapped meta_cells (λ r. record { name = bytes (column r 0); val = id_in (column r 1) })
      (λ x. refl) _ _ _ p.meta q.meta;
  postings = unmapped posting_cells
      (λ r. record {
        id = id_in (column r 0);
        station = id_in (column r 2);
        n = id_in (column r 3);
        body = bytes (column r 4);
        verdict = id_in (column r 5);
      }) (λ x. refl) _ _ _
      p.postings q.postings;
  spots = unmapped spot_cells (λ r. record {
    thing = id_in (column r 0);
    k = id_in (column r 1);
    entry = id_in (column r 2);
    place = id_in (column r 3);
    day = id_in (column r 4);
  })
      (λ x. refl) _ _ _ p.spots q.spots;
  lines = unmapped line_cells (λ r. record {
    loan = bytes (column r 0);
    object = id_in (column r 1);
    stage = id_in (column r 2);
  }) (λ x. refl) _ _ _ p.lines q.lines;
  terms = unmapped term_cells (λ r. record { loan = bytes (column r 0); day = id_in (column r 1) })
      (λ x. refl) _ _ _ p.terms q.terms;
}

count_is : (k : ℕ) → k ≤ 6 → length (prefix k).tables ≡ k
count_is zero few = refl
count_is (suc zero) few = refl
count_is (suc (suc zero)) few = refl
count_is (suc (suc (suc zero))) few = refl
count_is (suc (suc (suc (suc zero)))) few = refl
count_is (suc (suc (suc (suc (suc zero))))) few = refl
count_is (suc (suc (suc (suc (suc (suc zero)))))) few = refl
count_is (suc (suc (suc (suc (suc (suc (suc k))))))) few = absurd (omega (arith, few))

-- a database is a store of one number of tables
pub one_prefix : (j k : ℕ) → j ≤ 6 → k ≤ 6 → (db : Trees) → IsSound (prefix j) db
    → IsSound (prefix k) db → j ≡ k
one_prefix j k few less db p q = sym (count_is j few) ∙ AllZip-long _ _ _ p.lists.listed.tables
    ∙ sym (AllZip-long _ _ _ q.lists.listed.tables) ∙ count_is k less

-- so a database that is known to hold these rows holds them as a store
pub same_stored : (made : ℕ) → made ≤ 6 → (db : Trees) → IsSound (prefix made) db → (c d : Content)
    → HasPart made db c → IsStored db d → AreSame c d
same_stored made few db sound c d p q =
    let one = one_prefix q.made made q.few few db q.sound sound in
    same_part made db c d p (subst (λ k. HasPart k db d) one q.rows)
