-- The rows about a store and the setup, as they are read, show what its content has.
use Rattle.std.proofs.Common.{◌≤◌, ℕ, List, [], map, sym, subst, ◌≡◌, ◌≢◌, zero, suc, pos, ◌∷◌}
use Rattle.std.proofs.Common.{length, drop, reverse, slice_index_or, codes, Bool, true, false, not}
use Rattle.std.proofs.Common.{◌&&◌, ◌||◌, refl, ap, ◌∙◌, arith}
use Rattle.std.specs.List.Sorted.{IsPermutation}
use Rattle.std.specs.Bool.{Decides}
use Rattle.std.specs.List.{AllByRecursion, list_any}
use Rattle.std.specs.Ordering.{int_eq}
use Rattle.std.specs.Str.{bytes_eq}
use Rattle.std.proofs.lemmas.List.Sorted.{IsPermutation-refl, IsPermutation-sym}
use Rattle.std.proofs.lemmas.List.Sorted.{IsPermutation-trans, IsPermutation-map}
use Rattle.std.proofs.lemmas.List.Sorted.{length_permutation, list_any-IsPermutation}
use Rattle.std.proofs.lemmas.Bool.{and_parts}
use Rattle.std.proofs.lemmas.Bool.Decides.{Decides-int_eq}
use Rattle.std.proofs.lemmas.List.{reverse-reverse}
use Rattle.std.proofs.lemmas.Slice.Eq.{bytes_eq-Decides}
use Rattle.nest_core.specs.Museum.{Museum}
use Rattle.nest_core.specs.SetupTexts.{setup_rows}
use Rattle.sqlite.specs.Order.{Row, column}
use Rattle.sqlite.specs.Tree.{Trees}
use Rattle.sqlite.specs.Edit.{id_in}
use Rattle.sqlite.specs.declared.types.Value.TheVariants.{Int, Text}
use Rattle.sqlite_trees.proofs.ListLemmas.{all-permutation}
use Rattle.sqlite_value.specs.Order.{bytes}
use Rattle.register_store.specs.Registers.{is_new, has_other_version, IsBindFault}
use Rattle.register_store.specs.StoredRows.{Content, SetupRow, MetaRow, rows_of_setup, rows_of_meta}
use Rattle.register_store.specs.declared.store_fault.StoreFault.TheVariants.{OtherVersion, Damaged}
use Rattle.register_sql.specs.Queries.{shown_in}
use Rattle.register_sql.specs.Says.{metas_in, IsOther, HasOther, IsIdentity, HasSetup, setup_in}
use Rattle.register_sql.specs.Shown.{shown_meta, shown_setup, setup_shown}
use Rattle.register_sql.specs.declared.queries.Query.TheVariants.{Metas}
use Rattle.register_sql.specs.Making.{setup_from}
use Rattle.register_sql.specs.Rows.{HasPart, had, meta_cells, setup_cells}
use Rattle.register_sql.specs.declared.identity.Identity.TheVariants as told
use Rattle.register_sql.proofs.Rising.{here}
use Rattle.register_sql.proofs.Contents.{unmapped}
use Rattle.register_sql.proofs.Removed.{map_twice}
use Rattle.register_sql.proofs.Setups.{numbered_are}

pub metas_shown : (made : ℕ) (db : Trees) (rows : List Row) → 1 ≤ made
    → IsPermutation (shown_in Metas db) rows → IsPermutation (metas_in made db) rows
metas_shown made db rows some read =
    subst (λ l. IsPermutation (map shown_meta l) rows) (sym (here 1 made (db 0) some)) read

pub no_metas : (db : Trees) (rows : List Row) → rows ≡ [] → IsPermutation (metas_in 0 db) rows
no_metas db rows none = subst (IsPermutation []) (sym none) (IsPermutation-refl [])

-- ---- reading `meta`

pick : Row → Row
pick r = column r 0 ∷ column r 1 ∷ []

picked : (r : Row) → pick (drop 1 r) ≡ shown_meta r
unfolding pick
picked [] = refl
picked (v ∷ r) = refl

all_picked : (rows : List Row) → map pick (map (drop 1) rows) ≡ map shown_meta rows
all_picked [] = refl
all_picked (r ∷ rows) = rw (picked r, all_picked rows) refl

cells_picked : (ms : List MetaRow) → map pick (map meta_cells ms) ≡ map meta_cells ms
unfolding pick
cells_picked [] = refl
cells_picked (m ∷ ms) = ap (λ l. meta_cells m ∷ l) (cells_picked ms)

pub metas_read : (made : ℕ) (db : Trees) (c : Content) (rows : List Row)
    → HasPart made db c → IsPermutation (metas_in made db) rows
    → IsPermutation (map meta_cells c.meta) rows
metas_read made db c rows held read =
    let table = had 1 made (db 0) in
    let picks : IsPermutation (map pick (map meta_cells c.meta)) (map pick (map (drop 1) table)) =
    IsPermutation-map pick _ _ held.meta in
    IsPermutation-trans _ (metas_in made db) _
    (subst (IsPermutation (map meta_cells c.meta)) (all_picked table)
    (subst (λ l. IsPermutation l (map pick (map (drop 1) table))) (cells_picked c.meta) picks))
    read

meta_back : Row → MetaRow
meta_back r = record { name = bytes (column r 0); val = id_in (column r 1) }

-- the same rows of `meta`
pub same_metas : (xs ys : List MetaRow) (rows : List Row) → IsPermutation (map meta_cells xs) rows
    → IsPermutation (map meta_cells ys) rows → IsPermutation xs ys
unfolding meta_back
same_metas xs ys rows = unmapped meta_cells meta_back (λ m. refl) xs ys rows

pub none_new : (ms : List MetaRow) → IsPermutation (map meta_cells ms) [] → ms ≡ []
none_new [] h = refl
none_new (m ∷ ms) h = absurd (omega (arith, length_permutation _ _ h))

pub some_old : (ms : List MetaRow) (rows : List Row) → rows ≢ []
    → IsPermutation (map meta_cells ms) rows → is_new ms ≡ false
some_old [] rows some h = absurd (some (empty rows (length_permutation _ _ h)))
  where
    empty : (rs : List Row) → length rs ≡ length (map meta_cells []) → rs ≡ []
    empty [] len = refl
    empty (r ∷ rs) len = absurd (omega (arith, len))
some_old (m ∷ ms) rows some h = refl

-- a row of another version, by its cells
other : Row → Bool
other r = bytes_eq (bytes (column r 0)) (codes "version") && not
    (int_eq (id_in (column r 1)) (pos 2))

others_are : (ms : List MetaRow) → list_any other (map meta_cells ms) ≡ has_other_version ms
unfolding other
others_are [] = refl
others_are (m ∷ ms) =
    ap (λ b. (bytes_eq m.name (codes "version") && not (int_eq m.val (pos 2))) || b) (others_are ms)

is_other : (row : Row) → IsOther row → other row ≡ true
unfolding other
is_other row is =
    let name : bytes_eq (codes "version") (codes "version") ≡ true =
    (bytes_eq-Decides (codes "version") (codes "version")).1 refl in
    let val : int_eq is.0 (pos 2) ≡ false =
    differ (int_eq is.0 (pos 2)) (Decides-int_eq is.0 (pos 2)) in
    ap (λ r. bytes_eq (bytes (column r 0)) (codes "version") && not
    (int_eq (id_in (column r 1)) (pos 2))) is.1 ∙ rw (name, val) refl
  where
    differ : (b : Bool) → Decides b (is.0 ≡ pos 2) → b ≡ false
    differ true d = absurd (is.2 (d.0 refl))
    differ false d = refl

any_at : (rows : List Row) (k : ℕ) (row : Row) → suc k ≤ length rows
    → row ≡ slice_index_or rows k row → other row ≡ true → list_any other rows ≡ true
any_at [] k row low is fit = absurd (omega (arith, low))
any_at (r ∷ rows) zero row low is fit = rw (ap other (sym is) ∙ fit) refl
any_at (r ∷ rows) (suc k) row low is fit =
    last (other r) (any_at rows k row (omega (arith, low)) is fit)
  where
    last : (b : Bool) → list_any other rows ≡ true → (b || list_any other rows) ≡ true
    last true h = refl
    last false h = h

-- and the other way round, for rows that have the cells of `meta`
other_at : (m : MetaRow) → other (meta_cells m) ≡ true → IsOther (meta_cells m)
unfolding other
other_at m fit =
    let parts = and_parts (bytes_eq m.name (codes "version")) _ fit in (
      m.val,
      ap (λ n. Text n ∷ Int m.val ∷ [])
          ((bytes_eq-Decides m.name (codes "version")).0 parts.0),
      λ two. absurd (let bad : not (int_eq m.val (pos 2)) ≡ false = ap not
          ((Decides-int_eq m.val (pos 2)).1 two) in let e : true ≡ false = sym parts.1 ∙ bad in cc),
    )

found_in : (rs : List Row) → AllByRecursion (λ r. (m : MetaRow) × (r ≡ meta_cells m)) rs
    → list_any other rs ≡ true → HasOther rs
found_in [] all fit = absurd (let e : false ≡ true = fit in cc)
found_in (r ∷ rs) all fit = pick_one (other r) refl fit (found_in rs all.1)
  where
    pick_one : (b : Bool) → other r ≡ b → (b || list_any other rs) ≡ true
        → (list_any other rs ≡ true → HasOther rs) → HasOther (r ∷ rs)
    pick_one true is h next = (
      0,
      r,
      omega arith,
      refl,
      subst IsOther (sym all.0.1)
          (other_at all.0.0 (ap other (sym all.0.1) ∙ is)),
    )
    pick_one false is h next = let it = next h in (suc it.0, it.1, omega (arith, it.2), it.3, it.4)

pub none_other : (rows : List Row) (ms : List MetaRow) → IsPermutation (map meta_cells ms) rows
    → ¬ HasOther rows → has_other_version ms ≡ false
none_other rows ms held none = go (list_any other rows) refl
  where
    each : (xs : List MetaRow) → AllByRecursion (λ r. (m : MetaRow) × (r ≡ meta_cells m))
        (map meta_cells xs)
    each [] = tt
    each (x ∷ xs) = ((x, refl), each xs)

    go : (b : Bool) → list_any other rows ≡ b → has_other_version ms ≡ false
    go true is = absurd (none (found_in rows (all-permutation _ _ _ held (each ms)) is))
    go false is = sym (others_are ms) ∙ list_any-IsPermutation other _ rows held ∙ is

-- the store is rejected because of its rows about itself
pub told_other : (S : Museum) (made : ℕ) (db : Trees) (rows : List Row)
    → IsPermutation (metas_in made db) rows → IsIdentity rows told.OtherVersion → (c : Content)
    → HasPart made db c → IsBindFault S c OtherVersion
told_other S made db rows read is c held =
    sym (others_are c.meta) ∙ list_any-IsPermutation other _ rows
    (metas_read made db c rows held read) ∙ any_at rows is.0 is.1 (omega (arith, is.2))
    is.3 (is_other is.1 is.4)

pub told_damaged : (S : Museum) (made : ℕ) (db : Trees) (rows : List Row)
    → IsPermutation (metas_in made db) rows → IsIdentity rows told.Damaged → (c : Content)
    → HasPart made db c → IsBindFault S c (Damaged 0)
told_damaged S made db rows read is c held =
    let metas = metas_read made db c rows held read in (
      refl,
      some_old c.meta rows is.0 metas,
      none_other rows c.meta metas is.1,
      λ whole. is.2 whole.0 whole.1 (IsPermutation-trans _ _ _
          (IsPermutation-map meta_cells _ _ whole.2) metas),
    )

-- a store without rows about itself
pub told_new : (made : ℕ) (db : Trees) (rows : List Row) → IsPermutation (metas_in made db) rows
    → IsIdentity rows told.New → had 1 made (db 0) ≡ []
told_new made db rows read is =
    none (had 1 made (db 0)) (subst (IsPermutation (metas_in made db)) is read)
  where
    none : (table : List Row) → IsPermutation (map shown_meta table) [] → table ≡ []
    none [] h = refl
    none (r ∷ table) h = absurd (omega (arith, length_permutation _ _ h))

pub whole_meta : (made : ℕ) (db : Trees) (rows : List Row) (depth : ℕ)
    → IsPermutation (metas_in made db) rows → IsIdentity rows (told.Bound depth) → (c : Content)
    → HasPart made db c → IsPermutation (rows_of_meta depth) c.meta
whole_meta made db rows depth read is c held =
    same_metas _ _ rows is.1 (metas_read made db c rows held read)

-- ---- the setup

pub setup_back : Row → SetupRow
setup_back r = record { id = id_in (column r 0); text = bytes (column r 1) }

pub setups_shown : (made : ℕ) (db : Trees) (c : Content) → HasPart made db c
    → IsPermutation (map setup_shown c.setup) (setup_in made db)
setups_shown made db c held = subst (λ l. IsPermutation l (setup_in made db))
    (map_twice shown_setup setup_cells c.setup) (IsPermutation-map shown_setup _ _ held.setup)

pub setup_rows_are : (S : Museum) → IsPermutation (rows_of_setup S) (setup_from 1 (setup_rows S))
setup_rows_are S = subst (λ l. IsPermutation (rows_of_setup S) (setup_from 1 l))
    (reverse-reverse (setup_rows S)) (numbered_are (reverse (setup_rows S)))

pub has_the_setup : (S : Museum) (made : ℕ) (db : Trees) → HasSetup S made db
    → (c : Content) → HasPart made db c → IsPermutation (rows_of_setup S) c.setup
unfolding setup_back
has_the_setup S made db has c held =
    IsPermutation-trans _ _ _ (setup_rows_are S)
    (unmapped setup_shown setup_back (λ r. refl) (setup_from 1 (setup_rows S)) c.setup
    (setup_in made db) has (setups_shown made db c held))

pub has_setup : (S : Museum) (made : ℕ) (db : Trees) (c : Content) → HasPart made db c
    → IsPermutation (rows_of_setup S) c.setup → HasSetup S made db
has_setup S made db c held same = IsPermutation-trans _ _ _ (IsPermutation-map setup_shown _ _
    (IsPermutation-trans _ _ _ (IsPermutation-sym _ _ (setup_rows_are S)) same))
    (setups_shown made db c held)

pub lacks_the_setup : (S : Museum) (made : ℕ) (db : Trees) → ¬ HasSetup S made db
    → (c : Content) → HasPart made db c → ¬ IsPermutation (rows_of_setup S) c.setup
lacks_the_setup S made db other c held same = other (has_setup S made db c held same)
