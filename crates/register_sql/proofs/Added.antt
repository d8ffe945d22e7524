-- The effect of an INSERT of one row on a whole store.
use Rattle.std.proofs.Common.{◌≡◌, ◌≢◌, ◌⊎◌, inl, inr, ℕ, ◌/◌, ℤ, List, [], ◌∷◌, ◌++◌, length}
use Rattle.std.proofs.Common.{slice_get, Bool, true, false, cond, Option, Some, None, Ok, Err}
use Rattle.std.proofs.Common.{Result, refl, sym, ap, subst, ◌∙◌, not, ◌&&◌}
use Rattle.std.specs.List.{AllByRecursion}
use Rattle.std.specs.List.Sorted.{IsPermutation}
use Rattle.std.specs.Ordering.{is_eq, match_ordering}
use Rattle.std.specs.declared.cmp.Ordering.{Ordering}
use Rattle.std.specs.declared.cmp.Ordering.TheVariants.{Less, Equal, Greater}
use Rattle.std.proofs.lemmas.Bool.{or_parts}
use Rattle.std.proofs.lemmas.List.Sorted.{IsPermutation-refl, IsPermutation-sym}
use Rattle.std.proofs.lemmas.List.Sorted.{IsPermutation-trans, IsPermutation-cons}
use Rattle.std.proofs.lemmas.List.Sorted.{IsPermutation-middle}
use Rattle.sqlite.proofs.Callers.{IsPlain, command_of, runs_as, one_step}
use Rattle.sqlite.specs.Cast.{cast}
use Rattle.sqlite.specs.Command.TheVariants.{Insert}
use Rattle.sqlite.specs.Does.{Tally, AtPlace, OnRows}
use Rattle.sqlite.specs.Edit.{edit_of, put_all, is_taken, are_fresh}
use Rattle.sqlite.specs.Effect.{Database, value_rows}
use Rattle.sqlite.specs.Kind.TheVariants.{Integer}
use Rattle.sqlite.specs.Listing.{understood}
use Rattle.sqlite.specs.Ops.{unary}
use Rattle.sqlite.specs.Order.{Row}
use Rattle.sqlite.specs.Rowids.TheVariants.{Chosen}
use Rattle.sqlite.specs.Rows.{Written, Part, Edited, stamped}
use Rattle.sqlite.specs.Schema.{Schema}
use Rattle.sqlite.specs.Source.TheVariants.{Values}
use Rattle.sqlite.specs.State.{State, mode_of, Executes}
use Rattle.sqlite.specs.Table.{Table}
use Rattle.sqlite.specs.Term.{Term}
use Rattle.sqlite.specs.Tree.{Trees, rowid, put_row}
use Rattle.sqlite.specs.declared.run.Mode.{Mode}
use Rattle.sqlite.specs.declared.types.Value.{Value}
use Rattle.sqlite.specs.declared.types.Value.TheVariants.{Null, Int}
use Rattle.sqlite_schema.specs.declared.schema.Column.{Column}
use Rattle.sqlite_value.specs.Order.{value_cmp}
use Rattle.register_sql.specs.Changes.{Spares, Adds}
use Rattle.register_sql.specs.Tables.{table, hub_schema}

either : (b : Bool) (x : Value) → cond b x x ≡ x
either true x = refl
either false x = refl

pub cast_int : (n : ℤ) → cast Integer (Int n) ≡ Int n
unfolding unary
cast_int n = either _ (Int n)

pub cast_null : cast Integer Null ≡ Null
unfolding unary
cast_null = either _ Null

-- a part of a statement that returned a value did not stop on the way
pub went : {B E R : Type 0} {b : B} {Stops : E → Type 0}
    → ((stop : E) × Stops stop × (Ok b ≡ Err stop)) ⊎ R → R
went (inl stopped) = absurd (let e = stopped.2 in cc)
went (inr on) = on

pub same_value : {B E : Type 0} {a b : B} → ◌≡◌ {A = Result B E} (Ok a) (Ok b) → a ≡ b
same_value e = cc

-- a row with a new rowid is added to the others
put_fresh : (new : Row) (rows : List Row) → is_taken rows new ≡ false
    → IsPermutation (new ∷ rows) (put_row new rows)
put_fresh new [] free = IsPermutation-refl _
put_fresh new (r ∷ rs) free = go (value_cmp (rowid r) (rowid new)) refl
    (put_fresh new rs (or_parts _ _ free).1)
  where
    parts : (is_eq (value_cmp (rowid r) (rowid new)) ≡ false) × (is_taken rs new ≡ false)
    parts = or_parts _ _ free

    go : (o : Ordering) → value_cmp (rowid r) (rowid new) ≡ o
        → IsPermutation (new ∷ rs) (put_row new rs)
        → IsPermutation (new ∷ r ∷ rs)
        (match_ordering o (r ∷ put_row new rs) (new ∷ rs) (new ∷ r ∷ rs))
    go Less is later = IsPermutation-trans _ (r ∷ new ∷ rs) _
        (IsPermutation-sym _ _ (IsPermutation-middle (r ∷ []) new rs))
        (IsPermutation-cons r _ _ later)
    go Equal is later = absurd (let no : true ≡ false = ap is_eq (sym is) ∙ parts.0 in cc)
    go Greater is later = IsPermutation-refl _

one_fresh : (rows : List Row) (new : Row) → are_fresh rows (new ∷ []) ≡ true
    → is_taken rows new ≡ false
one_fresh rows new h = go (is_taken rows new) h
  where
    go : (b : Bool) → (not b && true) ≡ true → b ≡ false
    go true h = absurd (let e = h in cc)
    go false h = refl

adds_one : (rows news : List Row) (new : Row) (after : List Row) → news ≡ new ∷ []
    → are_fresh rows news ≡ true → after ≡ put_all rows news → IsPermutation (new ∷ rows) after
adds_one rows news new after is fresh made =
    rw made (rw is (put_fresh new rows (one_fresh rows new (rw is at fresh))))

pub spares : (t : ℕ) (db next : Trees)
    → AllByRecursion (λ (k : Table). k.tree ≢ t → next k.tree ≡ db k.tree) hub_schema.tables
    → Spares t db next
spares t db next all = record {
  meta = all.0;
  setup = all.1.0;
  postings = all.1.1.0;
  spots = all.1.1.1.0;
  lines = all.1.1.1.1.0;
  terms = all.1.1.1.1.1.0;
}

abbrev uncounted : Table → Table
uncounted t = record t { is_counted = false }

-- the result of a successful INSERT of these values, in any schema, into a table without a count
goes_through : (t : Table) (at : ℕ) (terms : List Term) (width : ℕ) (params : Row)
    (limit : Option ℕ) (mode : Mode) (schema : Schema) (db : Trees) (tally : Tally)
    (after : Database)
    → OnRows (record {
      limit = limit;
      keys = mode.keys;
      schema = schema;
      table = uncounted t;
      params = params;
    }) mode None (Insert at (Values terms width)) db (Ok (tally, after))
    → (mid : Trees) × Edited schema mode.keys db
    (edit_of db (uncounted t) [] Chosen 0
    (value_rows (stamped t params) width (length terms / width) terms)) (Ok mid)
    × (after ≡ record { schema = schema; trees = mid })
goes_through t at terms width params limit mode schema db tally after does =
    let done = went does in
    let now = ap (λ (p : Tally × Database). p.1) (same_value (went (went done.2).2).2) in
    let given = went done.1 in
    let written = went (went given.2).2 in
    let counted = went written.2 in
    let trees : done.0.trees ≡ written.0 = ap (λ (it : Written). it.trees) (same_value counted.2)
    ∙ same_value counted.1 in (
      written.0,
      subst (λ rows. Edited schema mode.keys db (edit_of db (uncounted t) [] Chosen 0 rows)
          (Ok written.0)) given.1.1 written.1,
      now ∙ ap (λ (k : Trees). let d : Database = record { schema = schema; trees = k } in d) trees,
    )

-- an INSERT of the parameters into a table of the store
module _ (text : List ℕ) (params : Row) (at : ℕ) (terms : List Term) (width : ℕ)
    (name : List ℕ) (tree : ℕ) (columns : List Column) (key : Option ℕ) (primary : List ℕ)
    (uniques : List (List ℕ))
    (is : command_of (understood hub_schema text) ≡ Insert at (Values terms width))
    (plain : IsPlain (understood hub_schema text))
    (there : slice_get hub_schema.tables at ≡ Some (table name tree columns key primary uniques))
    (row : Trees → Row) (casts : (db : Trees)
    → (edit_of db (table name tree columns key primary uniques) [] Chosen 0
    (value_rows (params ++ []) width (length terms / width) terms)).news ≡ row db ∷ []) where
  abbrev into : Table
  into = table name tree columns key primary uniques

  abbrev given_rows : List Row
  given_rows = value_rows (params ++ []) width (length terms / width) terms

  pub added : (old new : State) (count : ℕ) → old.now.schema ≡ hub_schema
      → Executes text params old new (Ok count) → Adds tree (row old.now.trees) old.now new.now
  added old new count has h =
      let db = old.now.trees in
      let mode = mode_of old in
      let w = runs_as text params old new hub_schema has (Insert at (Values terms width)) is
      plain count h in
      let on : Table → Part (Tally × Database) =
      λ k. OnRows (record {
        limit = old.step_limit;
        keys = mode.keys;
        schema = hub_schema;
        table = k;
        params = params;
      }) mode None (Insert at (Values terms width)) db in
      let does : AtPlace on (slice_get hub_schema.tables at) (Ok (w.tally, new.now)) =
      subst (λ it. AtPlace
      (λ k. OnRows (record {
        limit = old.step_limit;
        keys = mode.keys;
        schema = it;
        table = k;
        params = params;
      }) mode None (Insert at (Values terms width)) db) (slice_get it.tables at)
      (Ok (w.tally, new.now))) has w.changed in
      let it = goes_through into at terms width params old.step_limit mode hub_schema db w.tally
      new.now (subst (λ o. AtPlace on o (Ok (w.tally, new.now))) there does) in
      let last : new.now.trees ≡ it.0 = ap (λ (d : Database). d.trees) it.2 in
      let step = one_step hub_schema _ db it.0 (edit_of db into [] Chosen 0 given_rows) refl it.1 in
      record {
        schema = ap (λ (d : Database). d.schema) it.2;
        sound = w.sound;
        rows = subst (λ (k : Trees). IsPermutation (row db ∷ db tree) (k tree)) (sym last)
            (adds_one (db tree) _ (row db) (it.0 tree) (casts db) step.fresh step.rows);
        free = one_fresh (db tree) (row db) (rw (casts db) at step.fresh);
        others = subst (Spares tree db) (sym last) (spares tree db it.0 step.tables);
      }
