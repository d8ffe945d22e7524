-- The effect on a whole store of a DELETE of the rows with a key.
use Rattle.std.proofs.Common.{◌≡◌, ℕ, List, [], ◌∷◌, ◌++◌, map, filter, slice_get, Bool, true}
use Rattle.std.proofs.Common.{false, not, cond, Option, Some, None, Ok, refl, sym, ap, subst, ◌∙◌}
use Rattle.std.specs.List.{flat_map, list_all}
use Rattle.std.specs.List.Sorted.{IsPermutation}
use Rattle.std.proofs.lemmas.List.Sorted.{IsPermutation-map}
use Rattle.sqlite.proofs.Callers.{IsPlain, command_of, runs_as, one_step}
use Rattle.sqlite.specs.Command.{Command}
use Rattle.sqlite.specs.Command.TheVariants.{Delete}
use Rattle.sqlite.specs.Does.{Tally, AtPlace, OnRows}
use Rattle.sqlite.specs.Edit.{edit_of, without_all}
use Rattle.sqlite.specs.Effect.{Database, Answers}
use Rattle.sqlite.specs.Listing.{understood}
use Rattle.sqlite.specs.Order.{Row, column}
use Rattle.sqlite.specs.Program.{overlay}
use Rattle.sqlite.specs.Query.{IsAnswer, Output, output}
use Rattle.sqlite.specs.Rowids.TheVariants.{Given}
use Rattle.sqlite.specs.Rows.{Written, Part, Edited}
use Rattle.sqlite.specs.Schema.{Schema}
use Rattle.sqlite.specs.State.{State, mode_of, Executes}
use Rattle.sqlite.specs.Table.{Table}
use Rattle.sqlite.specs.Term.{Term, holds}
use Rattle.sqlite.specs.Tree.{Trees}
use Rattle.sqlite.specs.declared.run.Mode.{Mode}
use Rattle.sqlite.specs.declared.types.Value.TheVariants.{Null}
use Rattle.sqlite_rules.specs.Calls.{ids_of}
use Rattle.sqlite_schema.specs.declared.schema.Column.{Column}
use Rattle.register_sql.specs.Changes.{Spares, Removes}
use Rattle.register_sql.specs.Rows.{Apart}
use Rattle.register_sql.specs.Tables.{table, hub_schema}
use Rattle.register_sql.proofs.Added.{went, same_value, spares}
use Rattle.register_sql.proofs.Apart.{left_over}
use Rattle.register_sql.proofs.Texts.{deletes}

pub map_twice : {A B C : Type 0} (g : B → C) (f : A → B) (rows : List A)
    → map g (map f rows) ≡ map (λ r. g (f r)) rows
map_twice g f [] = refl
map_twice g f (r ∷ rows) = ap (λ l. g (f r) ∷ l) (map_twice g f rows)

filtered : {A B : Type 0} (p : A → Bool) (f : A → B) (rows : List A)
    → flat_map (λ r. cond (p r) (f r ∷ []) []) rows ≡ map f (filter p rows)
filtered p f [] = refl
filtered {A} {B} p f (r ∷ rows) = go (p r) (filtered p f rows)
  where
    go : (b : Bool) → flat_map (λ x. cond (p x) (f x ∷ []) []) rows ≡ map f (filter p rows)
        → cond b (f r ∷ []) [] ++ flat_map (λ x. cond (p x) (f x ∷ []) []) rows
        ≡ map f (cond b (r ∷ filter p rows) (filter p rows))
    go true h = ap (λ l. f r ∷ l) h
    go false h = h

-- the row has the key in the parameters
abbrev pub has_key : List Term → Row → Row → Bool
has_key key params row = list_all (holds (params ∷ row ∷ [])) key

-- the rows that a DELETE finds are those with the key
finds_key : (t : ℕ) (key : List Term) (db : Trees) (params : Row) (rows : List Row)
    → IsAnswer (deletes t key) db params rows
    → IsPermutation (map (λ r. column r 0 ∷ []) (filter (has_key key params) (db t))) rows
finds_key t key db params rows a =
    let staged : a.staged ≡ map (λ r. params ∷ r ∷ []) (filter (has_key key params) (db t)) =
    a.grouped ∙ filtered (has_key key params) (λ r. params ∷ r ∷ []) (db t) in
    let kept : a.kept ≡ map (output (deletes t key))
    (map (λ r. params ∷ r ∷ []) (filter (has_key key params) (db t))) =
    a.distinct ∙ ap (map (output (deletes t key))) staged in
    let shows : rows ≡ map (λ (o : Output). o.1) a.ordered = a.shown in
    let all : map (λ (o : Output). o.1) a.kept ≡ map (λ r. column r 0 ∷ [])
    (filter (has_key key params) (db t)) =
    ap (map (λ (o : Output). o.1)) kept ∙ map_twice _ _
    (map (λ r. params ∷ r ∷ []) (filter (has_key key params) (db t))) ∙ map_twice _ _
    (filter (has_key key params) (db t)) in
    rw shows (subst (λ l. IsPermutation l (map (λ (o : Output). o.1) a.ordered)) all
    (IsPermutation-map (λ (o : Output). o.1) a.kept a.ordered a.same))

-- the rows that are left are those without the key
leaves : (t : ℕ) (key : List Term) (params : Row) (db next : Trees) (found : List Row)
    → Apart (db t)
    → IsPermutation (map (λ r. column r 0 ∷ []) (filter (has_key key params) (db t))) found
    → next t ≡ without_all (db t) (ids_of found)
    → next t ≡ filter (λ r. not (has_key key params r)) (db t)
leaves t key params db next found apart finds made =
    let ids : IsPermutation (ids_of (filter (has_key key params) (db t))) (ids_of found) =
    subst (λ l. IsPermutation l (ids_of found)) (map_twice _ _ (filter (has_key key params) (db t)))
    (IsPermutation-map _ _ _ finds) in
    made ∙ left_over (has_key key params) (db t) (ids_of found) apart ids

-- a DELETE of the rows of a table of the store that have a key
module _ (text : List ℕ) (params : Row) (at : ℕ) (wanted : List Term)
    (name : List ℕ) (tree : ℕ) (columns : List Column) (key : Option ℕ) (primary : List ℕ)
    (uniques : List (List ℕ))
    (is : command_of (understood hub_schema text)
    ≡ Delete at (record { lets = []; body = deletes tree wanted }))
    (plain : IsPlain (understood hub_schema text))
    (there : slice_get hub_schema.tables at ≡ Some (table name tree columns key primary uniques))
    (bare : (db : Trees) → overlay db [] tree ≡ db tree) where
  abbrev from : Table
  from = table name tree columns key primary uniques

  abbrev command : Command
  command = Delete at (record { lets = []; body = deletes tree wanted })

  -- the result of a successful DELETE, in any schema
  goes_through : (limit : Option ℕ) (mode : Mode) (schema : Schema) (db : Trees) (tally : Tally)
      (after : Database)
      → OnRows (record {
        limit = limit;
        keys = mode.keys;
        schema = schema;
        table = from;
        params = params;
      }) mode None command db (Ok (tally, after))
      → (found : List Row) × Answers (record { schema = schema; trees = db })
      (record { lets = []; body = deletes tree wanted }) params found × (mid : Trees)
      × Edited schema mode.keys db (edit_of db from (ids_of found) Given 0 []) (Ok mid)
      × (after ≡ record { schema = schema; trees = mid })
  goes_through limit mode schema db tally after does =
      let done = went does in
      let now = ap (λ (p : Tally × Database). p.1) (same_value (went (went done.2).2).2) in
      let found = went done.1 in
      let written = went found.2 in
      let trees : done.0.trees ≡ written.0 =
      ap (λ (it : Written). it.trees) (same_value written.2) in (
        found.0,
        found.1,
        written.0,
        written.1,
        now ∙ ap (λ (t : Trees). let d : Database = record { schema = schema; trees = t }
            in d) trees,
      )

  pub removed : (old new : State) (count : ℕ) → old.now.schema ≡ hub_schema
      → Apart (old.now.trees tree) → Executes text params old new (Ok count)
      → Removes tree (has_key wanted params) old.now new.now
  removed old new count has apart h =
      let db = old.now.trees in
      let mode = mode_of old in
      let w = runs_as text params old new hub_schema has command is plain count h in
      let on : Table → Part (Tally × Database) =
      λ k. OnRows (record {
        limit = old.step_limit;
        keys = mode.keys;
        schema = hub_schema;
        table = k;
        params = params;
      }) mode None command db in
      let does : AtPlace on (slice_get hub_schema.tables at) (Ok (w.tally, new.now)) =
      subst (λ it. AtPlace
      (λ k. OnRows (record {
        limit = old.step_limit;
        keys = mode.keys;
        schema = it;
        table = k;
        params = params;
      }) mode None command db) (slice_get it.tables at) (Ok (w.tally, new.now)))
      has w.changed in
      let it = goes_through old.step_limit mode hub_schema db w.tally new.now
      (subst (λ o. AtPlace on o (Ok (w.tally, new.now))) there does) in
      let last : new.now.trees ≡ it.2 = ap (λ (d : Database). d.trees) it.4 in
      let finds =
      subst (λ l. IsPermutation (map (λ r. column r 0 ∷ []) (filter (has_key wanted params) l))
      it.0) (bare db) (finds_key tree wanted (overlay db []) params it.0 (it.1.answer Null)) in
      let step = one_step hub_schema _ db it.2 (edit_of db from (ids_of it.0) Given 0 [])
      refl it.3 in
      let left : it.2 tree ≡ filter (λ r. not (has_key wanted params r)) (db tree) =
      leaves tree wanted params db it.2 it.0 apart finds step.rows in
      record {
        schema = ap (λ (d : Database). d.schema) it.4;
        sound = w.sound;
        rows = ap (λ (k : Trees). k tree) last ∙ left;
        others = subst (Spares tree db) (sym last) (spares tree db it.2 step.tables);
      }
