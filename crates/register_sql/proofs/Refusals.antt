-- Which errors a command is refused for.
use Rattle.std.proofs.Common.{◌≡◌, ◌⊎◌, inl, inr, ℕ, ℤ, Bool, true, false, ◌&&◌, not, List, [], ◌∷◌}
use Rattle.std.proofs.Common.{Option, Some, None, Ok, Err, MatchBool, refl, sym, ap, subst, ◌∙◌}
use Rattle.std.proofs.Common.{option_map, slice_get, is_some}
use Rattle.sqlite_trees.specs.Tree.{Trees}
use Rattle.sqlite_value.specs.Order.{Row}
use Rattle.sqlite_rules.specs.Calls.{ids_of}
use Rattle.sqlite_rules.specs.Cast.{cast_row}
use Rattle.sqlite_rules.specs.Edit.{Edit, edit_of, with_rowid}
use Rattle.sqlite_rules.specs.declared.error.Rowids.TheVariants.{Given}
use Rattle.std.specs.Option.{option_to_list}
use Rattle.sqlite_rules.specs.declared.error.Refusal.{Refusal}
use Rattle.sqlite_rules.specs.declared.error.Refusal.TheVariants.{Violates, Mismatch, NoRowid}
use Rattle.sqlite_rules.specs.declared.error.Refusal.TheVariants.{BadReference, TooDeep}
use Rattle.sqlite_schema.specs.Rules.{Refers}
use Rattle.sqlite_schema.specs.declared.schema.Among.{Among}
use Rattle.sqlite_schema.specs.declared.schema.Schema.{Schema}
use Rattle.sqlite_schema.specs.declared.schema.Table.{Table}
use Rattle.sqlite_schema.specs.declared.schema.Keys.{Keys}
use Rattle.sqlite_schema.specs.declared.program.Program.{Program}
use Rattle.sqlite_schema.specs.declared.command.Source.{Source}
use Rattle.sqlite_schema.specs.declared.command.Source.TheVariants as source
use Rattle.sqlite_schema.specs.declared.command.Upsert.{Upsert}
use Rattle.sqlite_schema.specs.declared.command.Conflict.{Conflict}
use Rattle.sqlite_schema.specs.declared.command.Conflict.TheVariants.{Abort, Ignore, Replace}
use Rattle.sqlite_schema.specs.declared.command.Returning.{Returning}
use Rattle.sqlite_schema.specs.declared.command.Command.{Command}
use Rattle.sqlite_schema.specs.declared.command.Command.TheVariants.{Insert, InsertOr, Update}
use Rattle.sqlite_schema.specs.declared.command.Command.TheVariants.{Delete, CreateTable}
use Rattle.sqlite_schema.specs.declared.command.Command.TheVariants.{CreateIndex, DropTable}
use Rattle.sqlite_schema.specs.declared.command.Command.TheVariants.{DropIndex, CreateView}
use Rattle.sqlite_schema.specs.declared.command.Command.TheVariants.{DropView}
use Rattle.sqlite_catalog.specs.declared.error.Refusal as alter
use Rattle.sqlite_catalog.specs.declared.error.Refusal.TheVariants as why
use Rattle.sqlite.specs.declared.error.Error.{Error}
use Rattle.sqlite.specs.declared.error.Error.TheVariants.{InvalidQuery}
use Rattle.sqlite.specs.declared.run.Mode.{Mode}
use Rattle.sqlite.specs.Effect.{Database, RefusesQuery, edit_error, alter_error, RefusesToAlter}
use Rattle.sqlite.specs.Effect.{IsNoText}
use Rattle.sqlite.specs.Rows as rows
use Rattle.sqlite.specs.Rows.{Part, Outcome, Then, Gives, Refuses, Queried, Sourced, Edited}
use Rattle.sqlite.specs.Rows.{Written, Task, sequence, Counter, Updates, Deletes, Inserts}
use Rattle.sqlite.specs.Rows.{InsertsOr}
use Rattle.sqlite.specs.Does as does
use Rattle.sqlite.specs.Does.{Does, Tally, Tested, AtPlace, MakesTable, MakesSequence, MakesIndex}
use Rattle.sqlite.specs.Does.{MakesView, Leaves, Counted, Defines, Shows, Returns, Concludes}
use Rattle.sqlite.specs.Does.{WritesRows, OnRows, Empties, UncountsIn, Drops, OnTable, Redefines}
use Rattle.sqlite.specs.Does.{lacks_sequence}
use Rattle.register_sql.specs.Failing.{is_of_disk, is_of_statement}

-- the error is a refusal of the database
abbrev pub is_refusal : Error → Bool
is_refusal e = is_of_statement e && not (is_of_disk e)

-- the outcome is no error, or is a refusal
abbrev Mild : {A : Type 0} → Outcome A → Type 0
Mild (Ok a) = Unit {0}
Mild (Err None) = Unit {0}
Mild (Err (Some e)) = is_refusal e ≡ true

-- each outcome of this part of a statement is
abbrev IsMild : {A : Type 0} → Part A → Type 0
IsMild {A = A} P = (o : Outcome A) → P o → Mild o

mild_stop : (A B : Type 0) (stop : Option Error) → Mild {A = A} (Err stop) → Mild {A = B} (Err stop)
mild_stop A B None h = tt
mild_stop A B (Some e) h = h

gives : {A : Type 0} (a : A) → IsMild (Gives a)
gives a out is = subst Mild (sym is) tt

refuses : {A : Type 0} (e : Error) (out : Outcome A) → is_refusal e ≡ true → Refuses {A = A} e out
    → Mild out
refuses e out mild is = subst Mild (sym is) mild

then : {A B : Type 0} (First : Part A) (Next : A → Part B) → IsMild First
    → ((a : A) → IsMild (Next a)) → IsMild (Then First Next)
then {A = A} {B = B} First Next f n out (inl h) =
    subst Mild (sym h.2) (mild_stop A B h.0 (f (Err h.0) h.1))
then First Next f n out (inr h) = n h.0 out h.2

pub either : (b : Bool) (P Q R : Type 0) → (P → R) → (Q → R) → MatchBool b P Q → R
either true P Q R p q h = p h
either false P Q R p q h = q h

mild_at : (A : Type 0) (stop : Option Error) (e : Error) → stop ≡ Some e → is_refusal e ≡ true
    → Mild {A = A} (Err stop)
mild_at A stop e is mild = rw is mild

pub refuses_query : (limit : Option ℕ) (db : Database) (q : Program) (params : Row) (e : Error)
    → RefusesQuery limit db q params e → is_refusal e ≡ true
refuses_query limit db q params e (inl h) = ap is_refusal h.0
refuses_query limit db q params e (inr (inl h)) = ap is_refusal h.0
refuses_query limit db q params e (inr (inr h)) = ap is_refusal h.0

queried : (limit : Option ℕ) (db : Database) (q : Program) (params : Row)
    → IsMild (Queried limit db q params)
queried limit db q params (Ok rows) h = tt
queried limit db q params (Err None) h = tt
queried limit db q params (Err (Some e)) h = refuses_query limit db q params e h

sourced : (limit : Option ℕ) (db : Database) (params : Row) (from : Source)
    → IsMild (Sourced limit db params from)
sourced limit db params from (Ok rows) h = tt
sourced limit db params from (Err None) h = tt
sourced limit db params (source.Values terms width) (Err (Some e)) (inl h) = ap is_refusal h.0
sourced limit db params (source.Values terms width) (Err (Some e)) (inr h) = ap is_refusal h.0
sourced limit db params (source.Query q) (Err (Some e)) h = refuses_query limit db q params e h

edit_refused : (why : Refusal) → is_refusal (edit_error why) ≡ true
edit_refused (Violates rule) = refl
edit_refused Mismatch = refl
edit_refused BadReference = refl
edit_refused NoRowid = refl
edit_refused TooDeep = refl

edited : (schema : Schema) (keys : Keys) (db : Trees) (edit : Edit)
    → IsMild (Edited schema keys db edit)
edited schema keys db edit (Ok next) h = tt
edited schema keys db edit (Err stop) h = go h.0 h.2
  where
    go : (why : Option Refusal) → stop ≡ option_map edit_error why → Mild {A = Trees} (Err stop)
    go None is = rw is tt
    go (Some why) is = mild_at Trees stop _ is (edit_refused why)

-- ---- changing the schema

alter_refused : (reason : alter.Refusal) → is_refusal (alter_error reason) ≡ true
alter_refused (why.Invalid e) = refl
alter_refused why.NameTaken = refl
alter_refused why.BadName = refl
alter_refused why.BadKey = refl
alter_refused why.BadText = refl
alter_refused why.TooBig = refl
alter_refused (why.Violates rule) = refl

refuses_to_alter : (P : alter.Refusal → Type 0) (e : Error) → RefusesToAlter P e
    → is_refusal e ≡ true
refuses_to_alter P e h = ap is_refusal h.2 ∙ alter_refused h.0

no_text : (text : List ℕ) (P : alter.Refusal → Type 0) (e : Error)
    → IsNoText text e ⊎ RefusesToAlter P e → is_refusal e ≡ true
no_text text P e (inl h) = ap is_refusal h.1
no_text text P e (inr h) = refuses_to_alter P e h

makes_table : (text : List ℕ) (db : Database) → IsMild (MakesTable text db)
makes_table text db (Ok after) h = tt
makes_table text db (Err None) h = tt
makes_table text db (Err (Some e)) h = no_text text _ e h

makes_sequence : (db : Database) → IsMild (MakesSequence db)
makes_sequence db o = either (lacks_sequence db.schema) _ _ _ (makes_table _ db o) (gives db o)

makes_index : (text : List ℕ) (db : Database) (table : Table) → IsMild (MakesIndex text db table)
makes_index text db table (Ok after) h = tt
makes_index text db table (Err None) h = tt
makes_index text db table (Err (Some e)) h = no_text text _ e h

makes_view : (text : List ℕ) (db : Database) → IsMild (MakesView text db)
makes_view text db (Ok after) h = tt
makes_view text db (Err None) h = tt
makes_view text db (Err (Some e)) h = no_text text _ e h

leaves : (schema : Schema) (db : Trees) (P : Error → Type 0) → ((e : Error) → P e
    → is_refusal e ≡ true) → IsMild (Leaves schema db P)
leaves schema db P p (Ok after) h = tt
leaves schema db P p (Err None) h = tt
leaves schema db P p (Err (Some e)) h = p e h

defines : (mode : Mode) (P : Part Database) → IsMild P → IsMild (Defines mode P)
defines mode P p = then _ _ p (λ after. gives _)

-- ---- writing rows

module _ (task : Task) where
  counter : (db : Trees) → IsMild (Counter task db)
  counter db o = either task.table.is_counted _ _ _ (inside (sequence task.schema)) (gives None o)
    where
      inside : (s : Option Table) → rows.CounterIn task db s o → Mild o
      inside None = refuses InvalidQuery o refl
      inside (Some t) = gives _ o

  counts_in : (db : Trees) (c : Option Row) (top : ℤ) (s : Option Table)
      → IsMild (rows.CountsIn task db c top s)
  counts_in db c top None o = refuses InvalidQuery o refl
  counts_in db c top (Some t) o =
      edited task.schema task.keys db (rows.counting db task.table t top c) o

  counts : (db : Trees) (c : Option Row) (top : ℤ) → IsMild (rows.Counts task db c top)
  counts db c top o = either _ _ _ _ (counts_in db c top (sequence task.schema) o) (gives db o)

  updates : (q : Program) (given : Row) (db : Trees) → IsMild (Updates task q given db)
  updates q given db = then _ _ (queried task.limit _ q given)
      (λ rs. then _ _ (edited task.schema task.keys db _) (λ next. gives _))

  deletes : (q : Program) (db : Trees) → IsMild (Deletes task q db)
  deletes q db = then _ _ (queried task.limit _ q task.params)
      (λ rs. then _ _ (edited task.schema task.keys db _) (λ next. gives _))

  inserts : (from : Source) (db : Trees) → IsMild (Inserts task from db)
  inserts from db = then _ _ (sourced task.limit _ _ from)
      (λ rs. then _ _ (counter db)
      (λ c. then _ _ (edited task.schema task.keys db _)
      (λ mid. then _ _ (counts mid c _) (λ next. gives _))))

  puts : (new : Row) (db : Trees) → IsMild (rows.Puts task new db)
  puts new db = then _ _ (edited task.schema task.keys db _) (λ next. gives _)

  clears : (way : Conflict) (new : Row) (db : Trees) (found : List Row)
      → IsMild (rows.Clears task way new db found)
  clears way new db [] = puts new db
  clears Abort new db (x ∷ more) = puts new db
  clears Ignore new db (x ∷ more) = gives _
  clears Replace new db (x ∷ more) = then _ _ (edited task.schema task.keys db _) (puts new)

  resolves : (new : Row) (db : Trees) (there : Row) (q : Option Program)
      → IsMild (rows.Resolves task new db there q)
  resolves new db there None = gives _
  resolves new db there (Some q) = updates q _ db

  meets : (P : Part Written) → IsMild P
      → (new : Row) (db : Trees) (clause : Upsert) (found : List Row)
      → IsMild (rows.Meets task P new db clause found)
  meets P p new db clause [] = p
  meets P p new db clause (there ∷ more) = resolves new db there clause.update

  upserts : (way : Conflict) (new : Row) (db : Trees) (clauses : List Upsert)
      → IsMild (rows.Upserts task way new db clauses)
  upserts way new db [] o h = clears way new db h.0 o h.2
  upserts way new db (clause ∷ more) o h = meets _ (upserts way new db more) new db clause h.0 o h.2

  judged : (way : Conflict) (clauses : List Upsert) (new : Row) (db : Trees)
      (verdict : Option Refusal) → IsMild (rows.Judged task way clauses new db verdict)
  judged way clauses new db None o = upserts way new db clauses o
  judged way clauses new db (Some why) o =
      either _ _ _ _ (gives _ o) (refuses _ o (edit_refused why))

  tries : (way : Conflict) (clauses : List Upsert) (new : Row) (db : Trees)
      → IsMild (rows.Tries task way clauses new db)
  tries way clauses new db o (inl h) = refuses _ o refl h.1
  tries way clauses new db o (inr h) = judged way clauses new db h.0 o h.2

  tries_each : (way : Conflict) (clauses : List Upsert) (rs : List Row) (top : ℤ) (done : Written)
      → IsMild (rows.TriesEach task way clauses rs top done)
  tries_each way clauses [] top done = gives _
  tries_each way clauses (r ∷ more) top done =
      then _ _ (tries way clauses
      (with_rowid (rows.rowids_for task.table top) (done.trees task.table.tree)
      (cast_row task.table (rows.mended way task.table r))) done.trees)
      (λ one. tries_each way clauses more _ _)

  inserts_or : (way : Conflict) (clauses : List Upsert) (from : Source) (db : Trees)
      → IsMild (InsertsOr task way clauses from db)
  inserts_or way clauses from db = then _ _ (sourced task.limit _ _ from)
      (λ rs. then _ _ (counter db)
      (λ c. then _ _ (tries_each way clauses rs _ _)
      (λ done. then _ _ (counts done.0.trees c _) (λ next. gives _))))

  -- ---- the rest of a statement

  tested : (mode : Mode) (Holds : Among → Type 0) → IsMild (Tested mode Holds)
  tested mode Holds (Ok b) h = tt
  tested mode Holds (Err stop) h = mild_at Bool stop _ h.1 refl

  counted : (rs : List Row) → IsMild (Counted task.limit rs)
  counted rs (Ok x) h = tt
  counted rs (Err stop) h = mild_at (Unit {0}) stop _ h.1 refl

  shows : (what : Returning) (now : Trees) (rs : List Row) → IsMild (Shows task what now rs)
  shows what now [] = gives []
  shows what now (row ∷ more) = then _ _ (sourced task.limit _ _ what.row)
      (λ first. then _ _ (shows what now more) (λ others. gives _))

  returns : (w : Written) (what : Option Returning) → IsMild (Returns task w what)
  returns w None = gives []
  returns w (Some what) = then _ _ (shows what w.trees w.rows)
      (λ rs. then _ _ (counted rs) (λ _. gives rs))

  concludes : (mode : Mode) (returning : Option Returning) (w : Written)
      → IsMild (Concludes task mode returning w)
  concludes mode returning w = then _ _ (tested mode (λ among. Refers among task.schema w.trees))
      (λ in_doubt. then _ _ (returns w returning) (λ rs. gives _))

  writes_rows : (db : Trees) (command : Command) → IsMild (WritesRows task db command)
  writes_rows db (Insert at from) = inserts from db
  writes_rows db (InsertOr at way from clauses) = inserts_or way clauses from db
  writes_rows db (Update at q) = updates q task.params db
  writes_rows db (Delete at q) = deletes q db
  writes_rows db _ = λ o. refuses InvalidQuery o refl

  on_rows : (mode : Mode) (returning : Option Returning) (command : Command) (db : Trees)
      → IsMild (OnRows task mode returning command db)
  on_rows mode returning command db = then _ _ (writes_rows db command) (concludes mode returning)

  empties : (db : Trees) → IsMild (Empties task db)
  empties db o =
      either _ _ _ _
      (edited task.schema task.keys db
      (edit_of db task.table (ids_of (db task.table.tree)) Given 0 []) o) (gives db o)

  uncounts_in : (db : Trees) (s : Option Table) → IsMild (UncountsIn task db s)
  uncounts_in db None = gives db
  uncounts_in db (Some t) =
      then _ _ (counter db)
      (λ c. edited task.schema task.keys db (edit_of db t (ids_of (option_to_list c)) Given 0 []))

  drops : (mode : Mode) (db : Trees) → IsMild (Drops task mode db)
  drops mode db = then _ _ (empties db)
      (λ emptied. then _ _ (uncounts_in emptied _)
      (λ now. then _ _ (tested mode (does.HoldWithout task now))
      (λ in_doubt. then _ _ (leaves _ now _ (λ e none. absurd none)) (λ after. gives _))))

at_place : {X A : Type 0} (P : X → Part A) → ((x : X) → IsMild (P x)) → (place : Option X)
    → IsMild (AtPlace P place)
at_place P p None o = refuses InvalidQuery o refl
at_place P p (Some x) o = p x o

module _ (limit : Option ℕ) (mode : Mode) (params : Row) (db : Database) where
  on_table : (at : ℕ) (P : Task → Part (Tally × Database)) → ((task : Task) → IsMild (P task))
      → IsMild (OnTable limit mode params db at P)
  on_table at P p o = at_place _ (λ table. p _) (slice_get db.schema.tables at) o

  redefines : (text : List ℕ) (command : Command)
      → IsMild (Redefines limit mode params db text command)
  redefines text CreateTable o = defines mode _ (then _ _ (makes_table text db) makes_sequence) o
  redefines text (CreateIndex at) o =
      on_table at _ (λ task. defines mode _ (makes_index text db task.table)) o
  redefines text CreateView o = defines mode _ (makes_view text db) o
  redefines text (DropTable at) o = on_table at _ (λ task. drops task mode db.trees) o
  redefines text (DropIndex at) o =
      at_place _ (λ index. defines mode _ (leaves _ db.trees _ (λ e. refuses_to_alter _ e)))
      (slice_get db.schema.indexes at) o
  redefines text (DropView at) o =
      at_place _ (λ view. defines mode _ (leaves _ db.trees _ (λ e h. ap is_refusal h.1)))
      (slice_get db.schema.views at) o
  redefines text _ o = refuses InvalidQuery o refl

  others : (text : List ℕ) (returning : Option Returning) (command : Command)
      → IsMild (λ o. MatchBool (is_some returning) (Refuses InvalidQuery o)
      (Redefines limit mode params db text command o))
  others text returning command o =
      either _ _ _ _ (refuses InvalidQuery o refl) (redefines text command o)

  pub mildly : (text : List ℕ) (returning : Option Returning) (command : Command)
      → IsMild (Does limit mode params db text returning command)
  mildly text returning (Insert at from) o =
      on_table at _ (λ task. on_rows task mode returning (Insert at from) db.trees) o
  mildly text returning (InsertOr at way from clauses) o =
      on_table at _ (λ task. on_rows task mode returning (InsertOr at way from clauses) db.trees) o
  mildly text returning (Update at q) o =
      on_table at _ (λ task. on_rows task mode returning (Update at q) db.trees) o
  mildly text returning (Delete at q) o =
      on_table at _ (λ task. on_rows task mode returning (Delete at q) db.trees) o
  mildly text returning command o = others text returning command o
