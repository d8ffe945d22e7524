-- Defines the effect of one statement on a whole store.
use Rattle.std.specs.Prelude.{◌≡◌, ◌≢◌, ℕ, Bool, false, not, ◌∷◌, filter}
use Rattle.std.specs.List.Sorted.{IsPermutation}
use Rattle.sqlite.specs.Edit.{is_taken}
use Rattle.sqlite.specs.Effect.{Database, IsDatabase}
use Rattle.sqlite.specs.Order.{Row}
use Rattle.sqlite.specs.Tree.{Trees}
use Rattle.register_sql.specs.Tables.{hub_schema}

-- The other tables have the same rows as before.
pub record Spares (t : ℕ) (db next : Trees) : Type 0 where
  pub meta : 0 ≢ t → next 0 ≡ db 0
  pub setup : 2 ≢ t → next 2 ≡ db 2
  pub postings : 3 ≢ t → next 3 ≡ db 3
  pub spots : 5 ≢ t → next 5 ≡ db 5
  pub lines : 7 ≢ t → next 7 ≡ db 7
  pub terms : 9 ≢ t → next 9 ≡ db 9

-- One row was added, with a rowid that no other row has.
pub record Adds (t : ℕ) (row : Row) (db next : Database) : Type 0 where
  pub schema : next.schema ≡ hub_schema
  pub sound : IsDatabase next
  pub rows : IsPermutation (row ∷ db.trees t) (next.trees t)
  pub free : is_taken (db.trees t) row ≡ false
  pub others : Spares t db.trees next.trees

-- The rows that pass the test were removed.
pub record Removes (t : ℕ) (goes : Row → Bool) (db next : Database) : Type 0 where
  pub schema : next.schema ≡ hub_schema
  pub sound : IsDatabase next
  pub rows : next.trees t ≡ filter (λ r. not (goes r)) (db.trees t)
  pub others : Spares t db.trees next.trees
