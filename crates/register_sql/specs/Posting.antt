-- Defines the effect of each step of posting an entry on a whole store.
use Rattle.std.specs.Prelude.{◌≡◌, true, not, List, [], ◌∷◌, filter, Option, Some, None, Result}
use Rattle.std.specs.Prelude.{OnOk, IsTrue}
use Rattle.sqlite.specs.Effect.{Database, IsDatabase}
use Rattle.sqlite.specs.State.{State, HasCleanDisk, KeepsCommit, Survives}
use Rattle.sqlite.specs.Tree.{Trees}
use Rattle.sqlite.specs.declared.error.Error.{Error}
use Rattle.sqlite_catalog.specs.Listing.{IsSound}
use Rattle.posting_core.specs.declared.entry.Changes.{Changes}
use Rattle.posting_core.specs.declared.entry.Entry.{Entry}
use Rattle.register_store.specs.StoredRows.{Content, PostingRow, SpotRow, LineRow, TermRow}
use Rattle.register_store.specs.StoredRows.{IsPostingRow, put, is_same_line, is_same_loan}
use Rattle.register_store.specs.StoredRows.{with_posted}
use Rattle.register_sql.specs.Rows.{AreRows, Apart}
use Rattle.register_sql.specs.Tables.{hub_schema}

-- All six tables are there. Rows of lines and last days are replaced, so their rowids must differ.
pub record IsWhole (db : Database) : Type 0 where
  pub schema : db.schema ≡ hub_schema
  pub sound : IsDatabase db
  pub lines : Apart (db.trees 7)
  pub terms : Apart (db.trees 9)

-- The transaction goes on, over a whole store while the connection is open.
pub record Within (s : State) : Type 0 where
  pub whole : IsTrue s.is_open → IsWhole s.now
  pub inside : s.in_transaction ≡ true

-- The content is changed by `change`.
abbrev pub Turns : (Content → Content) → Trees → Trees → Type 0
Turns change db next = (c : Content) → AreRows db c → AreRows next (change c)

-- The transaction goes on, and the content was changed by `change`.
pub record Makes (old new : State) (change : Content → Content) : Type 0 where
  pub within : Within new
  pub stays : IsTrue old.is_open → IsTrue new.is_open
  pub rows : Turns change old.now.trees new.now.trees

-- Inside a transaction, as long as the disk returns the bytes written to it.
abbrev pub IsWithin : State → Type 0
IsWithin s = HasCleanDisk s → Within s

-- A step that succeeds makes the change, as long as the disk returns the bytes written to it.
abbrev pub Wrote : {T : Type 0} → State → State → Result T Error → (Content → Content) → Type 0
Wrote old new r change = HasCleanDisk new → OnOk r (Makes old new change)

-- A step committed nothing.
abbrev pub Kept : State → State → Type 0
Kept old new = HasCleanDisk new → KeepsCommit old new

-- A crash after the step leaves nothing that a crash before it could not leave.
abbrev pub Survived : State → State → Type 0
Survived old new = Survives old new (λ _. ⊥)

-- The content with one more entry.
abbrev pub with_posting : PostingRow → Content → Content
with_posting r c = record c { postings = r ∷ c.postings }

-- The content with one more spot.
abbrev pub with_spot : SpotRow → Content → Content
with_spot r c = record c { spots = r ∷ c.spots }

-- The content without the line of this loan and object.
abbrev pub without_line : LineRow → Content → Content
without_line r c = record c { lines = filter (λ k. not (is_same_line r k)) c.lines }

-- The content with one more line.
abbrev pub more_line : LineRow → Content → Content
more_line r c = record c { lines = r ∷ c.lines }

-- The content with this line in place of the one of its loan and object.
abbrev pub with_line : LineRow → Content → Content
with_line r c = record c { lines = put is_same_line r c.lines }

-- The content without the last day of this loan.
abbrev pub without_term : TermRow → Content → Content
without_term r c = record c { terms = filter (λ u. not (is_same_loan r u)) c.terms }

-- The content with one more last day.
abbrev pub more_term : TermRow → Content → Content
more_term r c = record c { terms = r ∷ c.terms }

-- The content with this last day in place of the loan's present one.
abbrev pub with_term : TermRow → Content → Content
with_term r c = record c { terms = put is_same_loan r c.terms }

-- The content after the step for each of these rows, one after another.
abbrev pub with_each : {R : Type 0} → (R → Content → Content) → List R → Content → Content
with_each step [] c = c
with_each step (r ∷ more) c = with_each step more (step r c)

-- The content with this last day, if there is one.
abbrev pub with_some_term : Option TermRow → Content → Content
with_some_term None c = c
with_some_term (Some r) c = with_term r c

-- An open connection to a whole store, with no transaction.
pub record IsReady (s : State) : Type 0 where
  pub is_open : IsTrue s.is_open
  pub settled : s.now ≡ s.committed
  pub whole : IsWhole s.now

-- The change is made and committed.
pub record IsDone (old new : State) (change : Content → Content) : Type 0 where
  pub was_open : IsTrue old.is_open
  pub is_open : IsTrue new.is_open
  pub whole : IsWhole new.now
  pub rows : Turns change old.now.trees new.now.trees
  pub committed : new.committed ≡ new.now

-- A database to which the whole change was made.
pub record LeavesWhole (old : State) (change : Content → Content) (db : Trees) : Type 0 where
  pub sound : IsSound hub_schema db
  pub rows : Turns change old.now.trees db

-- A database that a crash during a posting may leave, other than those from before the posting: it
-- has the entry and all its changes.
abbrev pub LeavesPosted : Entry → Changes → State → Trees → Type 0
LeavesPosted e changes old db =
    (row : PostingRow) × IsPostingRow changes.entry e row
    × LeavesWhole old (with_posted row e changes) db

-- The connection has the same database as before.
pub record IsBack (old new : State) : Type 0 where
  pub was_open : IsTrue old.is_open
  pub now : new.now ≡ old.now
  pub committed : new.committed ≡ old.committed

-- Inside a loop: the change `left` still has to be made for `all` to be complete.
pub record SoFar (old now : State) (all left : Content → Content) : Type 0 where
  pub within : Within now
  pub stays : IsTrue old.is_open → IsTrue now.is_open
  pub kept : KeepsCommit old now
  pub rows : (c : Content) → AreRows old.now.trees c
      → (d : Content) × AreRows now.now.trees d × (left d ≡ all c)
