-- Defines the faults of a register: when each can come, and which are counted.
use Rattle.std.specs.Prelude.{ℕ, pos, ◌≡◌, ◌+◌, ◌-◌, ◌^◌, ◌<◌, ◌≤◌, ◌&&◌, min, Bool, true, false}
use Rattle.std.specs.Prelude.{not, List, [], ◌∷◌, ◌++◌, length, reverse, All, Result, Ok, Err, OnOk}
use Rattle.std.specs.Prelude.{IfErr, codes}
use Rattle.std.specs.List.{list_any}
use Rattle.std.specs.List.Sorted.{IsPermutation, IsSortedByKey}
use Rattle.std.specs.Ordering.{int_cmp, int_eq}
use Rattle.std.specs.Str.{bytes_eq}
use Rattle.nest_core.specs.Museum.{Museum}
use Rattle.posting_core.specs.declared.TheConstants.{LAST_NUMBER}
use Rattle.posting_core.specs.declared.entry.Entry.{Entry}
use Rattle.register_store.specs.declared.store_fault.StoreFault.{StoreFault}
use Rattle.register_store.specs.declared.store_fault.StoreFault.TheVariants.{NoMemory, Store}
use Rattle.register_store.specs.declared.store_fault.StoreFault.TheVariants.{OtherSetup, Damaged}
use Rattle.register_store.specs.declared.store_fault.StoreFault.TheVariants.{OtherVersion}
use Rattle.register_store.specs.StoredRows.{MetaRow, PostingRow, Content, rows_of_setup}
use Rattle.register_store.specs.StoredRows.{rows_of_meta, is_depth, IsPostingRow, ArePostings}

-- Store adds one to the number of times that a register has returned it, up to 2^64 - 1. Any other
-- result leaves the number as it was.
abbrev pub CountsRefusal : {T : Type 0} → ℕ → ℕ → Result T StoreFault → Type 0
CountsRefusal old new (Ok x) = new ≡ old
CountsRefusal old new (Err NoMemory) = new ≡ old
CountsRefusal old new (Err Store) = new ≡ min (old + 1) (2 ^ 64 - 1)
CountsRefusal old new (Err OtherSetup) = new ≡ old
CountsRefusal old new (Err (Damaged at)) = new ≡ old
CountsRefusal old new (Err OtherVersion) = new ≡ old

-- No memory, or a store that failed. These can come from any call; the other faults have a cause in
-- the store's rows.
abbrev pub is_failure : StoreFault → Bool
is_failure NoMemory = true
is_failure Store = true
is_failure OtherSetup = false
is_failure (Damaged at) = false
is_failure OtherVersion = false

-- A stopped register stays stopped and returns Store. After an Ok it runs. Only NoMemory or Store
-- can
-- stop it.
pub record Stops {T : Type 0} (old new : Bool) (r : Result T StoreFault) : Type 0 where
  pub going : OnOk r (new ≡ false)
  pub stays : old ≡ true → (r ≡ Err Store) × (new ≡ true)
  pub cause : new ≡ true → IfErr r (λ fault. is_failure fault ≡ true)

-- The faults that only a store outside the program can have.
abbrev pub is_of_store : StoreFault → Bool
is_of_store NoMemory = false
is_of_store Store = true
is_of_store OtherSetup = false
is_of_store (Damaged at) = false
is_of_store OtherVersion = true

-- The faults of listing the entries.
abbrev pub is_of_listing : StoreFault → Bool
is_of_listing NoMemory = true
is_of_listing Store = true
is_of_listing OtherSetup = false
is_of_listing (Damaged at) = true
is_of_listing OtherVersion = false

-- A store with no rows about itself is new.
abbrev pub is_new : List MetaRow → Bool
is_new [] = true
is_new (row ∷ rows) = false

-- A new store gets the setup and the depth limit 12. An old one stays as it is.
abbrev pub bound_by : Bool → Museum → Content → Content
bound_by true S c = record c { setup = rows_of_setup S; meta = rows_of_meta 12 }
bound_by false S c = c

-- The content after the store is bound to the setup.
abbrev pub bound_to : Museum → Content → Content
bound_to S c = bound_by (is_new c.meta) S c

-- A row about the store has a version other than 2.
abbrev pub has_other_version : List MetaRow → Bool
has_other_version meta =
    list_any (λ row. bytes_eq row.name (codes "version") && not (int_eq row.val (pos 2))) meta

-- The rows about the store are those of version 2, with a possible depth limit.
abbrev pub IsWhole : List MetaRow → Type 0
IsWhole meta = (depth : ℕ) × (is_depth depth ≡ true) × IsPermutation (rows_of_meta depth) meta

-- Why a store can't be bound to a setup, in this order: OtherVersion; Damaged(0), if the rows about
-- an old store aren't whole; OtherSetup.
abbrev pub IsBindFault : Museum → Content → StoreFault → Type 0
IsBindFault S c NoMemory = Unit {0}
IsBindFault S c Store = Unit {0}
IsBindFault S c OtherVersion = has_other_version c.meta ≡ true
IsBindFault S c (Damaged at) =
    (at ≡ 0) × (is_new c.meta ≡ false) × (has_other_version c.meta ≡ false) × (IsWhole c.meta → ⊥)
IsBindFault S c OtherSetup = IsWhole c.meta × (IsPermutation (rows_of_setup S) c.setup → ⊥)

-- The entry's station is one of this many, and its number is 1 to 999,999.
pub record IsOfStation (stations : ℕ) (e : Entry) : Type 0 where
  pub known : e.station < stations
  pub first : 1 ≤ e.n
  pub few : e.n ≤ LAST_NUMBER

-- The row, with this number, is that of no entry of these stations.
abbrev pub IsWrongRow : ℕ → ℕ → PostingRow → Type 0
IsWrongRow stations number row =
    (e : Entry) → IsPostingRow number e row → IsOfStation stations e → ⊥

-- In these rows, oldest first, row `at` is the first wrong one.
pub record IsWrongAt (stations at : ℕ) (rows : List PostingRow) : Type 0 where
  pub before : List PostingRow
  pub row : PostingRow
  pub after : List PostingRow
  pub split : rows ≡ before ++ row ∷ after
  pub number : length before + 1 ≡ at
  pub entries : List Entry
  pub right : ArePostings entries (reverse before)
  pub stationed : All (IsOfStation stations) entries
  pub wrong : IsWrongRow stations at row

-- In the order of the rows' numbers, row `at` is the first wrong one.
pub record IsFirstWrong (stations at : ℕ) (c : Content) : Type 0 where
  pub rows : List PostingRow
  pub all : IsPermutation rows c.postings
  pub order : IsSortedByKey (λ row. row.id) int_cmp rows
  pub first : IsWrongAt stations at rows

-- Why a store can't list its entries: Damaged, with the number of the first wrong row.
abbrev pub IsListFault : ℕ → Content → StoreFault → Type 0
IsListFault stations c NoMemory = Unit {0}
IsListFault stations c Store = Unit {0}
IsListFault stations c (Damaged at) = IsFirstWrong stations at c
IsListFault stations c OtherSetup = ⊥
IsListFault stations c OtherVersion = ⊥
