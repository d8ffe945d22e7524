-- Defines which entries a store of version 1 can have.
use Rattle.std.specs.Prelude.{◌≡◌, ◌+◌, ◌&&◌, ℕ, Bool, true, false, List, ◌∷◌, ◌++◌, length}
use Rattle.std.specs.Prelude.{reverse, All}
use Rattle.std.specs.List.Sorted.{IsPermutation, IsSortedByKey}
use Rattle.std.specs.Ordering.{int_cmp}
use Rattle.posting_core.specs.declared.entry.Entry.{Entry}
use Rattle.posting_core.specs.declared.message.Message.{Message}
use Rattle.posting_core.specs.declared.message.Message.TheVariants.{Extend}
use Rattle.posting_core.specs.declared.verdict.Verdict.{Verdict}
use Rattle.posting_core.specs.declared.verdict.Verdict.TheVariants.{NotLater}
use Rattle.register_store.specs.Registers.{IsOfStation}
use Rattle.register_store.specs.StoredRows.{Content, PostingRow, IsPostingRow, ArePostings}

-- Version 1 has no extensions.
abbrev pub is_early_message : Message → Bool
is_early_message (Extend last loan) = false
is_early_message _ = true

-- Version 1 has no verdict that only an extension can have.
abbrev pub is_early_verdict : Verdict → Bool
is_early_verdict NotLater = false
is_early_verdict _ = true

-- The entry is possible in version 1.
abbrev pub is_early : Entry → Bool
is_early e = is_early_message e.message && is_early_verdict e.verdict

-- An entry of one of this many stations that is possible in version 1.
pub record IsEarlyOf (stations : ℕ) (e : Entry) : Type 0 where
  pub stationed : IsOfStation stations e
  pub early : is_early e ≡ true

-- The row, with this number, is that of no entry of version 1 of these stations.
abbrev pub IsWrongEarly : ℕ → ℕ → PostingRow → Type 0
IsWrongEarly stations number row =
    (e : Entry) → IsPostingRow number e row → IsEarlyOf stations e → ⊥

-- In these rows, oldest first, row `at` is the first wrong one.
pub record IsEarlyWrongAt (stations at : ℕ) (rows : List PostingRow) : Type 0 where
  pub before : List PostingRow
  pub row : PostingRow
  pub after : List PostingRow
  pub split : rows ≡ before ++ row ∷ after
  pub number : length before + 1 ≡ at
  pub entries : List Entry
  pub right : ArePostings entries (reverse before)
  pub known : All (IsEarlyOf stations) entries
  pub wrong : IsWrongEarly stations at row

-- In the order of the rows' numbers, row `at` is the first wrong one.
pub record IsFirstEarlyWrong (stations at : ℕ) (c : Content) : Type 0 where
  pub rows : List PostingRow
  pub all : IsPermutation rows c.postings
  pub order : IsSortedByKey (λ row. row.id) int_cmp rows
  pub first : IsEarlyWrongAt stations at rows
