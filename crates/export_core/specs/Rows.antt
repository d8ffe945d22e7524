-- Defines which rows have been gathered.
use Rattle.std.specs.Prelude.{ℕ, ◌≡◌, ◌++◌, map, string_bytes}
use Rattle.posting_core.specs.Book.{Book}
use Rattle.posting_core.specs.declared.entry.Changes.{Changes}
use Rattle.posting_core.specs.declared.entry.Entry.{Entry}
use Rattle.export_core.specs.declared.entries.EntryRows.{EntryRows}
use Rattle.export_core.specs.Entries.{line_texts, lines_at, lines_upto, message_at, messages_upto}
use Rattle.export_core.specs.Entries.{movement_rows, movements_at, movements_upto}

-- The rows are those of the first n entries.
pub record HasEntries (B : Book) (n : ℕ) (rows : EntryRows) : Type 0 where
  pub messages : map string_bytes rows.messages.items ≡ messages_upto B n
  pub movements : map string_bytes rows.movements.items ≡ movements_upto B n
  pub lines : string_bytes rows.lines ≡ lines_upto B n

-- The rows of the entry at index i, from 0, are added.
pub record AddsEntry (B : Book) (i : ℕ) (before after : EntryRows) : Type 0 where
  pub messages : map string_bytes after.messages.items
      ≡ map string_bytes before.messages.items ++ message_at B i
  pub movements : map string_bytes after.movements.items
      ≡ map string_bytes before.movements.items ++ movements_at B i
  pub lines : string_bytes after.lines ≡ string_bytes before.lines ++ lines_at B i

-- What an entry changed is added, and its message isn't. The record is that after the entry.
pub record AddsChanges (B : Book) (e : Entry) (changes : Changes) (before after : EntryRows)
    : Type 0 where
  pub messages : map string_bytes after.messages.items ≡ map string_bytes before.messages.items
  pub movements : map string_bytes after.movements.items
      ≡ map string_bytes before.movements.items ++ movement_rows B e changes
  pub lines : string_bytes after.lines ≡ string_bytes before.lines ++ line_texts B.museum changes
