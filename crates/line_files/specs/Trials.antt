-- Defines the record in a trial of messages: each is posted as if its station sent it now.
use Rattle.std.specs.Prelude.{ℕ, ◌∷◌, [], List, Result, Ok, Err}
use Rattle.posting_core.specs.declared.entry.Entry.{Entry}
use Rattle.posting_core.specs.declared.message.Message.{Message}
use Rattle.posting_core.specs.Book.{Book, verdict_in}
use Rattle.line_files.specs.declared.gap_fault.GapFault.{GapFault}
use Rattle.line_files.specs.Gaps.{next_number}
use Rattle.table_core.specs.declared.row.TableLine.{TableLine}

-- The entry of a message of station s under number n, with the verdict that it would get now.
abbrev pub entry_under : Book → ℕ → Message → ℕ → Entry
entry_under B s m n = record { station = s; n = n; message = m; verdict = verdict_in B m }

-- The record with the message under this number. Without a number it isn't sent.
abbrev pub with_message : Book → ℕ → Message → Result ℕ GapFault → Book
with_message B s m (Ok n) = record B { posted = entry_under B s m n ∷ B.posted }
with_message B s m (Err fault) = B

-- The record after station s sends a message under its next number.
abbrev pub after_message : Book → ℕ → Message → Book
after_message B s m = with_message B s m (next_number B s)

-- The record after it sends the messages of these rows in order. The rows' own numbers aren't used.
abbrev pub after_lines : Book → ℕ → List TableLine → Book
after_lines B s [] = B
after_lines B s (line ∷ lines) = after_lines (after_message B s line.message) s lines
