-- Defines a record as it was after an earlier entry.
use Rattle.std.specs.Prelude.{ℕ, Option, Some, None, reverse, take}
use Rattle.posting_core.specs.Book.{Book}

-- The record as it was after entry n: its first n entries. A record with fewer is as it is.
abbrev pub upto : Book → ℕ → Book
upto B n = record B { posted = reverse (take n (reverse B.posted)) }

-- The record that a question is about: as it was after an entry, or as it is now.
abbrev pub as_of : Option ℕ → Book → Book
as_of None B = B
as_of (Some n) B = upto B n
