-- Defines how bytes are cut into lines, and into the head of a run and the lines after it.
use Rattle.std.specs.Prelude.{ℕ, ◌-◌, ◌==◌, nat_eq, Bool, true, false, List, [], ◌∷◌, length, take}
use Rattle.std.specs.Prelude.{map, if◌then◌else◌}
use Rattle.std.specs.List.{concat, ends_with, before_first, after_first}

-- Adds a byte to the front of the first piece.
abbrev pub before : ℕ → List (List ℕ) → List (List ℕ)
before b [] = (b ∷ []) ∷ []
before b (piece ∷ pieces) = (b ∷ piece) ∷ pieces

-- The bytes cut after each line feed.
abbrev pub pieces : List ℕ → List (List ℕ)
pieces [] = []
pieces (b ∷ bs) = if b == 10 then (b ∷ []) ∷ pieces bs else before b (pieces bs)

-- The line without one carriage return at its end.
abbrev pub without_return : List ℕ → List ℕ
without_return line = if ends_with nat_eq line (13 ∷ []) then take (length line - 1) line else line

-- The line of a piece: its bytes before the line feed.
abbrev pub line_of : List ℕ → List ℕ
line_of piece = without_return (before_first (λ b. b == 10) piece)

-- The lines of the bytes.
abbrev pub lines : List ℕ → List (List ℕ)
lines bytes = map line_of (pieces bytes)

abbrev pub is_empty : List ℕ → Bool
is_empty [] = true
is_empty (b ∷ line) = false

-- The bytes up to the last line feed.
abbrev pub ended : List ℕ → List ℕ
ended [] = []
ended (b ∷ bs) =
    if b == 10 then b ∷ ended bs else (if is_empty (ended bs) then [] else b ∷ ended bs)

-- The line of the piece is empty.
abbrev pub is_blank : List ℕ → Bool
is_blank piece = is_empty (line_of piece)

-- The head of a run: the bytes before its first empty line, or all if there is none.
abbrev pub head : List ℕ → List ℕ
head bytes = concat (before_first is_blank (pieces bytes))

-- The bytes after that empty line.
abbrev pub after_head : List ℕ → List ℕ
after_head bytes = concat (after_first is_blank (pieces bytes))
