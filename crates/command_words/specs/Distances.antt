-- Defines how far a word is from a text, and which word is nearest.
use Rattle.std.specs.Prelude.{ℕ, ◌≡◌, ◌≤◌, ⊤, List, Option, Some, None, length, map, nat_eq}
use Rattle.std.specs.Char.{to_ascii_lowercase}
use Rattle.strsim.specs.Edits.{levenshtein_row}
use Rattle.command_words.specs.declared.meaning.Meaning.{Meaning}
use Rattle.command_words.specs.declared.nearest.Nearest.{Nearest}

-- The bytes of a text, with small letters in place of capitals.
abbrev pub lowered : List ℕ → List ℕ
lowered text = map to_ascii_lowercase text

-- How many bytes have to be added, dropped or changed to make one text of the other. The case of
-- letters doesn't count.
abbrev pub edits_between : List ℕ → List ℕ → ℕ
edits_between text word =
    levenshtein_row nat_eq (lowered text) (lowered word) (length (lowered word))

-- The distance of a found word is its own.
abbrev pub IsFoundBy : List ℕ → Option Nearest → Type 0
IsFoundBy text None = ⊤
IsFoundBy text (Some found) = found.edits ≡ edits_between text found.meaning.now.word.now

-- The word isn't nearer than the found one.
abbrev pub IsNoNearer : List ℕ → Option Nearest → Meaning → Type 0
IsNoNearer text None word = ⊥
IsNoNearer text (Some found) word = found.edits ≤ edits_between text word.word.now

-- The result is as near as the best before it.
abbrev pub IsAsNear : Option Nearest → Option Nearest → Type 0
IsAsNear None found = ⊤
IsAsNear (Some best) None = ⊥
IsAsNear (Some best) (Some found) = found.edits ≤ best.edits
