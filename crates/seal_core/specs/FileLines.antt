-- Defines the lines of a file. Blanks at their ends don't count, so that a line may come from a
-- mail or from another system.
use Rattle.std.specs.Prelude.{ℕ, ◌-◌, ◌==◌, List, drop, length, map, take}
use Rattle.std.specs.List.{prefix_len, slice_split, suffix_len}
use Rattle.std.specs.Char.{is_ascii_whitespace}

abbrev pub trimmed_start : List ℕ → List ℕ
trimmed_start bytes = drop (prefix_len is_ascii_whitespace bytes) bytes

abbrev pub trimmed_end : List ℕ → List ℕ
trimmed_end bytes = take (length bytes - suffix_len is_ascii_whitespace bytes) bytes

-- The bytes without the blanks, carriage returns and line feeds at their ends.
abbrev pub trimmed : List ℕ → List ℕ
trimmed bytes = trimmed_end (trimmed_start bytes)

-- The lines of a file, with the empty ones.
abbrev pub file_lines : List ℕ → List (List ℕ)
file_lines bytes = map trimmed (slice_split (λ b. b == 10) bytes)
