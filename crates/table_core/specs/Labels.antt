-- Defines labels, and the code that a text stands for. A label is what the museum has on a thing or
-- a place that isn't a code, such as a barcode or an old number.
use Rattle.std.specs.Prelude.{ℕ, ◌-◌, ◌==◌, ◌||◌, Bool, List, [], ◌∷◌, Option, Some, None, length}
use Rattle.std.specs.Prelude.{take, drop, unwrap_or, if◌then◌else◌}
use Rattle.std.specs.List.{prefix_len, suffix_len}
use Rattle.std.specs.Str.{bytes_eq}

-- A label, and the code that it stands for.
pub record Label : Type 0 where
  pub label : List ℕ
  pub code : List ℕ

-- A space or a tab.
abbrev pub is_blank : ℕ → Bool
is_blank b = (b == 32) || (b == 9)

abbrev pub without_front : List ℕ → List ℕ
without_front text = drop (prefix_len is_blank text) text

abbrev pub without_end : List ℕ → List ℕ
without_end text = take (length text - suffix_len is_blank text) text

-- The text without the blanks at its ends.
abbrev pub without_blanks : List ℕ → List ℕ
without_blanks text = without_end (without_front text)

-- The code of the first label that is this text.
abbrev pub code_of : List Label → List ℕ → Option (List ℕ)
code_of [] text = None
code_of (l ∷ ls) text = if bytes_eq text l.label then Some l.code else code_of ls text

-- What a text stands for: the code of the label that it is without the blanks at its ends, or the
-- text as it is.
abbrev pub code_for : List Label → List ℕ → List ℕ
code_for labels text = unwrap_or (code_of labels (without_blanks text)) text
