-- Defines how a text is shown: in quotes with every character visible, or on one line.
use Rattle.std.specs.Prelude.{ℕ, ◌||◌, ◌++◌, Bool, false, not, List, codes, if◌then◌else◌}
use Rattle.std.specs.Char.{encode_utf8, is_control}
use Rattle.std.specs.Fmt.{digits}
use Rattle.std.specs.Int.{is_in_range}
use Rattle.std.specs.List.{flat_map}
use Rattle.std.specs.Str.{chars}

-- Printable ASCII, and the Latin letters up to U+024F.
abbrev pub is_plain : ℕ → Bool
is_plain c =
    is_in_range 0x20 0x7E c || is_in_range 0xC0 0xD6 c || is_in_range 0xD8 0xF6 c
    || is_in_range 0xF8 0x24F c

-- A character by its number, like `\u{a0}`.
abbrev pub by_number : ℕ → List ℕ
by_number c = codes "\\u{" ++ digits 16 false c ++ codes "}"

-- A character as it is if it is plain, otherwise by its number.
abbrev pub shown_char : Bool → ℕ → List ℕ
shown_char plain c = if plain then encode_utf8 c else by_number c

abbrev pub visible_char : ℕ → List ℕ
visible_char c = shown_char (is_plain c) c

abbrev pub line_char : ℕ → List ℕ
line_char c = shown_char (not (is_control c)) c

-- A text with every character visible.
abbrev pub visible : List ℕ → List ℕ
visible text = flat_map visible_char (chars text)

-- The same in quotes.
abbrev pub quoted : List ℕ → List ℕ
quoted text = codes "'" ++ visible text ++ codes "'"

-- A text with its control characters by their numbers.
abbrev pub on_one_line : List ℕ → List ℕ
on_one_line text = flat_map line_char (chars text)
