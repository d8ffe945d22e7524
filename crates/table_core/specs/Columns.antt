-- Defines the columns of a table, and which of them a heading names.
use Rattle.std.specs.Prelude.{ℕ, ◌+◌, ◌-◌, ◌==◌, ◌&&◌, nat_eq, nat_lt, Bool, List, [], ◌∷◌}
use Rattle.std.specs.Prelude.{◌++◌, length, map, take, drop, Option, Some, None, is_none}
use Rattle.std.specs.Prelude.{option_map, if◌then◌else◌, codes}
use Rattle.std.specs.Option.{option_or, option_map_or}
use Rattle.std.specs.List.{find, list_any, prefix_len, suffix_len}
use Rattle.std.specs.Char.{to_ascii_lowercase}
use Rattle.std.specs.Str.{bytes_eq}
use Rattle.strsim.specs.Edits.{levenshtein_row}
use Rattle.table_core.specs.declared.TheConstants.{COLUMNS}
use Rattle.table_core.specs.declared.column.Column.{Column}
use Rattle.table_core.specs.declared.column.Column.TheVariants.{Kind, Thing, Container, Place, Day}
use Rattle.table_core.specs.declared.column.Column.TheVariants.{Loan, Partner, Objects, First}
use Rattle.table_core.specs.declared.column.Column.TheVariants.{Last, By, N}
use Rattle.table_core.specs.declared.fault.HeadingFault.{HeadingFault}
use Rattle.table_core.specs.declared.fault.HeadingFault.TheVariants.{NearHeading, TwiceHeading}

abbrev pub column_name : Column → List ℕ
column_name Kind = codes "kind"
column_name Thing = codes "thing"
column_name Container = codes "container"
column_name Place = codes "place"
column_name Day = codes "day"
column_name Loan = codes "loan"
column_name Partner = codes "partner"
column_name Objects = codes "objects"
column_name First = codes "first"
column_name Last = codes "last"
column_name By = codes "by"
column_name N = codes "n"

abbrev pub is_blank_byte : ℕ → Bool
is_blank_byte b = b == 32

abbrev pub front_trimmed : List ℕ → List ℕ
front_trimmed text = drop (prefix_len is_blank_byte text) text

abbrev pub back_trimmed : List ℕ → List ℕ
back_trimmed text = take (length text - suffix_len is_blank_byte text) text

-- The word of a field of the heading: without spaces at its ends, and in small letters.
abbrev pub word_of : List ℕ → List ℕ
word_of text = map to_ascii_lowercase (back_trimmed (front_trimmed text))

-- The column of this name.
abbrev pub column_named : List ℕ → Option Column
column_named word = find (λ column. bytes_eq (column_name column) word) COLUMNS

-- The word becomes the column's name if one byte is added, dropped or changed.
abbrev pub is_near : List ℕ → Column → Bool
is_near word column =
    levenshtein_row nat_eq word (column_name column) (length (column_name column)) == 1

-- The first column that the word is near. A field without text is near no column.
abbrev pub near_column : List ℕ → Option Column
near_column word = if nat_lt 0 (length word) then find (is_near word) COLUMNS else None

-- The fault of a word behind these: it is nearly the name of a column, or names one a second time.
abbrev pub named_fault : List (List ℕ) → List ℕ → Column → Option HeadingFault
named_fault earlier word column =
    if list_any (bytes_eq word) earlier then Some (TwiceHeading (length earlier + 1) column)
    else None

abbrev pub unnamed_fault : List (List ℕ) → List ℕ → Option HeadingFault
unnamed_fault earlier word = option_map (NearHeading (length earlier + 1)) (near_column word)

abbrev pub word_fault : List (List ℕ) → List ℕ → Option HeadingFault
word_fault earlier word =
    option_map_or (named_fault earlier word) (column_named word) (unnamed_fault earlier word)

-- The first fault of the words of a heading, behind these.
abbrev pub words_fault : List (List ℕ) → List (List ℕ) → Option HeadingFault
words_fault earlier [] = None
words_fault earlier (word ∷ words) =
    option_or (word_fault earlier word) (words_fault (earlier ++ word ∷ []) words)

-- The word has text, and no column has that name: the field is unknown, and its cells aren't read.
abbrev pub is_unknown : List ℕ → Bool
is_unknown word = nat_lt 0 (length word) && is_none (column_named word)

-- The unknown fields of a heading, from the field with this number on.
abbrev pub unknown_from : ℕ → List (List ℕ) → List ℕ
unknown_from field [] = []
unknown_from field (word ∷ words) =
    if is_unknown word then field ∷ unknown_from (field + 1) words
    else unknown_from (field + 1) words
