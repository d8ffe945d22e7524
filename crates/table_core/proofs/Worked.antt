-- The definitions computed on worked files.
use Rattle.std.specs.Prelude.{ℕ, ◌≡◌, ◌++◌, List, [], ◌∷◌, Some, None, codes, refl}
use Rattle.std.specs.Str.{chars, is_utf8}
use Rattle.csv.specs.Machine.{next_record}
use Rattle.csv.specs.Reading.{records_from, strip_bom}
use Rattle.table_core.specs.Sheets.{separator_of, sheet_fault, sheet_rows}
use Rattle.table_core.specs.declared.sheet_fault.SheetFault.TheVariants as fault

abbrev line : List ℕ → List ℕ
line text = text ++ 10 ∷ []

-- A comma, a semicolon behind a byte order mark, a tab beside a comma in quotes, and none.
comma : separator_of (line (codes "label,code") ++ codes "a;b,c") ≡ 44
unfolding strip_bom
comma = refl

semicolon : separator_of (0xEF ∷ 0xBB ∷ 0xBF ∷ codes "label;code") ≡ 59
unfolding strip_bom
semicolon = refl

tab : separator_of (codes "\"label, old\"" ++ 9 ∷ codes "code") ≡ 9
unfolding strip_bom
tab = refl

one_column : separator_of (line (codes "note") ++ codes "a,b") ≡ 255
unfolding strip_bom
one_column = refl

-- A file without a fault, and each fault.
right : sheet_fault (codes "label;code") ≡ None
unfolding strip_bom is_utf8 chars lib.Utf8.encode
right = refl

utf16 : sheet_fault (0xFF ∷ 0xFE ∷ 108 ∷ 0 ∷ []) ≡ Some fault.Utf16
unfolding strip_bom is_utf8 chars lib.Utf8.encode
utf16 = refl

utf16-zero : sheet_fault (108 ∷ 0 ∷ []) ≡ Some fault.Utf16
unfolding strip_bom is_utf8 chars lib.Utf8.encode
utf16-zero = refl

latin_1 : sheet_fault (77 ∷ 0xFC ∷ 110 ∷ []) ≡ Some fault.NotUtf8
unfolding strip_bom is_utf8 chars lib.Utf8.encode
latin_1 = refl

no_heading : sheet_fault (line [] ++ codes "label") ≡ Some fault.Empty
unfolding strip_bom is_utf8 chars lib.Utf8.encode
no_heading = refl

two_separators : sheet_fault (codes "label,code;note") ≡ Some fault.TwoSeparators
unfolding strip_bom is_utf8 chars lib.Utf8.encode
two_separators = refl

-- Rows behind a byte order mark, with a field in quotes that has the separator, and an empty line.
rows : sheet_rows (0xEF ∷ 0xBB ∷ 0xBF ∷ line (codes "label;code") ++ line [] ++ codes "\"a;b\";C1")
    ≡ (codes "label" ∷ codes "code" ∷ []) ∷ (codes "a;b" ∷ codes "C1" ∷ []) ∷ []
unfolding next_record records_from strip_bom
rows = refl

rows-one_column : sheet_rows (line (codes "note") ++ codes "a,b;c")
    ≡ (codes "note" ∷ []) ∷ (codes "a,b;c" ∷ []) ∷ []
unfolding next_record records_from strip_bom
rows-one_column = refl
