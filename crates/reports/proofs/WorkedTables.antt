-- The definitions of a table, and of what is written at a fault, computed on worked rows.
use Rattle.std.specs.Prelude.{◌≡◌, ◌∷◌, ◌++◌, [], ℕ, List, codes, encode_utf8_all, false}
use Rattle.std.specs.Prelude.{refl, true}
use Rattle.unicode_width.proofs.Computing.{unicode_width}
use Rattle.reports.specs.declared.fault.PrintFault.TheVariants.{NoMemory, WriteFailed}
use Rattle.reports.specs.declared.form.Form.TheVariants.{Table}
use Rattle.reports.specs.Aligned.{aligned_line, column_widths, cell_text, filled, width}
use Rattle.reports.specs.Cells.{Cell, nothing, text, texts}
use Rattle.reports.specs.Forms.{can_end, rows_text}

plain-width : width (codes "S1-A") ≡ 4
unfolding unicode_width
plain-width = refl

abbrev zoe : List ℕ
zoe = encode_utf8_all (codes "Zoë")

abbrev tokyo : List ℕ
tokyo = encode_utf8_all (codes "東京")

accent-width : width zoe ≡ 3
unfolding unicode_width
accent-width = refl

wide-width : width tokyo ≡ 4
unfolding unicode_width
wide-width = refl

no_value : cell_text nothing ≡ codes "-"
no_value = refl

no_codes : cell_text (texts []) ≡ codes "-"
no_codes = refl

filled-name : filled 6 zoe ≡ zoe ++ codes "   "
unfolding unicode_width
filled-name = refl

abbrev names : List (List ℕ)
names = codes "object" ∷ codes "place" ∷ []

abbrev rows : List (List Cell)
rows = (text (codes "2001.4.1") ∷ text (codes "S2") ∷ [])
    ∷ (text (codes "C1") ∷ nothing ∷ []) ∷ []

table : rows_text Table names rows ≡ codes "object    place\n2001.4.1  S2\nC1        -\n"
unfolding unicode_width
table = refl

no_rows : rows_text Table names [] ≡ codes "object  place\n"
unfolding unicode_width
no_rows = refl

-- a column is as wide as its name here, and as its widest text there

widths : column_widths ((codes "object" ∷ codes "in" ∷ [])
    ∷ (codes "C1" ∷ codes "C2 C1" ∷ []) ∷ (codes "C2" ∷ codes "C1" ∷ []) ∷ []) ≡ 6 ∷ 5 ∷ []
unfolding unicode_width
widths = refl

-- the last text of a line isn't filled

line : aligned_line (8 ∷ 5 ∷ []) (zoe ∷ codes "S2" ∷ []) ≡ zoe ++ codes "       S2\n"
unfolding unicode_width
line = refl

-- codes are separated by one space

contents : rows_text Table (codes "thing" ∷ codes "state" ∷ codes "containers" ∷ [])
    ((text (codes "2001.4.1") ∷ text (codes "in") ∷ texts (codes "C2" ∷ codes "C1" ∷ []) ∷ [])
    ∷ (text (codes "C2") ∷ text (codes "in") ∷ texts (codes "C1" ∷ []) ∷ []) ∷ [])
    ≡ codes "thing     state  containers\n2001.4.1  in     C2 C1\nC2        in     C1\n"
unfolding unicode_width
contents = refl

-- ---- what can have been written at a fault

one_line : can_end NoMemory (codes "C1 at S1\n") ≡ true
one_line = refl

nothing_written : can_end NoMemory [] ≡ true
nothing_written = refl

half_a_line : can_end NoMemory (codes "C1 at") ≡ false
half_a_line = refl

half_a_line_written : can_end WriteFailed (codes "C1 at") ≡ true
half_a_line_written = refl
