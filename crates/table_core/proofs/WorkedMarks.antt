-- Inputs without their mark, computed on worked rows.
use Rattle.std.specs.Prelude.{◌≡◌, ◌∷◌, ◌++◌, [], refl, codes}
use Rattle.csv.specs.Reading.{strip_bom}
use Rattle.table_core.specs.Marks.{mark}

empty : strip_bom [] ≡ []
unfolding strip_bom
empty = refl

one-byte : strip_bom (0xEF ∷ []) ≡ 0xEF ∷ []
unfolding strip_bom
one-byte = refl

two-bytes : strip_bom (0xEF ∷ 0xBB ∷ []) ≡ 0xEF ∷ 0xBB ∷ []
unfolding strip_bom
two-bytes = refl

mark-alone : strip_bom mark ≡ []
unfolding strip_bom
mark-alone = refl

mark-line : strip_bom (mark ++ codes "ask\n") ≡ codes "ask\n"
unfolding strip_bom
mark-line = refl

line-alone : strip_bom (codes "ask\n") ≡ codes "ask\n"
unfolding strip_bom
line-alone = refl

two-marks : strip_bom (mark ++ mark ++ codes "ask\n") ≡ mark ++ codes "ask\n"
unfolding strip_bom
two-marks = refl

other-third : strip_bom (0xEF ∷ 0xBB ∷ 0xBE ∷ []) ≡ 0xEF ∷ 0xBB ∷ 0xBE ∷ []
unfolding strip_bom
other-third = refl
