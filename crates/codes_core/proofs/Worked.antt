-- The definitions computed on worked texts.
use Rattle.std.specs.Prelude.{ℕ, ◌≡◌, ◌++◌, List, [], ◌∷◌, codes, refl}
use Rattle.std.specs.Fmt.{digits}
use Rattle.std.specs.Str.{chars}
use Rattle.std.proofs.Math.Utf8.{encode}
use Rattle.codes_core.specs.VisibleText.{on_one_line, quoted}

-- U+00A0, a space that doesn't break, and U+0410, which looks like an A
abbrev no_break_space : List ℕ
no_break_space = 194 ∷ 160 ∷ []

abbrev cyrillic : List ℕ
cyrillic = 208 ∷ 144 ∷ []

-- U+00E9, a Latin letter
abbrev accented : List ℕ
accented = 195 ∷ 169 ∷ []

quoted-code : quoted (codes "1987.12.1" ++ no_break_space) ≡ codes "'1987.12.1\\u{a0}'"
unfolding chars encode digits
quoted-code = refl

quoted-letters : quoted (codes "Ren" ++ accented ++ cyrillic ++ 10 ∷ [])
    ≡ codes "'Ren" ++ accented ++ codes "\\u{410}\\u{a}'"
unfolding chars encode digits
quoted-letters = refl

line : on_one_line (codes "a" ++ no_break_space ++ codes "\n" ++ cyrillic)
    ≡ codes "a" ++ no_break_space ++ codes "\\u{a}" ++ cyrillic
unfolding chars encode digits
line = refl
