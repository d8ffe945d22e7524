-- Which texts are plain, computed on worked texts.
use Rattle.std.specs.Prelude.{List, ℕ, [], ◌∷◌, ◌++◌, codes, refl}
use Rattle.std.proofs.lemmas.Bool.{false≢true}
use Rattle.json.specs.Lex.{lex}
use Rattle.json.specs.Text.{content}
use Rattle.json.specs.Word.{word, after_number}
use Rattle.borrowed_json.specs.Plain.{IsPlain}

-- a text in quotes
abbrev quoted : List ℕ → List ℕ
quoted text = 34 ∷ (text ++ 34 ∷ [])

-- an object with a text and a number, with spaces
a_line : IsPlain (codes "{" ++ quoted (codes "by") ++ codes ": " ++ quoted (codes "A. B.")
    ++ codes ", " ++ quoted (codes "n") ++ codes ":70}")
unfolding lex content word after_number
a_line = record { no_backslash = refl; plain_tokens = refl }

-- the largest number that is plain, and the next one
largest : IsPlain (codes "18446744073709551615")
unfolding lex content word after_number
largest = record { no_backslash = refl; plain_tokens = refl }

too_large : IsPlain (codes "18446744073709551616") → ⊥
unfolding lex content word after_number
too_large h = false≢true h.plain_tokens

a_fraction : IsPlain (codes "[1.5]") → ⊥
unfolding lex content word after_number
a_fraction h = false≢true h.plain_tokens

a_literal : IsPlain (codes "[true]") → ⊥
unfolding lex content word after_number
a_literal h = false≢true h.plain_tokens

-- a line feed that is written as an escape
an_escape : IsPlain (quoted (92 ∷ codes "n")) → ⊥
an_escape h = false≢true h.no_backslash
