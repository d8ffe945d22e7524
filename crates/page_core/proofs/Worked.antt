-- The definitions computed on worked texts.
use Rattle.std.specs.Prelude.{◌≡◌, IsTrue, [], ◌∷◌, codes, refl}
use Rattle.page_core.specs.Escapes.{escaped, has_whole_references}
use Rattle.page_core.specs.Pieces.{marks, page_text}
use Rattle.page_core.specs.Pieces.Piece.{markup, text}
use Rattle.page_core.specs.Tables.{table_row}

script : escaped (codes "<script>alert('x & y')</script>")
    ≡ codes "&lt;script&gt;alert(&#39;x &amp; y&#39;)&lt;/script&gt;"
script = refl

quotes : escaped (codes "\"a\"") ≡ codes "&quot;a&quot;"
quotes = refl

-- a reference that is a person's own is shown as it was written
reference : escaped (codes "&amp;") ≡ codes "&amp;amp;"
reference = refl

whole : IsTrue (has_whole_references (codes "a &lt; b"))
whole = refl

cell : page_text (markup (codes "<td>") ∷ text (codes "a<b") ∷ markup (codes "</td>") ∷ [])
    ≡ codes "<td>a&lt;b</td>"
cell = refl

cell_marks : marks (codes "<td>a&lt;b</td>") ≡ codes "<><>"
cell_marks = refl

row : page_text (table_row (codes "a<b" ∷ codes "" ∷ codes "12" ∷ []))
    ≡ codes "<tr><td>a&lt;b</td><td></td><td>12</td></tr>\n"
row = refl
