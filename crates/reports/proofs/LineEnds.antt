-- Each line, and each heading, ends with a line feed.
use Rattle.std.proofs.Common.{append_assoc, refl, subst}
use Rattle.std.specs.Prelude.{◌∷◌, ◌++◌, [], ℕ, IsTrue, List, codes, map, if◌then◌else◌}
use Rattle.std.specs.List.{join_by}
use Rattle.csv.specs.Writing.{default_writer, is_blank, row_body, row_text}
use Rattle.reports.specs.declared.form.Form.{Form}
use Rattle.reports.specs.declared.form.Form.TheVariants.{Plain, Csv, Json, Table}
use Rattle.reports.specs.Aligned.{filled_texts, row_texts}
use Rattle.reports.specs.Cells.{Cell, joined_words, members, plain_text}
use Rattle.reports.specs.Forms.{ends_line, heading, line_text}

ends_after : (s : List ℕ) (b : ℕ) (t : List ℕ) → IsTrue (ends_line (b ∷ t))
    → IsTrue (ends_line (s ++ b ∷ t))
ends_after [] b t p = p
ends_after (c ∷ []) b t p = p
ends_after (c ∷ d ∷ s) b t p = ends_after (d ∷ s) b t p

row_ends : (fields : List (List ℕ)) → IsTrue (ends_line (row_text default_writer fields))
row_ends fields =
    let quotes : List ℕ = if is_blank default_writer fields then (34 ∷ 34 ∷ []) else [] in
    subst (λ t. IsTrue (ends_line t))
    (append_assoc (row_body default_writer fields) quotes (10 ∷ []))
    (ends_after (row_body default_writer fields ++ quotes) 10 [] refl)

pub line_ends : (form : Form) (names : List (List ℕ)) (widths : List ℕ) (row : List Cell)
    → IsTrue (ends_line (line_text form names widths row))
line_ends Plain names widths row = ends_after (joined_words row) 10 [] refl
line_ends Csv names widths row = row_ends (map plain_text row)
line_ends Json names widths row =
    ends_after (123 ∷ join_by (λ m. m) (codes ",") (members names row)) 125 (10 ∷ []) refl
line_ends Table names widths row =
    ends_after (join_by (λ t. t) (codes "  ") (filled_texts widths (row_texts row))) 10 [] refl

pub heading_ends : (form : Form) (names : List (List ℕ)) (widths : List ℕ)
    → IsTrue (ends_line (heading form names widths))
heading_ends Plain names widths = refl
heading_ends Csv names widths = row_ends names
heading_ends Json names widths = refl
heading_ends Table names widths =
    ends_after (join_by (λ t. t) (codes "  ") (filled_texts widths names)) 10 [] refl
