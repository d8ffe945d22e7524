-- Defines the columns that each query returns of a row.
use Rattle.std.specs.Prelude.{◌≡◌, ◌<◌, ◌^◌, ℕ, pos, ◌∷◌, []}
use Rattle.std.specs.Str.{IsUtf8}
use Rattle.std.specs.declared.cmp.Ordering.{Ordering}
use Rattle.sqlite.specs.Order.{Row, column}
use Rattle.sqlite.specs.declared.types.Value.TheVariants.{Int, Text}
use Rattle.sqlite_value.specs.Order.{value_cmp}
use Rattle.register_store.specs.StoredRows.{SetupRow, PostingRow}

-- The columns of a row of `meta`. Those of the other tables follow.
abbrev pub shown_meta : Row → Row
shown_meta r = column r 1 ∷ column r 2 ∷ []

abbrev pub shown_setup : Row → Row
shown_setup r = column r 0 ∷ column r 2 ∷ []

abbrev pub shown_posting : Row → Row
shown_posting r = column r 0 ∷ column r 2 ∷ column r 3 ∷ column r 4 ∷ column r 5 ∷ []

abbrev pub shown_spot : Row → Row
shown_spot r = column r 1 ∷ column r 2 ∷ column r 3 ∷ column r 4 ∷ column r 5 ∷ []

abbrev pub shown_line : Row → Row
shown_line r = column r 1 ∷ column r 2 ∷ column r 3 ∷ []

abbrev pub shown_term : Row → Row
shown_term r = column r 1 ∷ column r 2 ∷ []

-- The rowid alone.
abbrev pub shown_id : Row → Row
shown_id r = column r 0 ∷ []

-- A row of the setup, and below it a posting, as the query returns them. Rows of the other tables
-- are returned as their cells.
abbrev pub setup_shown : SetupRow → Row
setup_shown r = Int r.id ∷ Text r.text ∷ []

abbrev pub posting_shown : PostingRow → Row
posting_shown r = Int r.id ∷ Int r.station ∷ Int r.n ∷ Text r.body ∷ Int r.verdict ∷ []

-- By the first column.
abbrev pub id_cmp : Row → Row → Ordering
id_cmp a b = value_cmp (column a 0) (column b 0)

-- A posting whose numbers can be those of an entry, with a body of text.
pub record FitsPosting (p : PostingRow) : Type 0 where
  pub id : (n : ℕ) × (p.id ≡ pos n)
  pub station : (n : ℕ) × (p.station ≡ pos n) × (n < 2 ^ 32)
  pub n : (n : ℕ) × (p.n ≡ pos n) × (n < 2 ^ 32)
  pub verdict : (n : ℕ) × (p.verdict ≡ pos n) × (n < 2 ^ 32)
  pub body : IsUtf8 p.body
