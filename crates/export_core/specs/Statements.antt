-- Defines the statements that insert rows.
use Rattle.std.specs.Prelude.{ℕ, ◌*◌, ◌++◌, List, codes, drop, length, take}
use Rattle.std.specs.Int.{div_ceil}
use Rattle.std.specs.List.{flat_map, join_by, range_with_len}
use Rattle.reports.specs.Cells.{Cell}
use Rattle.export_core.specs.declared.statements.TheConstants.{MOST_ROWS}
use Rattle.export_core.specs.Literals.{literal}

-- ('S1-A','S1'): the values as SQL, with commas between them.
abbrev pub row : List Cell → List ℕ
row values = codes "(" ++ (join_by literal (codes ",") values ++ codes ")")

-- INSERT INTO place VALUES
-- ('S1','S1-A'),
-- ('S1',NULL);
abbrev pub insert : List ℕ → List (List ℕ) → List ℕ
insert table rows =
    codes "INSERT INTO "
    ++ (table
    ++ (codes " VALUES\n" ++ (join_by (λ r. r) (codes ",\n") rows ++ codes ";\n")))

-- Statement n, from 0, of those that insert the rows.
abbrev pub statement : List ℕ → List (List ℕ) → ℕ → List ℕ
statement table rows n = insert table (take MOST_ROWS (drop (n * MOST_ROWS) rows))

-- The statements that insert the rows, each but the last with as many as a statement may have.
abbrev pub inserts : List ℕ → List (List ℕ) → List ℕ
inserts table rows =
    flat_map (statement table rows) (range_with_len 0 (div_ceil (length rows) MOST_ROWS))
