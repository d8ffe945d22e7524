-- The messages of a table, row by row.
use Rattle.std.specs.Prelude.{ℕ, ◌≡◌, ◌+◌, ◌++◌, Bool, true, false, not, nat_le, nat_lt, List}
use Rattle.std.specs.Prelude.{[], ◌∷◌, length, map, Option, Some, None, IsTrue, is_some, refl}
use Rattle.std.specs.Prelude.{if◌then◌else◌, unwrap_or}
use Rattle.std.specs.List.{filter_map, position, range_with_len}
use Rattle.std.specs.Option.{option_to_list}
use Rattle.std.specs.Str.{bytes_eq}
use Rattle.std.proofs.Common.{ap, sym, ◌∙◌}
use Rattle.std.proofs.lemmas.Bool.{and_parts}
use Rattle.posting_core.specs.declared.TheConstants.{LAST_NUMBER}
use Rattle.table_core.specs.declared.column.Column.TheVariants.{Kind, N}
use Rattle.table_core.specs.declared.fault.CellFault.TheVariants.{NumberOutside}
use Rattle.table_core.specs.declared.fault.FaultyCell.{FaultyCell}
use Rattle.table_core.specs.declared.kind.Kind as a_kind
use Rattle.table_core.specs.declared.options.DateOrder.{DateOrder}
use Rattle.table_core.specs.declared.options.TableOptions.{TableOptions}
use Rattle.table_core.specs.declared.row.TableLine.{TableLine}
use Rattle.table_core.specs.Cells.{has_bytes, number_in}
use Rattle.table_core.specs.Columns.{column_name, word_of}
use Rattle.table_core.specs.Kinds.{kind_named}
use Rattle.table_core.specs.TableRows.{Cells, cell, fault_at, faults_from, field, is_blank}
use Rattle.table_core.specs.TableRows.{is_number, line_of, lines_from, number_after}
use Rattle.table_core.specs.TableRows.{number_faults, option_text, or_text, row_columns}
use Rattle.table_core.specs.TableRows.{row_faults, row_lines, row_number, step_faults}
use Rattle.table_core.specs.TableRows.{step_number}
use Rattle.table_core.specs.Tables.{Texts}
use Rattle.table_core.proofs.RowFaults.{one_line, some_kind}
use Rattle.table_core.specs.Laws.{HasMessageOfEachRow, HasNumbersInOrder, rows_with_text}

both_none : {X : Type 0} (xs ys : List X) → xs ++ ys ≡ [] → (xs ≡ []) × (ys ≡ [])
both_none [] ys none = (refl, none)
both_none (x ∷ xs) ys none = absurd (cc)

-- the line of a row without faults
record HasLine (order : DateOrder) (row : ℕ) (cells : Cells) (next : ℕ) : Type 0 where
  line : TableLine
  only : row_lines order row cells next ≡ line ∷ []
  in_row : line.row ≡ row
  numbered : line.number ≡ row_number cells next

has_line : (order : DateOrder) (row : ℕ) (cells : Cells) (next : ℕ) (o : Option a_kind.Kind)
    → kind_named (cells Kind) ≡ o → row_faults order row cells next ≡ []
    → HasLine order row cells next
has_line order row cells next None named none =
    absurd (some_kind order row cells next none named)
has_line order row cells next (Some kind) named none = record {
  line = line_of order row cells next kind;
  only = one_line order row cells next kind none named;
  in_row = refl;
  numbered = refl;
}

-- each row with text has a message

abbrev rows_of : List TableLine → List ℕ
rows_of lines = map (λ line. line.row) lines

one_row : (b : Bool) (faults : List FaultyCell) (now rest : List TableLine) (row : ℕ)
    (more : List ℕ) → (if b then [] else faults) ≡ [] → (faults ≡ [] → rows_of now ≡ row ∷ [])
    → rows_of rest ≡ more
    → rows_of ((if b then [] else now) ++ rest) ≡ (if b then more else row ∷ more)
one_row true faults now rest row more none here tail = tail
one_row false faults [] rest row more none here tail = absurd (let e = here none in cc)
one_row false faults (x ∷ []) rest row more none here tail =
    ap (λ xs. xs ++ rows_of rest) (here none) ∙ ap (λ xs. row ∷ xs) tail
one_row false faults (x ∷ y ∷ zs) rest row more none here tail = absurd (let e = here none in cc)

rows_from : (options : TableOptions) (words : List (List ℕ)) (row next : ℕ) (rows : Texts)
    → faults_from options words row next rows ≡ []
    → rows_of (lines_from options words row next rows) ≡ rows_with_text row rows
rows_from options words row next [] none = refl
rows_from options words row next (fields ∷ rows) none =
    let cells = cell options words fields in
    let after = step_number options words next fields in
    let parts = both_none (step_faults options words row next fields)
    (faults_from options words (row + 1) after rows) none in
    one_row (is_blank fields) (row_faults options.dates row cells next)
    (row_lines options.dates row cells next)
    (lines_from options words (row + 1) after rows) row (rows_with_text (row + 1) rows) parts.0
    (λ right. let it = has_line options.dates row cells next _ refl right in
    ap rows_of it.only ∙ ap (λ n. n ∷ []) it.in_row)
    (rows_from options words (row + 1) after rows parts.1)

pub each_row : (options : TableOptions) (rows : Texts) → HasMessageOfEachRow options rows
each_row options [] none = refl
each_row options (heading ∷ rows) none =
    rows_from options (map word_of heading) 2 options.first rows none

-- the numbers follow each other

abbrev numbers_of : List TableLine → List ℕ
numbers_of lines = map (λ line. line.number) lines

-- without a column of numbers no row has its own
no_own : (options : TableOptions) (words fields : List (List ℕ))
    → position (bytes_eq (column_name N)) words ≡ None → cell options words fields N ≡ []
no_own options words fields none =
    ap (λ place. or_text (field fields place) (option_text options N)) none

goes_on : (next : ℕ) (right : Bool) (fault : FaultyCell) → is_number next ≡ right
    → (if right then [] else fault ∷ []) ≡ [] → number_after next ≡ next + 1
goes_on next false fault e none = absurd (cc)
goes_on next true fault e none =
    ap (λ b. if b then next + 1 else next)
    (and_parts (nat_lt 0 next) (nat_le next LAST_NUMBER) e).1

next_number : (order : DateOrder) (row : ℕ) (cells : Cells) (next : ℕ) → cells N ≡ []
    → row_faults order row cells next ≡ [] → number_after next ≡ next + 1
next_number order row cells next own none =
    let faults = (both_none (filter_map (fault_at order row cells) (row_columns cells))
    (number_faults order row cells next) none).1 in
    let fault : FaultyCell = record {
      row = row;
      column = N;
      text = [];
      fault = NumberOutside;
    } in
    goes_on next (is_number next) fault refl
    (sym (ap (λ text. let faults : List FaultyCell =
    (if has_bytes text then option_to_list (fault_at order row cells N)
    else (if is_number next then [] else fault ∷ [])) in faults) own)
    ∙ faults)

own_number : (cells : Cells) (next : ℕ) → cells N ≡ [] → row_number cells next ≡ next
own_number cells next own = ap (λ text. unwrap_or (number_in text) next) own

one_number : (b : Bool) (faults : List FaultyCell) (now rest : List TableLine) (next own : ℕ)
    → (if b then [] else faults) ≡ []
    → (faults ≡ [] → (numbers_of now ≡ next ∷ []) × (own ≡ next + 1))
    → numbers_of rest ≡ range_with_len (if b then next else own) (length rest)
    → numbers_of ((if b then [] else now) ++ rest)
    ≡ range_with_len next (length ((if b then [] else now) ++ rest))
one_number true faults now rest next own none here tail = tail
one_number false faults [] rest next own none here tail =
    absurd (let e = (here none).0 in cc)
one_number false faults (x ∷ []) rest next own none here tail =
    ap (λ xs. xs ++ numbers_of rest) (here none).0
    ∙ ap (λ xs. next ∷ xs)
    (tail ∙ ap (λ n. range_with_len n (length rest)) (here none).1)
one_number false faults (x ∷ y ∷ zs) rest next own none here tail =
    absurd (let e = (here none).0 in cc)

numbers_from : (options : TableOptions) (words : List (List ℕ)) (row next : ℕ) (rows : Texts)
    → position (bytes_eq (column_name N)) words ≡ None
    → faults_from options words row next rows ≡ []
    → numbers_of (lines_from options words row next rows)
    ≡ range_with_len next (length (lines_from options words row next rows))
numbers_from options words row next [] column none = refl
numbers_from options words row next (fields ∷ rows) column none =
    let cells = cell options words fields in
    let own = no_own options words fields column in
    let after = step_number options words next fields in
    let parts = both_none (step_faults options words row next fields)
    (faults_from options words (row + 1) after rows) none in
    one_number (is_blank fields) (row_faults options.dates row cells next)
    (row_lines options.dates row cells next)
    (lines_from options words (row + 1) after rows) next
    (number_after (row_number cells next)) parts.0
    (λ right. let it = has_line options.dates row cells next _ refl right in (
      ap numbers_of it.only ∙ ap (λ n. n ∷ []) (it.numbered ∙ own_number cells next own),
      ap number_after (own_number cells next own)
          ∙ next_number options.dates row cells next own right,
    ))
    (numbers_from options words (row + 1) after rows column parts.1)

no_column : (o : Option ℕ) → IsTrue (not (is_some o)) → o ≡ None
no_column None none = refl
no_column (Some i) none = absurd (cc)

pub in_order : (options : TableOptions) (rows : Texts) → HasNumbersInOrder options rows
in_order options [] none column = refl
in_order options (heading ∷ rows) none column =
    numbers_from options (map word_of heading) 2 options.first rows
    (no_column (position (bytes_eq (column_name N)) (map word_of heading)) column) none
