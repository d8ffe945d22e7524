-- Each row of a sound table has the cells of a row that a content can have.
use Rattle.std.proofs.Common.{zero, suc, ◌≡◌, ◌<◌, ◌≤◌, ◌+◌, ℕ, ℤ, List, [], ◌∷◌, length, map, drop}
use Rattle.std.proofs.Common.{true, false, not, Option, None, Some, refl, sym, ap, subst, ◌∙◌}
use Rattle.std.proofs.Common.{arith}
use Rattle.std.specs.List.{range_with_len}
use Rattle.std.proofs.lemmas.Bool.{and_parts}
use Rattle.sqlite.specs.Order.{Row, column}
use Rattle.sqlite.specs.declared.types.Value.{Value}
use Rattle.sqlite.specs.declared.types.Value.TheVariants.{Null, Int, Real, Text, Blob}
use Rattle.sqlite.specs.Kind.TheVariants as kind
use Rattle.sqlite_schema.specs.Rules.{are_typed, are_present, is_of}
use Rattle.sqlite_schema.specs.declared.schema.Column.{Column}
use Rattle.sqlite_sql.specs.Ops.{is_null}
use Rattle.sqlite_trees.specs.View.{is_int}
use Rattle.sqlite_schema.specs.declared.schema.Table.{Table}
use Rattle.register_store.specs.StoredRows.{SetupRow, MetaRow, PostingRow, SpotRow, LineRow}
use Rattle.register_store.specs.StoredRows.{TermRow}
use Rattle.register_sql.specs.Rows.{setup_cells, meta_cells, posting_cells, spot_cells, line_cells}
use Rattle.register_sql.specs.Rows.{term_cells, HasNumber}
use Rattle.register_sql.specs.Tables.{meta, setup, posting, spot, line, term}

int_cell : (v : Value) → is_of kind.Integer v ≡ true → not (is_null v) ≡ true
    → (n : ℤ) × (v ≡ Int n)
int_cell Null typed there = absurd (let e : false ≡ true = there in cc)
int_cell (Int n) typed there = (n, refl)
int_cell (Real x) typed there = absurd (let e : false ≡ true = typed in cc)
int_cell (Text t) typed there = absurd (let e : false ≡ true = typed in cc)
int_cell (Blob b) typed there = absurd (let e : false ≡ true = typed in cc)

text_cell : (v : Value) → is_of kind.Text v ≡ true → not (is_null v) ≡ true
    → (t : List ℕ) × (v ≡ Text t)
text_cell Null typed there = absurd (let e : false ≡ true = there in cc)
text_cell (Int n) typed there = absurd (let e : false ≡ true = typed in cc)
text_cell (Real x) typed there = absurd (let e : false ≡ true = typed in cc)
text_cell (Text t) typed there = (t, refl)
text_cell (Blob b) typed there = absurd (let e : false ≡ true = typed in cc)

null_cell : (v : Value) → is_null v ≡ true → v ≡ Null
null_cell Null h = refl
null_cell (Int n) h = absurd (let e : false ≡ true = h in cc)
null_cell (Real x) h = absurd (let e : false ≡ true = h in cc)
null_cell (Text t) h = absurd (let e : false ≡ true = h in cc)
null_cell (Blob b) h = absurd (let e : false ≡ true = h in cc)

number_cell : (v : Value) → is_int v ≡ true → (n : ℤ) × (v ≡ Int n)
number_cell Null h = absurd (let e : false ≡ true = h in cc)
number_cell (Int n) h = (n, refl)
number_cell (Real x) h = absurd (let e : false ≡ true = h in cc)
number_cell (Text t) h = absurd (let e : false ≡ true = h in cc)
number_cell (Blob b) h = absurd (let e : false ≡ true = h in cc)

few_values : (key : Option ℕ) (at : ℕ) (cs : List Column) (vs : Row) → are_typed key at cs vs ≡ true
    → length vs ≤ length cs
few_values key at cs [] h = omega arith
few_values key at [] (v ∷ vs) h = absurd (let e : false ≡ true = h in cc)
few_values key at (c ∷ cs) (v ∷ vs) h =
    omega (arith, few_values key (at + 1) cs vs (and_parts _ (are_typed key (at + 1) cs vs) h).1)

-- a column that isn't NULL exists
reaches : (r : Row) (n : ℕ) → not (is_null (column r n)) ≡ true → n < length r
reaches [] n there = absurd (let e : false ≡ true = there in cc)
reaches (v ∷ r) zero there = omega arith
reaches (v ∷ r) (suc n) there = omega (arith, reaches r n there)

shifted : (r : Row) (v : Value) (from n : ℕ)
    → map (column (v ∷ r)) (range_with_len (from + 1) n) ≡ map (column r) (range_with_len from n)
shifted r v from zero = refl
shifted r v from (suc n) = rw (one_more from)
    (ap (λ l. column r from ∷ l) (shifted r v (from + 1) n))
  where
    one_more : (k : ℕ) → column (v ∷ r) (k + 1) ≡ column r k
    one_more k = let e : k + 1 ≡ suc k = omega arith in rw e refl

-- a row is the list of its columns
columns_are : (r : Row) (n : ℕ) → length r ≡ n → r ≡ map (column r) (range_with_len 0 n)
columns_are [] zero len = refl
columns_are [] (suc n) len = absurd (omega (arith, len))
columns_are (v ∷ r) zero len = absurd (omega (arith, len))
columns_are (v ∷ r) (suc n) len =
    ap (λ l. v ∷ l) (columns_are r n (omega (arith, len)) ∙ sym (shifted r v 0 n))

row_is : (r : Row) (key : Option ℕ) (cs : List Column) (n : ℕ) → length cs ≡ n
    → are_typed key 0 cs (drop 1 r) ≡ true → not (is_null (column r n)) ≡ true
    → r ≡ map (column r) (range_with_len 0 (n + 1))
row_is [] key cs n len typed last = absurd (let e : false ≡ true = last in cc)
row_is (v ∷ r) key cs n len typed last =
    columns_are (v ∷ r) (n + 1) (omega (
      arith,
      len,
      reaches (v ∷ r) n last,
      few_values key 0 cs r typed,
    ))

same_cells : {a b : Value} {r t : Row} → a ≡ b → r ≡ t → a ∷ r ≡ b ∷ t
same_cells p q = cc

-- the cells that the rules of a table need
pub record IsRight (table : Table) (r : Row) : Type 0 where
  pub typed : are_typed table.key 0 table.columns (drop 1 r) ≡ true
  pub present : are_present table.key 0 table.columns r ≡ true

pub meta_read : (r : Row) → IsRight meta r → (m : MetaRow) × (drop 1 r ≡ meta_cells m)
meta_read r is =
    let here = and_parts (not (is_null (column r 1))) _ is.present in
    let last = and_parts (not (is_null (column r 2))) _ here.1 in
    let all : drop 1 r ≡ column r 1 ∷ column r 2 ∷ [] =
    ap (drop 1) (row_is r None meta.columns 2 refl is.typed last.0) in
    let typed = subst (λ vs. are_typed None 0 meta.columns vs ≡ true) all is.typed in
    let first = and_parts (is_of kind.Text (column r 1)) _ typed in
    let second = and_parts (is_of kind.Integer (column r 2)) _ first.1 in
    let name = text_cell (column r 1) first.0 here.0 in
    let val = int_cell (column r 2) second.0 last.0 in
    (record { name = name.0; val = val.0 }, all ∙ same_cells (name.1) (same_cells (val.1) refl))

pub setup_read : (r : Row) → HasNumber r → IsRight setup r → (s : SetupRow) × (r ≡ setup_cells s)
setup_read r number is =
    let last = and_parts (not (is_null (column r 2))) _ is.present in
    let all : r ≡ column r 0 ∷ column r 1 ∷ column r 2 ∷ [] =
    row_is r (Some 0) setup.columns 2 refl is.typed last.0 in
    let typed = subst (λ vs. are_typed (Some 0) 0 setup.columns vs ≡ true)
    (ap (drop 1) all) is.typed in
    let first = and_parts (is_null (column r 1)) _ typed in
    let second = and_parts (is_of kind.Text (column r 2)) _ first.1 in
    let id = number_cell (column r 0) number in
    let text = text_cell (column r 2) second.0 last.0 in (
      record { id = id.0; text = text.0 },
      all ∙ same_cells (id.1) (same_cells (null_cell (column r 1) first.0)
          (same_cells (text.1) refl)),
    )

pub posting_read : (r : Row) → HasNumber r → IsRight posting r → (p : PostingRow)
    × (r ≡ posting_cells p)
posting_read r number is =
    let p2 = and_parts (not (is_null (column r 2))) _ is.present in
    let p3 = and_parts (not (is_null (column r 3))) _ p2.1 in
    let p4 = and_parts (not (is_null (column r 4))) _ p3.1 in
    let p5 = and_parts (not (is_null (column r 5))) _ p4.1 in
    let all : r ≡ column r 0 ∷ column r 1 ∷ column r 2 ∷ column r 3 ∷ column r 4 ∷ column r 5 ∷ [] =
    row_is r (Some 0) posting.columns 5 refl is.typed p5.0 in
    let typed = subst (λ vs. are_typed (Some 0) 0 posting.columns vs ≡ true)
    (ap (drop 1) all) is.typed in
    let t1 = and_parts (is_null (column r 1)) _ typed in
    let t2 = and_parts (is_of kind.Integer (column r 2)) _ t1.1 in
    let t3 = and_parts (is_of kind.Integer (column r 3)) _ t2.1 in
    let t4 = and_parts (is_of kind.Text (column r 4)) _ t3.1 in
    let t5 = and_parts (is_of kind.Integer (column r 5)) _ t4.1 in
    let id = number_cell (column r 0) number in
    let station = int_cell (column r 2) t2.0 p2.0 in
    let n = int_cell (column r 3) t3.0 p3.0 in
    let body = text_cell (column r 4) t4.0 p4.0 in
    let verdict = int_cell (column r 5) t5.0 p5.0 in (
      record { id = id.0; station = station.0; n = n.0; body = body.0; verdict = verdict.0 },
      all ∙ same_cells (id.1) (same_cells (null_cell (column r 1) t1.0)
          (same_cells (station.1) (same_cells (n.1)
          (same_cells (body.1) (same_cells (verdict.1) refl))))),
    )

pub spot_read : (r : Row) → IsRight spot r → (s : SpotRow) × (drop 1 r ≡ spot_cells s)
spot_read r is =
    let p1 = and_parts (not (is_null (column r 1))) _ is.present in
    let p2 = and_parts (not (is_null (column r 2))) _ p1.1 in
    let p3 = and_parts (not (is_null (column r 3))) _ p2.1 in
    let p4 = and_parts (not (is_null (column r 4))) _ p3.1 in
    let p5 = and_parts (not (is_null (column r 5))) _ p4.1 in
    let all : drop 1 r ≡ column r 1 ∷ column r 2 ∷ column r 3 ∷ column r 4 ∷ column r 5 ∷ [] =
    ap (drop 1) (row_is r None spot.columns 5 refl is.typed p5.0) in
    let typed = subst (λ vs. are_typed None 0 spot.columns vs ≡ true) all is.typed in
    let t1 = and_parts (is_of kind.Integer (column r 1)) _ typed in
    let t2 = and_parts (is_of kind.Integer (column r 2)) _ t1.1 in
    let t3 = and_parts (is_of kind.Integer (column r 3)) _ t2.1 in
    let t4 = and_parts (is_of kind.Integer (column r 4)) _ t3.1 in
    let t5 = and_parts (is_of kind.Integer (column r 5)) _ t4.1 in
    let thing = int_cell (column r 1) t1.0 p1.0 in
    let k = int_cell (column r 2) t2.0 p2.0 in
    let entry = int_cell (column r 3) t3.0 p3.0 in
    let place = int_cell (column r 4) t4.0 p4.0 in
    let day = int_cell (column r 5) t5.0 p5.0 in (
      record { thing = thing.0; k = k.0; entry = entry.0; place = place.0; day = day.0 },
      all ∙ same_cells (thing.1) (same_cells (k.1)
          (same_cells (entry.1) (same_cells (place.1) (same_cells (day.1) refl)))),
    )

pub line_read : (r : Row) → IsRight line r → (l : LineRow) × (drop 1 r ≡ line_cells l)
line_read r is =
    let p1 = and_parts (not (is_null (column r 1))) _ is.present in
    let p2 = and_parts (not (is_null (column r 2))) _ p1.1 in
    let p3 = and_parts (not (is_null (column r 3))) _ p2.1 in
    let all : drop 1 r ≡ column r 1 ∷ column r 2 ∷ column r 3 ∷ [] =
    ap (drop 1) (row_is r None line.columns 3 refl is.typed p3.0) in
    let typed = subst (λ vs. are_typed None 0 line.columns vs ≡ true) all is.typed in
    let t1 = and_parts (is_of kind.Text (column r 1)) _ typed in
    let t2 = and_parts (is_of kind.Integer (column r 2)) _ t1.1 in
    let t3 = and_parts (is_of kind.Integer (column r 3)) _ t2.1 in
    let loan = text_cell (column r 1) t1.0 p1.0 in
    let object = int_cell (column r 2) t2.0 p2.0 in
    let stage = int_cell (column r 3) t3.0 p3.0 in (
      record { loan = loan.0; object = object.0; stage = stage.0 },
      all ∙ same_cells (loan.1) (same_cells (object.1) (same_cells (stage.1) refl)),
    )

pub term_read : (r : Row) → IsRight term r → (t : TermRow) × (drop 1 r ≡ term_cells t)
term_read r is =
    let p1 = and_parts (not (is_null (column r 1))) _ is.present in
    let p2 = and_parts (not (is_null (column r 2))) _ p1.1 in
    let all : drop 1 r ≡ column r 1 ∷ column r 2 ∷ [] =
    ap (drop 1) (row_is r None term.columns 2 refl is.typed p2.0) in
    let typed = subst (λ vs. are_typed None 0 term.columns vs ≡ true) all is.typed in
    let t1 = and_parts (is_of kind.Text (column r 1)) _ typed in
    let t2 = and_parts (is_of kind.Integer (column r 2)) _ t1.1 in
    let loan = text_cell (column r 1) t1.0 p1.0 in
    let day = int_cell (column r 2) t2.0 p2.0 in
    (record { loan = loan.0; day = day.0 }, all ∙ same_cells (loan.1) (same_cells (day.1) refl))
