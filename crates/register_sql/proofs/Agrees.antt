-- The rows that were read, and those of the ledger.
use Rattle.std.proofs.Common.{◌≡◌, ◌&&◌, ℕ, ℤ, Bool, List, [], ◌∷◌, ◌++◌, map, drop, reverse, None}
use Rattle.std.proofs.Common.{refl, ap, subst, ◌∙◌}
use Rattle.std.specs.Bool.{Decides}
use Rattle.std.specs.List.Sorted.{IsPermutation}
use Rattle.std.proofs.lemmas.List.{map-append}
use Rattle.std.proofs.lemmas.List.Sorted.{IsPermutation-refl, IsPermutation-sym}
use Rattle.std.proofs.lemmas.List.Sorted.{IsPermutation-trans, IsPermutation-map}
use Rattle.std.proofs.lemmas.List.Sorted.{IsPermutation-reverse}
use Rattle.indexmap.specs.IndexMap.{insert_entry}
use Rattle.indexmap.proofs.MapLemmas.{absent_from_lookup, insert_entry-absent}
use Rattle.std.specs.Map.{lookup}
use Rattle.nest_core.specs.Museum.{Museum}
use Rattle.posting_core.specs.declared.entry.Entry.{Entry}
use Rattle.posting_core.specs.declared.entry.NewSpot.{NewSpot}
use Rattle.posting_core.specs.declared.stage.LineStage.{LineStage}
use Rattle.sqlite.specs.Edit.{id_in}
use Rattle.sqlite.specs.Order.{Row, column}
use Rattle.sqlite.specs.Tree.{Trees}
use Rattle.sqlite_value.specs.Order.{bytes}
use Rattle.register_store.proofs.Kept.{content_of, told_by}
use Rattle.register_store.specs.declared.loan_rows.LineKey.{LineKey}
use Rattle.register_store.specs.Plain.{held_lines, term_rows}
use Rattle.register_store.specs.StoredRows.{Content, SpotRow, LineRow, TermRow, HasRows, spot_row}
use Rattle.register_store.specs.StoredRows.{line_row, spots_by_thing, lines_by_loan, rows_of_terms}
use Rattle.register_sql.specs.Found.{spots_shown, lines_shown, terms_shown, AreFound}
use Rattle.register_sql.specs.Queries.{shown_in}
use Rattle.register_sql.specs.Rows.{AreRows, spot_cells, line_cells, term_cells}
use Rattle.register_sql.specs.Shown.{shown_spot, shown_line, shown_term}
use Rattle.register_sql.specs.declared.queries.Query.TheVariants.{Spots, Lines, Terms}
use Rattle.register_sql.proofs.Contents.{unmapped}

-- ---- one more row

pub more_spots : (spots : List NewSpot) (s : NewSpot) (row : Row) → spot_cells (spot_row s) ≡ row
    → spots_shown (spots ++ s ∷ []) ≡ spots_shown spots ++ row ∷ []
more_spots spots s row is =
    ap (map spot_cells) (map-append spot_row spots (s ∷ [])) ∙ map-append spot_cells
    (map spot_row spots) _ ∙ ap (λ r. spots_shown spots ++ r ∷ []) is

pub more_lines : (kept : List (LineKey × LineStage)) (key : LineKey) (stage : LineStage) (row : Row)
    → line_cells (line_row (record { loan = key.loan; object = key.object; stage = stage })) ≡ row
    → lines_shown (kept ++ (key, stage) ∷ []) ≡ lines_shown kept ++ row ∷ []
more_lines [] key stage row is = ap (λ r. r ∷ []) is
more_lines (k ∷ kept) key stage row is =
    ap (λ l. line_cells (line_row (record { loan = k.0.loan; object = k.0.object; stage = k.1 }))
    ∷ l) (more_lines kept key stage row is)

pub more_terms : (kept : List (List ℕ × ℤ)) (loan : List ℕ) (day : ℤ) (row : Row)
    → term_cells (record { loan = loan; day = day }) ≡ row
    → terms_shown (kept ++ (loan, day) ∷ []) ≡ terms_shown kept ++ row ∷ []
more_terms [] loan day row is = ap (λ r. r ∷ []) is
more_terms (k ∷ kept) loan day row is =
    ap (λ l. term_cells (record { loan = k.0; day = k.1 }) ∷ l) (more_terms kept loan day row is)

-- ... under a new key
pub keeps_line : (eq : LineKey → LineKey → Bool) (old new : List (LineKey × LineStage))
    (key : LineKey) (stage : LineStage) (row : Row) → lookup (eq key) old ≡ None
    → new ≡ insert_entry eq old key stage
    → line_cells (line_row (record { loan = key.loan; object = key.object; stage = stage })) ≡ row
    → lines_shown new ≡ lines_shown old ++ row ∷ []
keeps_line eq old new key stage row none is cells =
    ap lines_shown (is ∙ insert_entry-absent eq key stage old
    (absent_from_lookup (eq key) old none)) ∙ more_lines old key stage row cells

pub keeps_term : (eq : List ℕ → List ℕ → Bool) (old new : List (List ℕ × ℤ)) (loan : List ℕ)
    (day : ℤ) (row : Row) → lookup (eq loan) old ≡ None → new ≡ insert_entry eq old loan day
    → term_cells (record { loan = loan; day = day }) ≡ row
    → terms_shown new ≡ terms_shown old ++ row ∷ []
keeps_term eq old new loan day row none is cells =
    ap terms_shown (is ∙ insert_entry-absent eq loan day old
    (absent_from_lookup (eq loan) old none)) ∙ more_terms old loan day row cells

-- ---- whether they are those of the ledger

pub identity_of : (a b c : Bool) (S : Museum) (P : List Entry) (wanted kept sorted : List NewSpot)
    (lines kept_lines : List (LineKey × LineStage)) (terms kept_terms : List (List ℕ × ℤ))
    → wanted ≡ spots_by_thing S P → held_lines lines ≡ lines_by_loan S P
    → term_rows terms ≡ rows_of_terms P → IsPermutation kept sorted
    → Decides a (IsPermutation wanted sorted) → Decides b (IsPermutation lines kept_lines)
    → Decides c (IsPermutation terms kept_terms)
    → (d : Content) → IsPermutation (map spot_row kept) d.spots
    → IsPermutation (map line_row (held_lines kept_lines)) d.lines
    → IsPermutation (term_rows kept_terms) d.terms → Decides (a && (b && c)) (HasRows S P d)
identity_of a b c S P wanted kept sorted lines kept_lines terms kept_terms is lined dated same
    has_spots has_lines has_terms d spots ls ts =
    let plain : Content = content_of None [] (reverse sorted) (held_lines kept_lines)
    (term_rows kept_terms) in
    let e : Content = record plain { spots = d.spots; lines = d.lines; terms = d.terms } in
    let turned : IsPermutation (reverse sorted) kept =
    IsPermutation-sym _ _ (IsPermutation-trans _ _ _ same (IsPermutation-reverse sorted)) in
    let moved : IsPermutation (map spot_row (reverse sorted)) d.spots =
    IsPermutation-trans _ _ _ (IsPermutation-map spot_row _ _ turned) spots in
    let told : Decides (a && (b && c)) (HasRows S P e) =
    told_by a b c S P wanted sorted lines kept_lines terms kept_terms None [] e is lined dated
    has_spots has_lines has_terms
    (record {
      setup = IsPermutation-refl plain.setup;
      meta = IsPermutation-refl plain.meta;
      postings = IsPermutation-refl plain.postings;
      spots = moved;
      lines = ls;
      terms = ts;
    }) in (
      λ t. let h = told.0 t in record { spots = h.spots; lines = h.lines; terms = h.terms },
      λ h. told.1 (record { spots = h.spots; lines = h.lines; terms = h.terms }),
    )

spot_back : Row → SpotRow
spot_back r = record {
  thing = id_in (column r 0);
  k = id_in (column r 1);
  entry = id_in (column r 2);
  place = id_in (column r 3);
  day = id_in (column r 4);
}

line_back : Row → LineRow
line_back r = record {
  loan = bytes (column r 0);
  object = id_in (column r 1);
  stage = id_in (column r 2);
}

term_back : Row → TermRow
term_back r = record { loan = bytes (column r 0); day = id_in (column r 1) }

pub found_spots : (kept : List NewSpot) (rows : List Row) (held : List SpotRow)
    → spots_shown kept ≡ rows → IsPermutation (map spot_cells held) rows
    → IsPermutation (map spot_row kept) held
unfolding spot_back
found_spots kept rows held is h = unmapped spot_cells spot_back (λ x. refl) (map spot_row kept) held
    rows (subst (IsPermutation (spots_shown kept)) is (IsPermutation-refl _)) h

pub found_lines : (kept : List (LineKey × LineStage)) (rows : List Row) (held : List LineRow)
    → lines_shown kept ≡ rows → IsPermutation (map line_cells held) rows
    → IsPermutation (map line_row (held_lines kept)) held
unfolding line_back
found_lines kept rows held is h =
    unmapped line_cells line_back (λ x. refl) (map line_row (held_lines kept)) held rows
    (subst (IsPermutation (lines_shown kept)) is (IsPermutation-refl _)) h

pub found_terms : (kept : List (List ℕ × ℤ)) (rows : List Row) (held : List TermRow)
    → terms_shown kept ≡ rows → IsPermutation (map term_cells held) rows
    → IsPermutation (term_rows kept) held
unfolding term_back
found_terms kept rows held is h =
    unmapped term_cells term_back (λ x. refl) (term_rows kept) held rows
    (subst (IsPermutation (terms_shown kept)) is (IsPermutation-refl _)) h

-- ---- the columns that a query of a table returns

module _ {X : Type 0} (cells : X → Row) (shown pick : Row → Row) (shows : (r : Row)
    → pick (drop 1 r) ≡ shown r) (same : (x : X) → pick (cells x) ≡ cells x) where
  all_shown : (table : List Row) → map pick (map (drop 1) table) ≡ map shown table
  all_shown [] = refl
  all_shown (r ∷ table) = rw (shows r, all_shown table) refl

  all_cells : (xs : List X) → map pick (map cells xs) ≡ map cells xs
  all_cells [] = refl
  all_cells (x ∷ xs) = rw (same x, all_cells xs) refl

  has_read : (table : List Row) (xs : List X) (rows : List Row)
      → IsPermutation (map cells xs) (map (drop 1) table) → IsPermutation (map shown table) rows
      → IsPermutation (map cells xs) rows
  has_read table xs rows held read =
      let picks : IsPermutation (map pick (map cells xs)) (map pick (map (drop 1) table)) =
      IsPermutation-map pick _ _ held in
      IsPermutation-trans _ (map shown table) _
      (subst (IsPermutation (map cells xs)) (all_shown table)
      (subst (λ l. IsPermutation l (map pick (map (drop 1) table))) (all_cells xs) picks)) read

five : Row → Row
five r = column r 0 ∷ column r 1 ∷ column r 2 ∷ column r 3 ∷ column r 4 ∷ []

three : Row → Row
three r = column r 0 ∷ column r 1 ∷ column r 2 ∷ []

two : Row → Row
two r = column r 0 ∷ column r 1 ∷ []

shows_five : (r : Row) → five (drop 1 r) ≡ shown_spot r
unfolding five
shows_five [] = refl
shows_five (v ∷ r) = refl

shows_three : (r : Row) → three (drop 1 r) ≡ shown_line r
unfolding three
shows_three [] = refl
shows_three (v ∷ r) = refl

shows_two : (r : Row) → two (drop 1 r) ≡ shown_term r
unfolding two
shows_two [] = refl
shows_two (v ∷ r) = refl

pub rows_found : (db : Trees) (ss ls ts : List Row) → IsPermutation (shown_in Spots db) ss
    → IsPermutation (shown_in Lines db) ls → IsPermutation (shown_in Terms db) ts → (d : Content)
    → AreRows db d → AreFound ss ls ts d
unfolding five three two
rows_found db ss ls ts spots lines terms d held = record {
  spots = has_read spot_cells shown_spot five shows_five (λ x. refl) (db 5) d.spots ss
      held.spots spots;
  lines = has_read line_cells shown_line three shows_three (λ x. refl) (db 7) d.lines ls
      held.lines lines;
  terms = has_read term_cells shown_term two shows_two (λ x. refl) (db 9) d.terms ts
      held.terms terms;
}
