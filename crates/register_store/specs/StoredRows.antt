-- Defines the rows that a store has for a posted list. Rows are written newest first here; a store
-- may have them in any order. Cells are raw integers and bytes, as in a table, so whatever is in
-- the tables of a store is a content, a negative number or a stage of 9 included. Only some
-- contents are those of a posted list.
use Rattle.std.specs.Prelude.{ℕ, ℤ, pos, ◌≡◌, ◌+◌, ◌==◌, ◌&&◌, ◌||◌, Bool, true, not, Ok, List, []}
use Rattle.std.specs.Prelude.{◌∷◌, ◌++◌, length, map, filter, reverse, Option, None, Some}
use Rattle.std.specs.Prelude.{if◌then◌else◌, codes}
use Rattle.std.specs.List.{flat_map, range_with_len}
use Rattle.std.specs.List.Sorted.{IsPermutation}
use Rattle.std.specs.Ordering.{int_eq}
use Rattle.std.specs.Option.{option_map_or}
use Rattle.std.specs.Str.{bytes_eq}
use Rattle.nest_core.specs.Museum.{Museum}
use Rattle.nest_core.specs.SetupTexts.{setup_rows}
use Rattle.posting_core.specs.declared.entry.Changes.{Changes}
use Rattle.posting_core.specs.declared.entry.Entry.{Entry}
use Rattle.posting_core.specs.declared.entry.NewLine.{NewLine}
use Rattle.posting_core.specs.declared.entry.NewSpot.{NewSpot}
use Rattle.posting_core.specs.declared.entry.Spot.{Spot}
use Rattle.posting_core.specs.declared.message.Message.{Message}
use Rattle.posting_core.specs.declared.message.Message.TheVariants.{Move, Pack, Agree, Authorise}
use Rattle.posting_core.specs.declared.message.Message.TheVariants.{Exit, Return, Receive, SignOff}
use Rattle.posting_core.specs.declared.message.Message.TheVariants.{Extend}
use Rattle.posting_core.specs.Agreements.{Agreement, agreements, last_from}
use Rattle.posting_core.specs.Book.{new_spots}
use Rattle.posting_core.specs.History.{spots}
use Rattle.posting_core.specs.Loans.{objects_of, stage}
use Rattle.posting_core.specs.StageNumbers.{stage_number}
use Rattle.posting_core.specs.VerdictNames.{is_applied, verdict_number}
use Rattle.register_store.specs.Kinds.{of_bytes}
use Rattle.register_store.specs.MessageText.{IsTextOf}

-- A row of the setup, with its number from 1.
pub record SetupRow : Type 0 where
  pub id : ℤ
  pub text : List ℕ

-- A row about the store: a word and its value.
pub record MetaRow : Type 0 where
  pub name : List ℕ
  pub val : ℤ

-- An entry, with its number from 1, its message as text and its verdict as a number.
pub record PostingRow : Type 0 where
  pub id : ℤ
  pub station : ℤ
  pub n : ℤ
  pub body : List ℕ
  pub verdict : ℤ

-- A spot, with its thing and its number from 1 in the thing's list.
pub record SpotRow : Type 0 where
  pub thing : ℤ
  pub k : ℤ
  pub entry : ℤ
  pub place : ℤ
  pub day : ℤ

-- A loan line: a loan, one of its objects, and the stage as a number.
pub record LineRow : Type 0 where
  pub loan : List ℕ
  pub object : ℤ
  pub stage : ℤ

-- A loan and its last day.
pub record TermRow : Type 0 where
  pub loan : List ℕ
  pub day : ℤ

-- All rows of a store.
pub record Content : Type 0 where
  pub setup : List SetupRow
  pub meta : List MetaRow
  pub postings : List PostingRow
  pub spots : List SpotRow
  pub lines : List LineRow
  pub terms : List TermRow

-- The same rows, in any order.
pub record AreSame (c d : Content) : Type 0 where
  pub setup : IsPermutation c.setup d.setup
  pub meta : IsPermutation c.meta d.meta
  pub postings : IsPermutation c.postings d.postings
  pub spots : IsPermutation c.spots d.spots
  pub lines : IsPermutation c.lines d.lines
  pub terms : IsPermutation c.terms d.terms

-- Each text with its number, the last text first.
abbrev pub numbered : List (List ℕ) → List SetupRow
numbered [] = []
numbered (text ∷ texts) = record { id = pos (length texts + 1); text = text } ∷ numbered texts

-- The rows of a setup, numbered from 1.
abbrev pub rows_of_setup : Museum → List SetupRow
rows_of_setup S = numbered (reverse (setup_rows S))

-- The rows about a store: version 2, and the depth limit that it was created with.
abbrev pub rows_of_meta : ℕ → List MetaRow
rows_of_meta depth =
    record { name = codes "version"; val = pos 2 }
    ∷ record { name = codes "depth"; val = pos depth } ∷ []

-- A new store has the depth limit 12; one that was migrated from version 1 keeps 8.
abbrev pub is_depth : ℕ → Bool
is_depth depth = (depth == 8) || (depth == 12)

-- The row is that of entry `number`: its body is the one text of the message, and reads back as the
-- message.
pub record IsPostingRow (number : ℕ) (e : Entry) (row : PostingRow) : Type 0 where
  pub id : row.id ≡ pos number
  pub station : row.station ≡ pos e.station
  pub n : row.n ≡ pos e.n
  pub body : IsTextOf e.message row.body
  pub reads_back : of_bytes row.body ≡ Ok e.message
  pub verdict : row.verdict ≡ pos (verdict_number e.verdict)

-- The rows are those of the entries.
abbrev pub ArePostings : List Entry → List PostingRow → Type 0
ArePostings [] [] = Unit {0}
ArePostings [] (row ∷ rows) = ⊥
ArePostings (e ∷ P) [] = ⊥
ArePostings (e ∷ P) (row ∷ rows) = IsPostingRow (length P + 1) e row × ArePostings P rows

-- The row of a spot.
abbrev pub spot_row : NewSpot → SpotRow
spot_row s =
    record {
      thing = pos s.thing;
      k = pos s.k;
      entry = pos s.spot.entry;
      place = pos s.spot.place;
      day = s.spot.day;
    }

-- The row of a loan line.
abbrev pub line_row : NewLine → LineRow
line_row l = record { loan = l.loan; object = pos l.object; stage = pos (stage_number l.stage) }

-- The spots that entry e adds after P. A refused entry adds none.
abbrev pub written : Museum → List Entry → Entry → List NewSpot
written S P e = if is_applied e.verdict then new_spots S P e.message else []

-- All spots that the entries added, one entry at a time.
abbrev pub all_written : Museum → List Entry → List NewSpot
all_written S [] = []
all_written S (e ∷ P) = reverse (written S P e) ++ all_written S P

-- The spots of thing x, numbered from k.
abbrev pub spots_of_thing : ℕ → ℕ → List Spot → List NewSpot
spots_of_thing x k [] = []
spots_of_thing x k (spot ∷ spots) =
    record { thing = x; k = k; spot = spot } ∷ spots_of_thing x (k + 1) spots

-- The spots of all things, by looking back, thing by thing. By law
-- (`laws::spots_are_of_looking_back`) they are the spots of `all_written`.
abbrev pub spots_by_thing : Museum → List Entry → List NewSpot
spots_by_thing S P =
    flat_map (λ x. spots_of_thing x 1 (spots S P x)) (range_with_len 0 (length S.things))

-- The lines of an agreement, each at its present stage.
abbrev pub lines_under : Museum → List Entry → Agreement → List NewLine
lines_under S P t =
    map (λ o. record { loan = t.loan; object = o; stage = stage S P t.loan o }) (objects_of S t)

-- The lines of all loans, by looking back.
abbrev pub lines_by_loan : Museum → List Entry → List NewLine
lines_by_loan S P = flat_map (lines_under S P) (agreements P)

-- The rows of all spots.
abbrev pub rows_of_spots : Museum → List Entry → List SpotRow
rows_of_spots S P = map spot_row (all_written S P)

-- The rows of all loan lines.
abbrev pub rows_of_lines : Museum → List Entry → List LineRow
rows_of_lines S P = map line_row (lines_by_loan S P)

-- The last days of all loans, by looking back.
abbrev pub rows_of_terms : List Entry → List TermRow
rows_of_terms P =
    map (λ t. record { loan = t.loan; day = last_from P t.loan t.last }) (agreements P)

-- The store has the entries P.
pub record HasList (P : List Entry) (c : Content) : Type 0 where
  pub rows : List PostingRow
  pub each : ArePostings P rows
  pub all : IsPermutation rows c.postings

-- The store is bound to the setup, with this depth limit.
pub record IsBoundTo (S : Museum) (depth : ℕ) (c : Content) : Type 0 where
  pub setup : IsPermutation (rows_of_setup S) c.setup
  pub meta : IsPermutation (rows_of_meta depth) c.meta
  pub limit : is_depth depth ≡ true

-- The rows of spots, loan lines and last days are those of looking back through P.
pub record HasRows (S : Museum) (P : List Entry) (c : Content) : Type 0 where
  pub spots : IsPermutation (rows_of_spots S P) c.spots
  pub lines : IsPermutation (rows_of_lines S P) c.lines
  pub terms : IsPermutation (rows_of_terms P) c.terms

-- The store has all rows of a posted list, and no others.
pub record IsStoreOf (S : Museum) (depth : ℕ) (P : List Entry) (c : Content) : Type 0 where
  pub bound : IsBoundTo S depth c
  pub list : HasList P c
  pub rows : HasRows S P c

-- The rows with a new row in place of those with the same key.
abbrev pub put : {R : Type 0} → (R → R → Bool) → R → List R → List R
put same row rows = row ∷ filter (λ r. not (same row r)) rows

-- The rows after each of these was put, one after another.
abbrev pub put_each : {R : Type 0} → (R → R → Bool) → List R → List R → List R
put_each same [] rows = rows
put_each same (new ∷ more) rows = put_each same more (put same new rows)

-- Both are lines of the same loan and object.
abbrev pub is_same_line : LineRow → LineRow → Bool
is_same_line l k = bytes_eq l.loan k.loan && int_eq l.object k.object

-- Both are last days of the same loan.
abbrev pub is_same_loan : TermRow → TermRow → Bool
is_same_loan t u = bytes_eq t.loan u.loan

-- The last day that a message sets.
abbrev pub term_in : Message → Option TermRow
term_in (Move day x p) = None
term_in (Pack day x c) = None
term_in (Agree first last loan partner objects) = Some (record { loan = loan; day = last })
term_in (Authorise name loan) = None
term_in (Exit day x loan) = None
term_in (Return day x loan p) = None
term_in (Receive day x loan p) = None
term_in (SignOff name) = None
term_in (Extend last loan) = Some (record { loan = loan; day = last })

-- The last day that an entry sets: that of an applied Agree or Extend.
abbrev pub term_of : Entry → Option TermRow
term_of e = if is_applied e.verdict then term_in e.message else None

-- The content with one more entry: its spots are added; its loan lines and its last day replace
-- those before.
abbrev pub with_posted : PostingRow → Entry → Changes → Content → Content
with_posted row e changes c = record c {
  postings = row ∷ c.postings;
  spots = map spot_row (reverse changes.spots) ++ c.spots;
  lines = put_each is_same_line (map line_row changes.lines) c.lines;
  terms = option_map_or (λ t. put is_same_loan t c.terms) (term_of e) c.terms;
}
