-- How `csv` goes through a text with any separator, row after row.
use Rattle.std.specs.Prelude.{◌≡◌, ℕ, ◌+◌, ◌<◌, true, false, List, [], ◌∷◌, length, Option, Some}
use Rattle.std.specs.Prelude.{None}
use Rattle.std.specs.Prelude.{zero, suc, refl}
use Rattle.std.proofs.Common.{arith, ap, ◌∙◌}
use Rattle.csv.specs.Machine.{Read, ends_at_end, next_record}
use Rattle.csv.specs.Reading.{NextIs, ReadRecord, ReadsNext, pending_of}
use Rattle.csv.specs.Reading.{reader_config, reader_state, records, records_from, records_next}
use Rattle.csv.specs.Reading.{source_of}
use Rattle.csv.specs.declared.reader.Reader.{Reader}
use Rattle.csv.specs.declared.parser.Config.{Config}
use Rattle.csv.specs.declared.parser.State.{State}
use Rattle.csv.specs.declared.parser.State.TheVariants as st
use Rattle.nest_core.proofs.CsvRows.{next_leaves, next_shorter}

-- the remaining rows of a text
abbrev pub rows_left : Config → State → List ℕ → List (List (List ℕ))
rows_left cfg s xs = records_from cfg (suc (length xs)) s xs

pub left_at_start : (cfg : Config) (xs : List ℕ)
    → records cfg xs ≡ rows_left cfg st.StartRecord xs
left_at_start cfg xs = let more : length xs + 1 ≡ suc (length xs) = omega arith in
    ap (λ n. records_from cfg n st.StartRecord xs) more

-- as many turns as bytes are enough
enough : (cfg : Config) (n m : ℕ) (s : State) (xs : List ℕ) → ends_at_end s ≡ false
    → length xs < n → length xs < m
    → records_from cfg n s xs ≡ records_from cfg m s xs
unfolding records_from
enough cfg zero m s xs rests small most = absurd (omega arith)
enough cfg (suc n) zero s xs rests small most = absurd (omega arith)
enough cfg (suc n) (suc m) s xs rests small most =
    by (next_record cfg s [] [] xs) refl
    (λ (t : State) (ys : List ℕ) (r : ends_at_end t ≡ false) (f : length ys < n)
    (g : length ys < m). enough cfg n m t ys r f g)
  where
    by : (o : Option Read) → next_record cfg s [] [] xs ≡ o
        → ((t : State) (ys : List ℕ) → ends_at_end t ≡ false → length ys < n → length ys < m
        → records_from cfg n t ys ≡ records_from cfg m t ys)
        → records_next (records_from cfg n) o ≡ records_next
        (records_from cfg m) o
    by None e more = refl
    by (Some p) e more =
        let left = next_leaves cfg s [] [] xs p e in
        let less = next_shorter cfg s xs p rests e in
        ap (λ (rows : List (List (List ℕ))). p.0 ∷ rows)
        (more p.1 p.2 left.rests (omega arith) (omega arith))

pub left_none : (cfg : Config) (s : State) (xs : List ℕ) → next_record cfg s [] [] xs ≡ None
    → rows_left cfg s xs ≡ []
unfolding records_from
left_none cfg s xs e = ap (records_next (records_from cfg (length xs))) e

pub left_some : (cfg : Config) (s : State) (xs : List ℕ) (p : Read) → ends_at_end s ≡ false
    → next_record cfg s [] [] xs ≡ Some p → rows_left cfg s xs ≡ p.0 ∷ rows_left cfg p.1 p.2
unfolding records_from
left_some cfg s xs p rests e =
    let left = next_leaves cfg s [] [] xs p e in
    let less = next_shorter cfg s xs p rests e in
    ap (records_next (records_from cfg (length xs))) e
    ∙ ap (λ (rows : List (List (List ℕ))). p.0 ∷ rows)
    (enough cfg (length xs) (suc (length p.2)) p.1 p.2 left.rests (omega arith) (omega arith))

go_on : (cfg : Config) (s t : State) (xs : List ℕ) (row : List (List ℕ)) (left : Option (List ℕ))
    → ReadsNext cfg s (Some xs) left true row t
    → (ys : List ℕ) × (left ≡ Some ys) × (next_record cfg s [] [] xs ≡ Some (row, t, ys))
go_on cfg s t xs row None r = absurd r
go_on cfg s t xs row (Some ys) r = (ys, refl, by (next_record cfg s [] [] xs) r)
  where
    by : (o : Option Read) → NextIs o true row t ys → o ≡ Some (row, t, ys)
    by None n = cc n
    by (Some p) n = rw (n.1, n.2, n.3) refl

-- a read that found a row
pub read_some : {R : Type 0} (rem : R → Option (List ℕ)) (a b : Reader R) (row : List (List ℕ))
    (cfg : Config) (xs : List ℕ) → reader_config a ≡ cfg → source_of rem a ≡ Some xs
    → ReadRecord rem a b true row
    → (ys : List ℕ) × (source_of rem b ≡ Some ys)
    × (next_record cfg (reader_state a) [] [] xs ≡ Some (row, reader_state b, ys))
read_some rem a b row cfg xs config source r =
    let next = go_on cfg a.state b.state xs row (pending_of (rem b.rdr) b)
    (rw (config, source) at r.0) in
    (next.0, rw r.1 next.1, next.2)
