-- How `csv` goes through a text, row after row.
use Rattle.std.specs.Prelude.{◌≡◌, ℕ, ◌+◌, ◌<◌, ◌≤◌, ◌==◌, ◌&&◌, Bool, true, false, cond, List, []}
use Rattle.std.specs.Prelude.{◌∷◌, ◌++◌, length, Option, Some, None, zero, suc, refl}
use Rattle.std.proofs.Common.{arith, ap, ◌∙◌, subst}
use Rattle.csv.specs.Machine.{Read, after_end, carriage_return, ends_at_end, ends_with, field_after}
use Rattle.csv.specs.Machine.{fields_after, in_field, is_byte, is_end, line_feed, next_record}
use Rattle.csv.specs.Machine.{start_field, start_record, step}
use Rattle.csv.specs.Reading.{NextIs, ReadRecord, ReadsNext, default_config, pending_of}
use Rattle.csv.specs.Reading.{reader_config, reader_state, records, records_from, records_next}
use Rattle.csv.specs.Reading.{source_of}
use Rattle.csv.specs.declared.reader.Reader.{Reader}
use Rattle.csv.specs.declared.parser.Action.{Action}
use Rattle.csv.specs.declared.parser.Action.TheVariants as act
use Rattle.csv.specs.declared.parser.Config.{Config}
use Rattle.csv.specs.declared.parser.State.{State}
use Rattle.csv.specs.declared.parser.State.TheVariants as st
use Rattle.csv.specs.declared.parser.Terminator.{Terminator}
use Rattle.csv.specs.declared.parser.Terminator.TheVariants as term

-- after the end of a row, no row has begun
abbrev RestsAtEnd : State × Action → Type 0
RestsAtEnd q = is_end q.1 ≡ true → ends_at_end q.0 ≡ false

either : (b : Bool) (x y : State × Action) → RestsAtEnd x → RestsAtEnd y → RestsAtEnd (cond b x y)
either true x y h k = h
either false x y h k = k

goes_on : (s : State) (a : Action) → is_end a ≡ false → RestsAtEnd (s, a)
goes_on s a e h = absurd (cc)

pick_rests : (b : Bool) (s t : State) → ends_at_end s ≡ false → ends_at_end t ≡ false
    → ends_at_end (cond b s t) ≡ false
pick_rests true s t h k = h
pick_rests false s t h k = k

after_end_rests : (t : Terminator) (c : ℕ) → ends_at_end (after_end t c) ≡ false
after_end_rests term.CRLF c = pick_rests (c == carriage_return) st.AfterCr st.StartRecord refl refl
after_end_rests (term.Any t) c = refl

in_field_rests : (cfg : Config) (c : ℕ) → RestsAtEnd (in_field cfg c)
in_field_rests cfg c =
    either (c == cfg.delimiter) (st.StartField, act.EndField) _
    (goes_on st.StartField act.EndField refl)
    (either (ends_with cfg.terminator c) (after_end cfg.terminator c, act.EndRecord)
    (st.InField, act.Copy) (λ e. after_end_rests cfg.terminator c)
    (goes_on st.InField act.Copy refl))

start_field_rests : (cfg : Config) (c : ℕ) → RestsAtEnd (start_field cfg c)
start_field_rests cfg c = either (cfg.quoting && (c == cfg.quote)) (st.InQuoted, act.Skip)
    (in_field cfg c) (goes_on st.InQuoted act.Skip refl) (in_field_rests cfg c)

start_record_rests : (cfg : Config) (c : ℕ) → RestsAtEnd (start_record cfg c)
start_record_rests cfg c =
    either (ends_with cfg.terminator c) (st.StartRecord, act.Skip) _
    (goes_on st.StartRecord act.Skip refl)
    (either (is_byte cfg.comment c) (st.InComment, act.Skip) (start_field cfg c)
    (goes_on st.InComment act.Skip refl) (start_field_rests cfg c))

step_rests : (cfg : Config) (s : State) (c : ℕ) → RestsAtEnd (step cfg s c)
step_rests cfg st.StartRecord c = start_record_rests cfg c
step_rests cfg st.StartField c = start_field_rests cfg c
step_rests cfg st.InField c = in_field_rests cfg c
step_rests cfg st.InQuoted c =
    either (cfg.quoting && (c == cfg.quote)) (st.AfterQuote, act.Skip) _
    (goes_on st.AfterQuote act.Skip refl)
    (either (cfg.quoting && is_byte cfg.escape c) (st.InEscape, act.Skip) (st.InQuoted, act.Copy)
    (goes_on st.InEscape act.Skip refl) (goes_on st.InQuoted act.Copy refl))
step_rests cfg st.InEscape c = goes_on st.InQuoted act.Copy refl
step_rests cfg st.AfterQuote c =
    either (cfg.quoting && cfg.double_quote && (c == cfg.quote)) (st.InQuoted, act.Copy)
    (in_field cfg c) (goes_on st.InQuoted act.Copy refl) (in_field_rests cfg c)
step_rests cfg st.InComment c =
    either (c == line_feed) (st.StartRecord, act.Skip) (st.InComment, act.Skip)
    (goes_on st.StartRecord act.Skip refl) (goes_on st.InComment act.Skip refl)
step_rests cfg st.AfterCr c = either (c == line_feed) (st.StartRecord, act.Skip)
    (start_record cfg c) (goes_on st.StartRecord act.Skip refl) (start_record_rests cfg c)

-- a read leaves at most the bytes that it had, and no row begun
pub record Leaves (xs : List ℕ) (p : Read) : Type 0 where
  pub rests : ends_at_end p.1 ≡ false
  pub most : length p.2 ≤ length xs

leaves_rest : (c : ℕ) (xs : List ℕ) (p : Read) → Leaves xs p → Leaves (c ∷ xs) p
leaves_rest c xs p h = record { rests = h.rests; most = omega (arith, h.most) }

pub next_leaves : (cfg : Config) (s : State) (fields : List (List ℕ)) (field : List ℕ) (xs : List ℕ)
    (p : Read) → next_record cfg s fields field xs ≡ Some p → Leaves xs p
unfolding next_record
next_leaves cfg s fields field [] p e = by (ends_at_end s) e
  where
    by : (b : Bool) → cond b (Some (fields ++ (field ∷ []), st.StartRecord, [])) None ≡ Some p
        → Leaves [] p
    by true e = let is : (fields ++ (field ∷ []), st.StartRecord, []) ≡ p = cc in
        subst (Leaves []) is (record { rests = refl; most = omega arith })
    by false e = absurd (cc)
next_leaves cfg s fields field (c ∷ rest) p e =
    by (is_end (step cfg s c).1) refl e
    (next_leaves cfg (step cfg s c).0 (fields_after (step cfg s c).1 fields field)
    (field_after (step cfg s c).1 c field) rest p)
  where
    by : (b : Bool) → is_end (step cfg s c).1 ≡ b
        → cond b (Some (fields_after (step cfg s c).1 fields field, (step cfg s c).0, rest))
        (next_record cfg (step cfg s c).0 (fields_after (step cfg s c).1 fields field)
        (field_after (step cfg s c).1 c field) rest) ≡ Some p
        → (next_record cfg (step cfg s c).0 (fields_after (step cfg s c).1 fields field)
        (field_after (step cfg s c).1 c field) rest ≡ Some p → Leaves rest p)
        → Leaves (c ∷ rest) p
    by true h e more =
        let is : (fields_after (step cfg s c).1 fields field, (step cfg s c).0, rest) ≡ p = cc in
        subst (Leaves (c ∷ rest)) is (record { rests = step_rests cfg s c h; most = omega arith })
    by false h e more = leaves_rest c rest p (more e)

-- each read from between two rows takes at least one byte
pub next_shorter : (cfg : Config) (s : State) (xs : List ℕ) (p : Read) → ends_at_end s ≡ false
    → next_record cfg s [] [] xs ≡ Some p → length p.2 < length xs
unfolding next_record
next_shorter cfg s [] p rests e = by (ends_at_end s) rests e
  where
    by : (b : Bool) → b ≡ false → cond b (Some ([] ∷ [], st.StartRecord, [])) None ≡ Some p
        → length p.2 < 0
    by true r e = absurd (cc)
    by false r e = absurd (cc)
next_shorter cfg s (c ∷ rest) p rests e =
    by (is_end (step cfg s c).1) e
  where
    by : (b : Bool)
        → cond b (Some (fields_after (step cfg s c).1 [] [], (step cfg s c).0, rest))
        (next_record cfg (step cfg s c).0 (fields_after (step cfg s c).1 [] [])
        (field_after (step cfg s c).1 c []) rest) ≡ Some p
        → length p.2 < suc (length rest)
    by true e = let is : rest ≡ p.2 = cc in omega (arith, ap length is)
    by false e = omega (arith, (next_leaves cfg (step cfg s c).0 _ _ rest p e).most)

-- the remaining rows of a text
abbrev pub rows_left : State → List ℕ → List (List (List ℕ))
rows_left s xs = records_from default_config (suc (length xs)) s xs

pub left_at_start : (xs : List ℕ) → records default_config xs ≡ rows_left st.StartRecord xs
left_at_start xs = let more : length xs + 1 ≡ suc (length xs) = omega arith in
    ap (λ n. records_from default_config n st.StartRecord xs) more

-- as many turns as bytes are enough
enough : (n m : ℕ) (s : State) (xs : List ℕ) → ends_at_end s ≡ false → length xs < n → length xs < m
    → records_from default_config n s xs ≡ records_from default_config m s xs
unfolding records_from
enough zero m s xs rests small most = absurd (omega arith)
enough (suc n) zero s xs rests small most = absurd (omega arith)
enough (suc n) (suc m) s xs rests small most =
    by (next_record default_config s [] [] xs) refl
    (λ (t : State) (ys : List ℕ) (r : ends_at_end t ≡ false) (f : length ys < n)
    (g : length ys < m). enough n m t ys r f g)
  where
    by : (o : Option Read) → next_record default_config s [] [] xs ≡ o
        → ((t : State) (ys : List ℕ) → ends_at_end t ≡ false → length ys < n → length ys < m
        → records_from default_config n t ys ≡ records_from default_config m t ys)
        → records_next (records_from default_config n) o ≡ records_next
        (records_from default_config m) o
    by None e more = refl
    by (Some p) e more =
        let left = next_leaves default_config s [] [] xs p e in
        let less = next_shorter default_config s xs p rests e in
        ap (λ (rows : List (List (List ℕ))). p.0 ∷ rows)
        (more p.1 p.2 left.rests (omega arith) (omega arith))

pub left_none : (s : State) (xs : List ℕ) → next_record default_config s [] [] xs ≡ None
    → rows_left s xs ≡ []
unfolding records_from
left_none s xs e = ap (records_next (records_from default_config (length xs))) e

pub left_some : (s : State) (xs : List ℕ) (p : Read) → ends_at_end s ≡ false
    → next_record default_config s [] [] xs ≡ Some p → rows_left s xs ≡ p.0 ∷ rows_left p.1 p.2
unfolding records_from
left_some s xs p rests e =
    let left = next_leaves default_config s [] [] xs p e in
    let less = next_shorter default_config s xs p rests e in
    ap (records_next (records_from default_config (length xs))) e
    ∙ ap (λ (rows : List (List (List ℕ))). p.0 ∷ rows)
    (enough (length xs) (suc (length p.2)) p.1 p.2 left.rests (omega arith) (omega arith))

go_on : (cfg : Config) (s t : State) (xs : List ℕ) (row : List (List ℕ)) (left : Option (List ℕ))
    → ReadsNext cfg s (Some xs) left true row t
    → (ys : List ℕ) × (left ≡ Some ys) × (next_record cfg s [] [] xs ≡ Some (row, t, ys))
go_on cfg s t xs row None r = absurd r
go_on cfg s t xs row (Some ys) r = (ys, refl, by (next_record cfg s [] [] xs) r)
  where
    by : (o : Option Read) → NextIs o true row t ys → o ≡ Some (row, t, ys)
    by None n = cc n
    by (Some p) n = rw (n.1, n.2, n.3) refl

-- a read that found a row
pub read_some : {R : Type 0} (rem : R → Option (List ℕ)) (a b : Reader R) (row : List (List ℕ))
    (xs : List ℕ) → reader_config a ≡ default_config → source_of rem a ≡ Some xs
    → ReadRecord rem a b true row
    → (ys : List ℕ) × (source_of rem b ≡ Some ys)
    × (next_record default_config (reader_state a) [] [] xs ≡ Some (row, reader_state b, ys))
read_some rem a b row xs config source r =
    let next = go_on default_config a.state b.state xs row (pending_of (rem b.rdr) b)
    (rw (config, source) at r.0) in
    (next.0, rw r.1 next.1, next.2)
