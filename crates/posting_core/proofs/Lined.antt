-- The rows of loans after an entry are those of looking back after it.
use Rattle.std.specs.Prelude.{ℕ, ℤ, ◌≡◌, ◌&&◌, ◌||◌, ◌==◌, Bool, true, false, cond, zero, suc, List}
use Rattle.std.specs.Prelude.{[], ◌∷◌, ◌++◌, Option, None, Some, map, refl, if◌then◌else◌}
use Rattle.std.specs.Prelude.{unwrap_or, slice_set, nat_eq}
use Rattle.std.specs.List.{find, position, AllByRecursion}
use Rattle.std.specs.Option.{option_map, option_map_or, option_to_list}
use Rattle.std.specs.Str.{bytes_eq}
use Rattle.std.proofs.Common.{ap, ◌∙◌, sym, subst, arith}
use Rattle.std.proofs.lemmas.Bool.{false≢true}
use Rattle.std.proofs.Math.Path.{fun_ext}
use Rattle.std.proofs.lemmas.Bool.Decides.{nat_tests}
use Rattle.std.proofs.lemmas.List.{append-nil, map-append}
use Rattle.std.proofs.lemmas.Option.{none-some}
use Rattle.std.proofs.lemmas.Slice.Eq.{bytes_eq-Decides}
use Rattle.nest_core.specs.Museum.{Museum}
use Rattle.nest_core.specs.Puts.{is_among}
use Rattle.posting_core.specs.declared.message.Message.{Message}
use Rattle.posting_core.specs.declared.message.Message.TheVariants.{Move, Pack, Agree, Authorise}
use Rattle.posting_core.specs.declared.message.Message.TheVariants.{Exit, Return, Receive, SignOff}
use Rattle.posting_core.specs.declared.message.Message.TheVariants.{Extend}
use Rattle.posting_core.specs.declared.entry.Entry.{Entry}
use Rattle.posting_core.specs.declared.entry.NewLine.{NewLine}
use Rattle.posting_core.specs.declared.stage.LineStage.{LineStage}
use Rattle.posting_core.specs.declared.stage.LineStage.TheVariants.{Awaiting, Away, Back, Here}
use Rattle.posting_core.specs.declared.verdict.Verdict.TheVariants.{Applied}
use Rattle.posting_core.specs.VerdictNames.{is_applied}
use Rattle.posting_core.specs.Messages.{place_no}
use Rattle.posting_core.specs.Agreements.{Agreement, agreement_in, agreements, authorises}
use Rattle.posting_core.specs.Agreements.{is_authorised, extension_in, last_from}
use Rattle.posting_core.specs.Loans.{Crossing, exit_of, crossing_in, objects_in, stage_by, stage}
use Rattle.posting_core.specs.Loans.{objects_of}
use Rattle.posting_core.specs.Verdicts.{verdict}
use Rattle.posting_core.specs.Lawful.{Follows, IsLawful}
use Rattle.posting_core.specs.Book.{new_lines, lines_of_agreement}
use Rattle.posting_core.specs.LoanRows.{LoanRow, loan_row, loan_rows, with_lines, changed}
use Rattle.posting_core.specs.LoanRows.{authorised_row, extended_row, agreed_row, rows_with}
use Rattle.posting_core.specs.LoanRows.{AreOnce}
use Rattle.posting_core.proofs.AppliedRows.{applied_is}
use Rattle.posting_core.proofs.Among.{position_cons}
use Rattle.posting_core.proofs.Agreed.{IsSound, AreApart, IsUntouched, agreements_apart}
use Rattle.posting_core.proofs.Agreed.{agreements_sound, agree_applied, untouched}
use Rattle.posting_core.proofs.ObjectNumbers.{numbers_once}

-- the stages of lines, after those of these objects are set
abbrev reset : (ℕ → LineStage) → List ℕ → LineStage → ℕ → LineStage
reset f os s o = option_map_or (λ t. t) (if is_among o os then Some s else None) (f o)

-- a number that isn't among the others changes nothing there
map_apart : (f : ℕ → LineStage) (o : ℕ) (s : LineStage) (os : List ℕ) → is_among o os ≡ false
    → map f os ≡ map (λ y. if o == y then s else f y) os
map_apart f o s [] apart = refl
map_apart f o s (y ∷ os) apart = elim (y == o) as (λ b. (y == o) ≡ b → (b || is_among o os) ≡ false
    → f y ∷ map f os ≡ (if o == y then s else f y) ∷ map (λ z. if o == z then s else f z) os) [
      | true ↦ λ e h. absurd (false≢true (sym h))
      | false ↦ λ e h. let other : (o == y) ≡ false = grind (arith, nat_tests) in
          rw other (ap (λ ss. f y ∷ ss) (map_apart f o s os h))
    ] refl apart

set_once : (f : ℕ → LineStage) (o : ℕ) (s : LineStage) (os : List ℕ) → AreOnce os →
    option_map_or (λ i. slice_set (map f os) i s) (position (nat_eq o) os) (map f os)
    ≡ map (λ y. if o == y then s else f y) os
set_once f o s [] once = refl
set_once f o s (y ∷ os) (apart, once) =
    rw (position_cons (nat_eq o) y os) (elim (nat_eq o y) as (λ b. nat_eq o y ≡ b →
    option_map_or (λ i. slice_set (f y ∷ map f os) i s)
    (if b then Some zero else option_map suc (position (nat_eq o) os)) (f y ∷ map f os)
    ≡ (if b then s else f y) ∷ map (λ z. if o == z then s else f z) os) [
      | true ↦ λ e. let same : o ≡ y = grind (arith, nat_tests) in
          ap (λ ss. s ∷ ss) (map_apart f o s os
          (subst (λ z. is_among z os ≡ false) (sym same) apart))
      | false ↦ λ e. later (position (nat_eq o) os) ∙ ap (λ ss. f y ∷ ss) (set_once f o s os once)
    ] refl)
  where
    later : (i : Option ℕ) → option_map_or (λ k. slice_set (f y ∷ map f os) k s) (option_map suc i)
        (f y ∷ map f os) ≡ f y ∷ option_map_or (λ k. slice_set (map f os) k s) i (map f os)
    later None = refl
    later (Some k) = refl

-- a row with these stages of its lines
abbrev pub row_with : LoanRow → (ℕ → LineStage) → LoanRow
row_with row f = record row { stages = map f row.objects }

abbrev pub lines_at : List ℕ → List ℕ → LineStage → List NewLine
lines_at loan os s = map (λ o. record { loan = loan; object = o; stage = s }) os

reset_more : (f : ℕ → LineStage) (o : ℕ) (os : List ℕ) (s : LineStage) (y : ℕ)
    → reset (λ z. if o == z then s else f z) os s y ≡ reset f (o ∷ os) s y
reset_more f o os s y = elim (is_among y os) as
    (λ b. option_map_or (λ t. t) (if b then Some s else None) (if o == y then s else f y)
    ≡ option_map_or (λ t. t) (if (o == y) || b then Some s else None) (f y)) [
      | true ↦ elim (o == y) as
          (λ b. s ≡ option_map_or (λ t. t) (if b || true then Some s else None)
          (f y)) [ true ↦ refl | false ↦ refl ]
      | false ↦
          elim (o == y) as (λ b. (if b then s else f y) ≡ option_map_or (λ t. t)
          (if b || false then Some s else None) (f y)) [ true ↦ refl | false ↦ refl ]
    ]

-- the lines of these objects get their stage
pub lines_set : (row : LoanRow) (loan : List ℕ) (f : ℕ → LineStage) (os : List ℕ) (s : LineStage)
    → AreOnce row.objects →
    with_lines (lines_at loan os s) (row_with row f) ≡ row_with row (reset f os s)
lines_set row loan f [] s once = refl
lines_set row loan f (o ∷ os) s once =
    ap (λ stages. with_lines (lines_at loan os s) (record row { stages = stages }))
    (set_once f o s row.objects once)
    ∙ lines_set row loan (λ y. if o == y then s else f y) os s once
    ∙ ap (row_with row) (fun_ext (reset_more f o os s))

-- If each loan has one row, changing one loan's row changes the row with its code.
others_stay : (f g : Agreement → LoanRow) (loan : List ℕ) (ts : List Agreement)
    → ((t : Agreement) → bytes_eq loan t.loan ≡ false → g t ≡ f t)
    → find (λ u. bytes_eq loan u.loan) ts ≡ None → map g ts ≡ map f ts
others_stay f g loan [] same none = refl
others_stay f g loan (t ∷ ts) same none =
    elim (bytes_eq loan t.loan) as (λ b. bytes_eq loan t.loan ≡ b
    → cond b (Some t) (find (λ u. bytes_eq loan u.loan) ts) ≡ None
    → g t ∷ map g ts ≡ f t ∷ map f ts) [
      | true ↦ λ e h. absurd (none-some _ (sym h))
      | false ↦ λ e h. ap (λ r. r ∷ map g ts) (same t e) ∙ ap (λ rs. f t ∷ rs)
          (others_stay f g loan ts same h)
    ] refl none

changed_row : (Q : Agreement → Type 0) (f g : Agreement → LoanRow) (change : LoanRow → LoanRow)
    (loan : List ℕ) (ts : List Agreement) → AllByRecursion Q ts → AreApart ts
    → ((t : Agreement) → (f t).loan ≡ t.loan) →
    ((t : Agreement) → bytes_eq loan t.loan ≡ false → g t ≡ f t)
    → ((t : Agreement) → Q t → loan ≡ t.loan → g t ≡ change (f t))
    → map g ts ≡ changed change loan (map f ts)
changed_row Q f g change loan [] all apart named same new = refl
changed_row Q f g change loan (t ∷ ts) (q, all) (other, apart) named same new =
    elim (bytes_eq loan (f t).loan) as (λ b. bytes_eq loan (f t).loan ≡ b
    → g t ∷ map g ts ≡ (if b then change (f t) ∷ map f ts else f t ∷ changed change loan
    (map f ts))) [
      | true ↦ λ e. let is : loan ≡ t.loan = (bytes_eq-Decides loan (f t).loan).0 e ∙ named t in
          ap (λ r. r ∷ map g ts) (new t q is) ∙ ap (λ rs. change (f t) ∷ rs)
          (others_stay f g loan ts same (subst (λ l. find (λ u. bytes_eq l u.loan) ts ≡ None)
          (sym is) other))
      | false ↦ λ e. ap (λ r. r ∷ map g ts) (same t (ap (bytes_eq loan) (sym (named t)) ∙ e))
          ∙ ap (λ rs. f t ∷ rs) (changed_row Q f g change loan ts all apart named same new)
    ] refl

-- a loan's row after a message; the flag is whether the message is applied
abbrev row_by : Museum → List Entry → Bool → Message → Agreement → LoanRow
row_by S P b m t = record {
  loan = t.loan;
  partner = place_no S t.partner;
  objects = objects_of S t;
  stages =
      map (λ o. option_map_or (λ s. s) (if b then stage_by S P m t.loan o else None)
      (stage S P t.loan o)) (objects_of S t);
  last = unwrap_or (if b then extension_in m t.loan else None) (last_from P t.loan t.last);
  authorised = (b && authorises m t.loan) || is_authorised P t.loan;
}

abbrev rows_by : Museum → List Entry → Bool → Message → List LoanRow
rows_by S P b m = map (row_by S P b m)
    (agreements P ++ option_to_list (if b then agreement_in m else None))

-- a message that only changes rows
same_loans : (S : Museum) (P : List Entry) (m : Message) → agreement_in m ≡ None
    → (rows : List LoanRow) → map (row_by S P true m) (agreements P) ≡ rows
    → rows_by S P true m ≡ rows
same_loans S P m none rows is = ap (λ o. map (row_by S P true m) (agreements P ++ option_to_list o))
    none ∙ ap (map (row_by S P true m)) (append-nil (agreements P)) ∙ is

-- the objects that cross get their stage
crossed : (S : Museum) (depth : ℕ) (P : List Entry) (m : Message) (c : Crossing)
    → IsLawful S depth P → crossing_in m ≡ Some c → agreement_in m ≡ None
    → ((t : Agreement) → extension_in m t.loan ≡ None)
    → ((t : Agreement) → authorises m t.loan ≡ false) →
    rows_by S P true m ≡ changed (with_lines (lines_at c.loan (objects_in S P c.thing) c.stage))
    c.loan (loan_rows S P)
crossed S depth P m c lawful is none stays quiet =
    same_loans S P m none (changed (with_lines (lines_at c.loan os c.stage)) c.loan (loan_rows S P))
    (changed_row (IsSound S) (loan_row S P) (row_by S P true m)
    (with_lines (lines_at c.loan os c.stage)) c.loan (agreements P)
    (agreements_sound S depth P lawful) (agreements_apart S depth P lawful)
    (λ t. refl) other new)
  where
    os : List ℕ
    os = objects_in S P c.thing

    other : (t : Agreement) → bytes_eq c.loan t.loan ≡ false → row_by S P true m t ≡ loan_row S P t
    other t apart = rw (is, stays t, quiet t, apart) refl

    new : (t : Agreement) → IsSound S t → c.loan ≡ t.loan
        → row_by S P true m t ≡ with_lines (lines_at c.loan os c.stage) (loan_row S P t)
    new t sound same =
        let yes : bytes_eq c.loan t.loan ≡ true = (bytes_eq-Decides c.loan t.loan).1 same in
        let set : row_by S P true m t ≡ row_with (loan_row S P t)
        (reset (stage S P t.loan) os c.stage) = rw (is, stays t, quiet t, yes) refl in
        set ∙ sym (lines_set (loan_row S P t) c.loan (stage S P t.loan) os c.stage
        (numbers_once S t.objects sound.known sound.once))

-- the objects of lines, and their stages
pub objects_told : (loan : List ℕ) (s : LineStage) (os : List ℕ)
    → map (λ l. l.object) (lines_at loan os s) ≡ os
objects_told loan s [] = refl
objects_told loan s (o ∷ os) = ap (λ rest. o ∷ rest) (objects_told loan s os)

stages_told : (loan : List ℕ) (s : LineStage) (os : List ℕ)
    → map (λ l. l.stage) (lines_at loan os s) ≡ map (λ o. s) os
stages_told loan s [] = refl
stages_told loan s (o ∷ os) = ap (λ rest. s ∷ rest) (stages_told loan s os)

-- an agreement adds a row, in which all objects are awaited
agreed : (S : Museum) (depth : ℕ) (P : List Entry) (m : Message) (t : Agreement)
    → IsLawful S depth P → verdict S depth P m ≡ Applied → agreement_in m ≡ Some t
    → crossing_in m ≡ None → ((u : Agreement) → extension_in m u.loan ≡ None)
    → ((u : Agreement) → authorises m u.loan ≡ false) →
    rows_by S P true m ≡ loan_rows S P ++ agreed_row S t (lines_of_agreement S t) ∷ []
agreed S depth P m t lawful applied is none stays quiet =
    ap (λ o. map (row_by S P true m) (agreements P ++ option_to_list o)) is
    ∙ map-append (row_by S P true m) (agreements P) (t ∷ [])
    ∙ ap (λ f. map f (agreements P) ++ row_by S P true m t ∷ []) (fun_ext old)
    ∙ ap (λ row. loan_rows S P ++ row ∷ []) new
  where
    old : (u : Agreement) → row_by S P true m u ≡ loan_row S P u
    old u = rw (none, stays u, quiet u) refl

    before : IsUntouched S P t.loan
    before = untouched S depth P t.loan lawful (agree_applied S depth P m t applied is).0

    awaited : map (stage S P t.loan) (objects_of S t) ≡ map (λ o. Awaiting) (objects_of S t)
    awaited = ap (λ f. map f (objects_of S t)) (fun_ext before.awaited)

    new : row_by S P true m t ≡ agreed_row S t (lines_of_agreement S t)
    new = old t ∙ rw (
      awaited,
      before.ends t.last,
      before.draft,
      objects_told t.loan Awaiting (objects_of S t),
      stages_told t.loan Awaiting (objects_of S t),
    ) refl

authorised : (S : Museum) (depth : ℕ) (P : List Entry) (loan name : List ℕ) → IsLawful S depth P
    → rows_by S P true (Authorise name loan) ≡ changed authorised_row loan (loan_rows S P)
authorised S depth P loan name lawful =
    same_loans S P (Authorise name loan) refl (changed authorised_row loan (loan_rows S P))
    (changed_row (IsSound S) (loan_row S P) (row_by S P true (Authorise name loan)) authorised_row
    loan (agreements P) (agreements_sound S depth P lawful)
    (agreements_apart S depth P lawful) (λ t. refl)
    (λ t apart. rw apart refl) (λ t sound same. rw ((bytes_eq-Decides loan t.loan).1 same) refl))

extended : (S : Museum) (depth : ℕ) (P : List Entry) (loan : List ℕ) (day : ℤ) → IsLawful S depth P
    → rows_by S P true (Extend day loan) ≡ changed (extended_row day) loan (loan_rows S P)
extended S depth P loan day lawful =
    same_loans S P (Extend day loan) refl (changed (extended_row day) loan (loan_rows S P))
    (changed_row (IsSound S) (loan_row S P) (row_by S P true (Extend day loan)) (extended_row day)
    loan (agreements P) (agreements_sound S depth P lawful)
    (agreements_apart S depth P lawful) (λ t. refl)
    (λ t apart. rw apart refl) (λ t sound same. rw ((bytes_eq-Decides loan t.loan).1 same) refl))

applied_rows : (S : Museum) (depth : ℕ) (P : List Entry) (m : Message) → IsLawful S depth P
    → verdict S depth P m ≡ Applied
    → rows_by S P true m ≡ rows_with S (loan_rows S P) m (new_lines S P m)
applied_rows S depth P (Move day x p) lawful h =
    same_loans S P (Move day x p) refl (loan_rows S P) refl
applied_rows S depth P (Pack day x c) lawful h =
    same_loans S P (Pack day x c) refl (loan_rows S P) refl
applied_rows S depth P (Agree first final loan partner objects) lawful h =
    agreed S depth P (Agree first final loan partner objects)
    (record { loan = loan; partner = partner; objects = objects; first = first; last = final })
    lawful h refl refl (λ u. refl) (λ u. refl)
applied_rows S depth P (Authorise name loan) lawful h = authorised S depth P loan name lawful
applied_rows S depth P (Exit day x loan) lawful h =
    crossed S depth P (Exit day x loan) (exit_of x loan) lawful refl refl (λ t. refl) (λ t. refl)
applied_rows S depth P (Return day x loan p) lawful h =
    crossed S depth P (Return day x loan p)
    (record { thing = x; loan = loan; wanted = Away; stage = Back }) lawful refl refl
    (λ t. refl) (λ t. refl)
applied_rows S depth P (Receive day x loan p) lawful h =
    crossed S depth P (Receive day x loan p)
    (record { thing = x; loan = loan; wanted = Awaiting; stage = Here }) lawful refl refl
    (λ t. refl) (λ t. refl)
applied_rows S depth P (SignOff name) lawful h =
    same_loans S P (SignOff name) refl (loan_rows S P) refl
applied_rows S depth P (Extend day loan) lawful h = extended S depth P loan day lawful

-- the rows after an entry
pub rows_after_entry : (S : Museum) (depth : ℕ) (P : List Entry) (e : Entry) → Follows S depth P e
    → IsLawful S depth P →
    loan_rows S (e ∷ P) ≡ (if is_applied e.verdict then rows_with S (loan_rows S P) e.message
    (new_lines S P e.message) else loan_rows S P)
rows_after_entry S depth P e follows lawful =
    elim (is_applied e.verdict) as (λ b. is_applied e.verdict ≡ b
    → rows_by S P b e.message ≡ (if b then rows_with S (loan_rows S P) e.message
    (new_lines S P e.message) else loan_rows S P)) [
      | true ↦ λ h. applied_rows S depth P e.message lawful
          (sym follows.judged ∙ applied_is e.verdict h)
      | false ↦ λ h. ap (map (row_by S P false e.message)) (append-nil (agreements P))
    ] refl
