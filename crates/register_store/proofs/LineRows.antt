-- The lines and the last days that an entry puts are those of looking back after it.
use Rattle.std.specs.Prelude.{ℕ, pos, ◌≡◌, ◌&&◌, ◌||◌, ◌==◌, Bool, true, false, not, cond, List, []}
use Rattle.std.specs.Prelude.{◌∷◌, ◌++◌, map, None, Some, is_some, if◌then◌else◌, refl}
use Rattle.std.proofs.Common.{ap, sym, subst, ◌∙◌, arith}
use Rattle.std.specs.List.{find, flat_map, list_any, AllByRecursion}
use Rattle.std.specs.Option.{option_map_or, option_to_list}
use Rattle.std.specs.Str.{bytes_eq}
use Rattle.std.specs.List.Sorted.{IsPermutation}
use Rattle.std.specs.Ordering.{int_eq}
use Rattle.std.proofs.lemmas.Bool.{or_parts, false≢true, not-false}
use Rattle.std.proofs.lemmas.Bool.Decides.{nat_tests}
use Rattle.std.proofs.lemmas.List.{append-nil, append_assoc}
use Rattle.std.proofs.lemmas.List.Folds.{list_any-append}
use Rattle.std.proofs.lemmas.List.Sorted.{IsPermutation-trans, IsPermutation-middle}
use Rattle.std.proofs.lemmas.List.Sorted.{IsPermutation-map}
use Rattle.std.proofs.lemmas.Option.{none-some}
use Rattle.std.proofs.lemmas.Slice.Eq.{bytes_eq-Decides}
use Rattle.sqlite_keyed.proofs.ListLemmas.{all_weaker, all-map, all-flat_map, ascending-append}
use Rattle.sqlite_keyed.proofs.ListLemmas.{map-map, map-flat_map, map_same, flat_map_same_on}
use Rattle.sqlite_keyed.proofs.ListLemmas.{IsPermutation-same}
use Rattle.nest_core.specs.Museum.{Museum}
use Rattle.nest_core.specs.Puts.{is_among}
use Rattle.posting_core.specs.declared.message.Message.{Message}
use Rattle.posting_core.specs.declared.message.Message.TheVariants.{Move, Pack, Agree, Authorise}
use Rattle.posting_core.specs.declared.message.Message.TheVariants.{Exit, Return, Receive, SignOff}
use Rattle.posting_core.specs.declared.message.Message.TheVariants.{Extend}
use Rattle.posting_core.specs.declared.verdict.Verdict.TheVariants.{Applied}
use Rattle.posting_core.specs.declared.entry.Entry.{Entry}
use Rattle.posting_core.specs.declared.entry.NewLine.{NewLine}
use Rattle.posting_core.specs.declared.stage.LineStage.{LineStage}
use Rattle.posting_core.specs.declared.stage.LineStage.TheVariants.{Awaiting, Away, Back, Here}
use Rattle.posting_core.specs.Agreements.{Agreement, agreement_in, agreements}
use Rattle.posting_core.specs.Book.{new_lines, lines_of_agreement, lines_of_crossing}
use Rattle.posting_core.specs.Lawful.{Follows, IsLawful}
use Rattle.posting_core.specs.Loans.{Crossing, exit_of, crossing_in, objects_in, objects_of}
use Rattle.posting_core.specs.Loans.{objects, stage, stage_by}
use Rattle.posting_core.specs.VerdictNames.{is_applied}
use Rattle.posting_core.specs.Verdicts.{verdict, carries_unlisted, is_listed, exit_rows}
use Rattle.posting_core.specs.Verdicts.{return_rows, receive_rows}
use Rattle.posting_core.proofs.AppliedRows.{none_holds, applied_is}
use Rattle.posting_core.proofs.Agreed.{IsSound, AreApart, agreements_apart, agreements_sound}
use Rattle.posting_core.proofs.Agreed.{agree_applied, untouched, apart_sym}
use Rattle.posting_core.proofs.ObjectNumbers.{numbers_once}
use Rattle.posting_core.specs.LoanRows as numbers
use Rattle.register_store.specs.StoredRows.{LineRow, lines_by_loan, put, put_each, line_row}
use Rattle.register_store.specs.StoredRows.{is_same_line, rows_of_lines}
use Rattle.register_store.specs.Plain.{has_same_key}
use Rattle.register_store.proofs.PutRows.{IsFree, AreOnce, replaced, put_each_same, put_mapped}
use Rattle.register_store.proofs.PutRows.{put_new, put_replaces}

abbrev row : List ℕ → ℕ → LineStage → NewLine
row loan o s = record { loan = loan; object = o; stage = s }

-- the lines of an agreement, and of agreements, at these stages
abbrev lines_at : Museum → (List ℕ → ℕ → LineStage) → Agreement → List NewLine
lines_at S f t = map (λ o. row t.loan o (f t.loan o)) (objects_of S t)

abbrev all_at : Museum → (List ℕ → ℕ → LineStage) → List Agreement → List NewLine
all_at S f ts = flat_map (lines_at S f) ts

-- these stages, with one line at another stage
abbrev set : (List ℕ → ℕ → LineStage) → List ℕ → ℕ → LineStage → List ℕ → ℕ → LineStage
set f loan o s l y = if bytes_eq loan l && (o == y) then s else f l y

equal_is : (a b : List ℕ) → bytes_eq a b ≡ true → a ≡ b
equal_is a b e = (bytes_eq-Decides a b).0 e

number_is : (a b : ℕ) → (a == b) ≡ true → a ≡ b
number_is a b e = grind (arith, nat_tests)

-- if r and q have the same key and s has another, the keys of r and s differ
pub same_apart : (r q s : NewLine) → has_same_key r q ≡ true → has_same_key q s ≡ false
    → has_same_key r s ≡ false
same_apart r q s = λ same. by (bytes_eq r.loan q.loan) (r.object == q.object) refl refl same
  where
    by : (a b : Bool) → bytes_eq r.loan q.loan ≡ a → (r.object == q.object) ≡ b → (a && b) ≡ true
        → has_same_key q s ≡ false → has_same_key r s ≡ false
    by true true h k both apart =
        subst (λ o. (bytes_eq r.loan s.loan && (o == s.object)) ≡ false)
        (sym (number_is r.object q.object k))
        (subst (λ l. (bytes_eq l s.loan && (q.object == s.object)) ≡ false)
        (sym (equal_is r.loan q.loan h)) apart)
    by true false h k both apart = absurd (false≢true both)
    by false b h k both apart = absurd (false≢true both)

same_turned : (r q : NewLine) → has_same_key r q ≡ false → has_same_key q r ≡ false
same_turned r q = by (bytes_eq r.loan q.loan) refl
  where
    by : (a : Bool) → bytes_eq r.loan q.loan ≡ a → (a && (r.object == q.object)) ≡ false
        → has_same_key q r ≡ false
    by true h apart =
        let loans : bytes_eq q.loan r.loan ≡ true =
        (bytes_eq-Decides q.loan r.loan).1 (sym (equal_is r.loan q.loan h)) in
        let numbers : (q.object == r.object) ≡ false = grind (arith, nat_tests) in
        rw (loans, numbers) refl
    by false h apart = rw (apart_sym r.loan q.loan h) refl

module _ (S : Museum) where
  -- replacing a line's row sets its stage
  one_set : (f : List ℕ → ℕ → LineStage) (loan : List ℕ) (o : ℕ) (s : LineStage) (l : List ℕ)
      (y : ℕ) → replaced has_same_key (row loan o s) (row l y (f l y))
      ≡ row l y (set f loan o s l y)
  one_set f loan o s l y = by (bytes_eq loan l) (o == y) refl refl
    where
      by : (a b : Bool) → bytes_eq loan l ≡ a → (o == y) ≡ b
          → (if a && b then row loan o s else row l y (f l y))
          ≡ row l y (if a && b then s else f l y)
      by true true h k = ap (λ m. row m o s) (equal_is loan l h) ∙ ap (λ n. row l n s)
          (number_is o y k)
      by true false h k = refl
      by false b h k = refl

  all_set : (f : List ℕ → ℕ → LineStage) (loan : List ℕ) (o : ℕ) (s : LineStage)
      (ts : List Agreement) → map (replaced has_same_key (row loan o s)) (all_at S f ts)
      ≡ all_at S (set f loan o s) ts
  all_set f loan o s ts =
      map-flat_map (replaced has_same_key (row loan o s)) (lines_at S f) ts
      ∙ flat_map_same_on _ _ (λ t. map-map (replaced has_same_key (row loan o s))
      (λ y. row t.loan y (f t.loan y)) (objects_of S t) ∙ map_same _ _
      (one_set f loan o s t.loan) (objects_of S t)) ts

  -- no line of another loan is a line of this one
  other_loans : (loan : List ℕ) (ts : List Agreement) → find (λ u. bytes_eq loan u.loan) ts ≡ None
      → AllByRecursion (λ u. bytes_eq loan u.loan ≡ false) ts
  other_loans loan [] none = tt
  other_loans loan (t ∷ ts) none =
      elim (bytes_eq loan t.loan) as (λ b. cond b (Some t) (find (λ u. bytes_eq loan u.loan) ts)
      ≡ None → (b ≡ false) × AllByRecursion (λ u. bytes_eq loan u.loan ≡ false) ts) [
        | true ↦ λ h. absurd (none-some _ (sym h))
        | false ↦ λ h. (refl, other_loans loan ts h)
      ] none

  free_of : (f : List ℕ → ℕ → LineStage) (loan : List ℕ) (o : ℕ) (s : LineStage)
      (ts : List Agreement) → find (λ u. bytes_eq loan u.loan) ts ≡ None
      → IsFree has_same_key (row loan o s) (all_at S f ts)
  free_of f loan o s ts none =
      let Free : NewLine → Type 0 = λ q. has_same_key (row loan o s) q ≡ false in
      all-flat_map Free (lines_at S f) ts
      (all_weaker (λ u. bytes_eq loan u.loan ≡ false)
      (λ u. AllByRecursion Free (lines_at S f u))
      (λ u apart. all-map Free (λ y. row u.loan y (f u.loan y)) (λ y. rw apart refl)
      (objects_of S u)) ts (other_loans loan ts none))

  -- the lines of an agreement are apart
  free_in : (f : List ℕ → ℕ → LineStage) (loan : List ℕ) (o : ℕ) (s : LineStage) (os : List ℕ)
      → is_among o os ≡ false → IsFree has_same_key (row loan o s)
      (map (λ y. row loan y (f loan y)) os)
  free_in f loan o s [] apart = tt
  free_in f loan o s (y ∷ os) apart =
      let both = or_parts (y == o) (is_among o os) apart in
      let first : (y == o) ≡ false = both.0 in
      let numbers : (o == y) ≡ false = grind (arith, nat_tests) in
      let loans : bytes_eq loan loan ≡ true = (bytes_eq-Decides loan loan).1 refl in
      (rw (loans, numbers) refl, free_in f loan o s os both.1)

  once_in : (f : List ℕ → ℕ → LineStage) (loan : List ℕ) (os : List ℕ) → numbers.AreOnce os
      → AreOnce has_same_key (map (λ y. row loan y (f loan y)) os)
  once_in f loan [] once = tt
  once_in f loan (o ∷ os) once = (free_in f loan o (f loan o) os once.0, once_in f loan os once.1)

  once_at : (f : List ℕ → ℕ → LineStage) (ts : List Agreement) → AreApart ts
      → AllByRecursion (λ t. numbers.AreOnce (objects_of S t)) ts
      → AreOnce has_same_key (all_at S f ts)
  once_at f [] apart once = tt
  once_at f (t ∷ ts) (other, apart) (one, once) =
      ascending-append (λ r q. has_same_key r q ≡ false) (lines_at S f t) (all_at S f ts)
      (once_in f t.loan (objects_of S t) one) (once_at f ts apart once)
      (all-map (λ r. IsFree has_same_key r (all_at S f ts)) (λ o. row t.loan o (f t.loan o))
      (λ o. free_of f t.loan o (f t.loan o) ts other) (objects_of S t))

  -- a listed object has a line
  has_in : (f : List ℕ → ℕ → LineStage) (loan : List ℕ) (o : ℕ) (s : LineStage) (os : List ℕ)
      → is_among o os ≡ true → list_any (has_same_key (row loan o s))
      (map (λ y. row loan y (f loan y)) os) ≡ true
  has_in f loan o s [] there = absurd (false≢true there)
  has_in f loan o s (y ∷ os) there =
      let loans : bytes_eq loan loan ≡ true = (bytes_eq-Decides loan loan).1 refl in
      rw loans (elim (y == o) as (λ b. (y == o) ≡ b → (b || is_among o os) ≡ true
      → ((o == y) || list_any (has_same_key (row loan o s))
      (map (λ z. row loan z (f loan z)) os)) ≡ true) [
        | true ↦ λ e h. let same : (o == y) ≡ true = grind (arith, nat_tests) in rw same refl
        | false ↦ λ e h. let other : (o == y) ≡ false = grind (arith, nat_tests) in
            rw other (has_in f loan o s os h)
      ] refl there)

  has_at : (f : List ℕ → ℕ → LineStage) (loan : List ℕ) (o : ℕ) (s : LineStage)
      (ts : List Agreement)
      → is_among o (option_map_or (objects_of S) (find (λ u. bytes_eq loan u.loan) ts) []) ≡ true
      → list_any (has_same_key (row loan o s)) (all_at S f ts) ≡ true
  has_at f loan o s [] there = absurd (false≢true there)
  has_at f loan o s (t ∷ ts) there =
      list_any-append (has_same_key (row loan o s)) (lines_at S f t) (all_at S f ts)
      ∙ (elim (bytes_eq loan t.loan) as (λ b. bytes_eq loan t.loan ≡ b
      → is_among o (option_map_or (objects_of S)
      (cond b (Some t) (find (λ u. bytes_eq loan u.loan) ts)) []) ≡ true
      → (list_any (has_same_key (row loan o s)) (lines_at S f t) || list_any
      (has_same_key (row loan o s)) (all_at S f ts)) ≡ true) [
        | true ↦ λ e h. let here : list_any (has_same_key (row loan o s)) (lines_at S f t) ≡ true =
            subst (λ l. list_any (has_same_key (row l o s)) (lines_at S f t) ≡ true)
            (sym (equal_is loan t.loan e)) (has_in f t.loan o s (objects_of S t) h) in rw here refl
        | false ↦ λ e h. right (list_any (has_same_key (row loan o s)) (lines_at S f t))
            (list_any (has_same_key (row loan o s)) (all_at S f ts)) (has_at f loan o s ts h)
      ] refl there)
    where
      right : (a b : Bool) → b ≡ true → (a || b) ≡ true
      right true b h = refl
      right false b h = h

-- the lines of listed objects get their stage
pub put_crossed : (S : Museum) (ts : List Agreement) (loan : List ℕ) (s : LineStage) (f g : List ℕ
    → ℕ → LineStage) (os : List ℕ) → AreApart ts
    → AllByRecursion (λ t. numbers.AreOnce (objects_of S t)) ts
    → AllByRecursion (λ o. is_among o
    (option_map_or (objects_of S) (find (λ u. bytes_eq loan u.loan) ts) []) ≡ true) os
    → ((l : List ℕ) (y : ℕ) → g l y ≡ (if bytes_eq loan l && is_among y os then s else f l y))
    → IsPermutation (all_at S g ts)
    (put_each has_same_key (map (λ o. row loan o s) os) (all_at S f ts))
put_crossed S ts loan s f g [] apart once listed is =
    IsPermutation-same _ _ (flat_map_same_on _ _
    (λ t. map_same _ _ (λ o. ap (row t.loan o)
    (is t.loan o ∙ none (bytes_eq loan t.loan) s (f t.loan o))) (objects_of S t)) ts)
  where
    none : (b : Bool) (x y : LineStage) → (if b && false then x else y) ≡ y
    none true x y = refl
    none false x y = refl
put_crossed S ts loan s f g (o ∷ os) apart once (here, listed) is =
    IsPermutation-trans _ _ _
    (put_crossed S ts loan s (set f loan o s) g os apart once listed
    (λ l y. is l y ∙ later (bytes_eq loan l) (o == y) (is_among y os) s (f l y)))
    (put_each_same has_same_key (map (λ o. row loan o s) os) _ _
    (subst (λ rows. IsPermutation rows (put has_same_key (row loan o s) (all_at S f ts)))
    (all_set S f loan o s ts)
    (put_replaces has_same_key same_apart (row loan o s) (all_at S f ts) (once_at S f ts apart once)
    (has_at S f loan o s ts here))))
  where
    later : (a b c : Bool) (x y : LineStage)
        → (if a && (b || c) then x else y) ≡ (if a && c then x else (if a && b then x else y))
    later true true true x y = refl
    later true true false x y = refl
    later true false true x y = refl
    later true false false x y = refl
    later false b c x y = refl

-- new lines are added
put_agreed : (ls rows : List NewLine) → AreOnce has_same_key ls
    → AllByRecursion (λ l. IsFree has_same_key l rows) ls
    → IsPermutation (rows ++ ls) (put_each has_same_key ls rows)
put_agreed [] rows once free = IsPermutation-same _ _ (append-nil rows)
put_agreed (l ∷ ls) rows once (first, free) =
    let new = put_new has_same_key l rows first in
    let more : AllByRecursion (λ k. IsFree has_same_key k (l ∷ rows)) ls = both ls once.0 free in
    IsPermutation-trans _ _ _ (IsPermutation-middle rows l ls)
    (subst (λ k. IsPermutation (l ∷ (rows ++ ls)) (put_each has_same_key ls k)) (sym new)
    (put_agreed ls (l ∷ rows) once.1 more))
  where
    both : (ks : List NewLine) → AllByRecursion (λ k. has_same_key l k ≡ false) ks
        → AllByRecursion (λ k. IsFree has_same_key k rows) ks
        → AllByRecursion (λ k. IsFree has_same_key k (l ∷ rows)) ks
    both [] a b = tt
    both (k ∷ ks) (apart, a) (clear, b) = ((same_turned l k apart, clear), both ks a b)

objects_once : (S : Museum) (depth : ℕ) (P : List Entry) → IsLawful S depth P
    → AllByRecursion (λ t. numbers.AreOnce (objects_of S t)) (agreements P)
objects_once S depth P lawful =
    all_weaker (IsSound S) (λ t. numbers.AreOnce (objects_of S t))
    (λ t sound. numbers_once S t.objects sound.known sound.once) (agreements P)
    (agreements_sound S depth P lawful)

-- no line is repeated
pub lines_once : (S : Museum) (depth : ℕ) (P : List Entry) → IsLawful S depth P
    → AreOnce has_same_key (lines_by_loan S P)
lines_once S depth P lawful = once_at S (stage S P) (agreements P)
    (agreements_apart S depth P lawful) (objects_once S depth P lawful)

-- the stages after a message; the flag is whether the message is applied
abbrev stage_after : Museum → List Entry → Bool → Message → List ℕ → ℕ → LineStage
stage_after S P b m l o = option_map_or (λ s. s) (if b then stage_by S P m l o else None)
    (stage S P l o)

abbrev lines_after : Museum → List Entry → Bool → Message → List NewLine
lines_after S P b m = all_at S (stage_after S P b m)
    (agreements P ++ option_to_list (if b then agreement_in m else None))

-- the objects that cross are listed
all_listed : (S : Museum) (P : List Entry) (loan : List ℕ) (os : List ℕ)
    → list_any (λ o. not (is_listed S P loan o)) os ≡ false
    → AllByRecursion (λ o. is_among o (objects S P loan) ≡ true) os
all_listed S P loan [] none = tt
all_listed S P loan (o ∷ os) none =
    let both = or_parts (not (is_listed S P loan o))
    (list_any (λ y. not (is_listed S P loan y)) os) none in (
      there (is_among o (objects S P loan)) (stage S P loan o)
          (not-false (is_listed S P loan o) both.0),
      all_listed S P loan os both.1,
    )
  where
    there : (b : Bool) (s : LineStage) → is_some (if b then Some s else None) ≡ true → b ≡ true
    there true s h = refl
    there false s h = absurd (false≢true h)

crossed : (S : Museum) (depth : ℕ) (P : List Entry) (m : Message) (c : Crossing)
    → IsLawful S depth P → crossing_in m ≡ Some c → agreement_in m ≡ None
    → carries_unlisted S P c ≡ false
    → IsPermutation (lines_after S P true m)
    (put_each has_same_key (lines_of_crossing S P c) (lines_by_loan S P))
crossed S depth P m c lawful is none listed =
    let os = objects_in S P c.thing in
    let same : agreements P ++ option_to_list (agreement_in m) ≡ agreements P =
    ap (λ o. agreements P ++ option_to_list o) none ∙ append-nil (agreements P) in
    subst (λ ts. IsPermutation (all_at S (stage_after S P true m) ts)
    (put_each has_same_key (lines_of_crossing S P c) (lines_by_loan S P))) (sym same)
    (put_crossed S (agreements P) c.loan c.stage (stage S P) (stage_after S P true m) os
    (agreements_apart S depth P lawful) (objects_once S depth P lawful)
    (all_listed S P c.loan os listed)
    (λ l y. rw is (each (bytes_eq c.loan l && is_among y os) c.stage (stage S P l y))))
  where
    each : (b : Bool) (x y : LineStage)
        → option_map_or (λ s. s) (if b then Some x else None) y ≡ (if b then x else y)
    each true x y = refl
    each false x y = refl

agreed : (S : Museum) (depth : ℕ) (P : List Entry) (m : Message) (t : Agreement)
    → IsLawful S depth P → verdict S depth P m ≡ Applied → agreement_in m ≡ Some t
    → crossing_in m ≡ None
    → IsPermutation (lines_after S P true m)
    (put_each has_same_key (lines_of_agreement S t) (lines_by_loan S P))
agreed S depth P m t lawful applied is none =
    let new = agree_applied S depth P m t applied is in
    let before = untouched S depth P t.loan lawful new.0 in
    let f : List ℕ → ℕ → LineStage = stage S P in
    let sound : IsSound S t = new.1 in
    let once : AreOnce has_same_key (lines_of_agreement S t) =
    once_in S (λ l o. Awaiting) t.loan (objects_of S t)
    (numbers_once S t.objects sound.known sound.once) in
    let free : AllByRecursion (λ l. IsFree has_same_key l (lines_by_loan S P))
    (lines_of_agreement S t) =
    all-map (λ l. IsFree has_same_key l (lines_by_loan S P)) (λ o. row t.loan o Awaiting)
    (λ o. free_of S f t.loan o Awaiting (agreements P) new.0) (objects_of S t) in
    let old : lines_after S P true m ≡ all_at S f (agreements P ++ t ∷ []) =
    ap (λ o. all_at S (stage_after S P true m) (agreements P ++ option_to_list o)) is
    ∙ flat_map_same_on _ _ (λ u. map_same _ _ (λ o. ap (row u.loan o) (same_stage u.loan o))
    (objects_of S u)) (agreements P ++ t ∷ []) in
    let awaited : lines_at S f t ≡ lines_of_agreement S t =
    map_same _ _ (λ o. ap (row t.loan o) (before.awaited o)) (objects_of S t) in
    subst (λ l. IsPermutation l (put_each has_same_key (lines_of_agreement S t)
    (lines_by_loan S P)))
    (sym (old ∙ last (agreements P) ∙ ap (λ l. all_at S f (agreements P) ++ l) awaited))
    (put_agreed (lines_of_agreement S t) (lines_by_loan S P) once free)
  where
    same_stage : (l : List ℕ) (o : ℕ) → stage_after S P true m l o ≡ stage S P l o
    same_stage l o = rw none refl

    last : (ts : List Agreement) → all_at S (stage S P) (ts ++ t ∷ []) ≡ all_at S (stage S P) ts
        ++ lines_at S (stage S P) t
    last [] = append-nil (lines_at S (stage S P) t)
    last (u ∷ ts) = ap (λ l. lines_at S (stage S P) u ++ l) (last ts)
        ∙ sym (append_assoc (lines_at S (stage S P) u) (all_at S (stage S P) ts)
        (lines_at S (stage S P) t))

-- any other message leaves the lines as they were
other : (S : Museum) (P : List Entry) (b : Bool) (m : Message)
    → (if b then agreement_in m else None) ≡ None → (if b then crossing_in m else None) ≡ None
    → lines_after S P b m ≡ lines_by_loan S P
other S P true m none still =
    ap (λ o. all_at S (stage_after S P true m) (agreements P ++ option_to_list o)) none
    ∙ ap (all_at S (stage_after S P true m)) (append-nil (agreements P)) ∙ flat_map_same_on _ _
    (λ u. map_same _ _ (λ o. ap (row u.loan o) (rw still refl)) (objects_of S u)) (agreements P)
other S P false m none still = ap (all_at S (stage_after S P false m)) (append-nil (agreements P))

applied_lines : (S : Museum) (depth : ℕ) (P : List Entry) (m : Message) → IsLawful S depth P
    → verdict S depth P m ≡ Applied
    → IsPermutation (lines_after S P true m)
    (put_each has_same_key (new_lines S P m) (lines_by_loan S P))
applied_lines S depth P (Move day x p) lawful h =
    IsPermutation-same _ _ (other S P true (Move day x p) refl refl)
applied_lines S depth P (Pack day x c) lawful h =
    IsPermutation-same _ _ (other S P true (Pack day x c) refl refl)
applied_lines S depth P (Agree first final loan partner objects) lawful h =
    agreed S depth P (Agree first final loan partner objects)
    (record { loan = loan; partner = partner; objects = objects; first = first; last = final })
    lawful h refl refl
applied_lines S depth P (Authorise name loan) lawful h =
    IsPermutation-same _ _ (other S P true (Authorise name loan) refl refl)
applied_lines S depth P (Exit day x loan) lawful h =
    crossed S depth P (Exit day x loan) (exit_of x loan) lawful refl refl
    (none_holds (exit_rows S P x loan day) refl h).1.1.1.1.1.0
applied_lines S depth P (Return day x loan p) lawful h =
    crossed S depth P (Return day x loan p)
    (record { thing = x; loan = loan; wanted = Away; stage = Back }) lawful refl refl
    (none_holds (return_rows S P x loan p) refl h).1.1.1.1.1.1.1.0
applied_lines S depth P (Receive day x loan p) lawful h =
    crossed S depth P (Receive day x loan p)
    (record { thing = x; loan = loan; wanted = Awaiting; stage = Here }) lawful refl refl
    (none_holds (receive_rows S P x loan p day) refl h).1.1.1.1.1.1.1.1.0
applied_lines S depth P (SignOff name) lawful h =
    IsPermutation-same _ _ (other S P true (SignOff name) refl refl)
applied_lines S depth P (Extend day loan) lawful h =
    IsPermutation-same _ _ (other S P true (Extend day loan) refl refl)

-- the lines after an entry
next_lines : (S : Museum) (depth : ℕ) (P : List Entry) (e : Entry) → Follows S depth P e
    → IsLawful S depth P
    → IsPermutation (lines_by_loan S (e ∷ P))
    (put_each has_same_key (if is_applied e.verdict then new_lines S P e.message else [])
    (lines_by_loan S P))
next_lines S depth P e follows lawful =
    elim (is_applied e.verdict) as (λ b. is_applied e.verdict ≡ b
    → IsPermutation (lines_after S P b e.message)
    (put_each has_same_key (if b then new_lines S P e.message else []) (lines_by_loan S P))) [
      | true ↦ λ h. applied_lines S depth P e.message lawful
          (sym follows.judged ∙ applied_is e.verdict h)
      | false ↦ λ h. IsPermutation-same _ _ (other S P false e.message refl refl)
    ] refl

-- the row of a line has the line's key
pub keyed_rows : (l k : NewLine) → is_same_line (line_row l) (line_row k) ≡ has_same_key l k
keyed_rows l k = ap (λ b. bytes_eq l.loan k.loan && b) (same_number l.object k.object)
  where
    same_number : (a b : ℕ) → int_eq (pos a) (pos b) ≡ (a == b)
    same_number a b = grind (arith, nat_tests)

-- and the rows of the lines
pub next_line_rows : (S : Museum) (depth : ℕ) (P : List Entry) (e : Entry) (rows : List LineRow)
    → Follows S depth P e → IsLawful S depth P → IsPermutation (rows_of_lines S P) rows
    → IsPermutation (rows_of_lines S (e ∷ P))
    (put_each is_same_line
    (map line_row (if is_applied e.verdict then new_lines S P e.message else [])) rows)
next_line_rows S depth P e rows follows lawful same =
    let new = if is_applied e.verdict then new_lines S P e.message else [] in
    IsPermutation-trans _ _ _
    (subst (IsPermutation (rows_of_lines S (e ∷ P)))
    (put_mapped has_same_key is_same_line line_row keyed_rows new (lines_by_loan S P))
    (IsPermutation-map line_row _ _ (next_lines S depth P e follows lawful)))
    (put_each_same is_same_line (map line_row new) (rows_of_lines S P) rows same)
