-- The rows of lines and of last days, loan by loan, as a ledger lists them.
use Rattle.std.specs.Prelude.{ℕ, ℤ, ◌≡◌, ◌||◌, ◌==◌, ◌+◌, zero, suc, Bool, true, false, cond, List}
use Rattle.std.specs.Prelude.{[], ◌∷◌, ◌++◌, map, drop, slice_get, Option, None, Some}
use Rattle.std.specs.Prelude.{if◌then◌else◌, refl}
use Rattle.std.proofs.Common.{ap, sym, subst, ◌∙◌, arith, add-one}
use Rattle.std.specs.List.{find, flat_map, AllByRecursion, IsDistinct}
use Rattle.std.specs.Map.{keys_of}
use Rattle.std.specs.Option.{option_map, option_map_or, option_to_list}
use Rattle.std.specs.Str.{bytes_eq}
use Rattle.std.proofs.lemmas.Bool.Decides.{nat_tests}
use Rattle.std.proofs.lemmas.List.{append_assoc}
use Rattle.std.proofs.lemmas.Option.{none-some}
use Rattle.std.proofs.lemmas.Slice.Eq.{bytes_eq-Decides}
use Rattle.nest_core.specs.Museum.{Museum}
use Rattle.nest_core.specs.Puts.{is_among}
use Rattle.posting_core.specs.declared.entry.Entry.{Entry}
use Rattle.posting_core.specs.declared.stage.LineStage.{LineStage}
use Rattle.posting_core.specs.Agreements.{Agreement, agreement, agreements, last_from}
use Rattle.posting_core.specs.Book.{Book, loans_in, objects_of_loan}
use Rattle.posting_core.specs.Lawful.{IsLawful}
use Rattle.posting_core.specs.Loans.{line, objects_of, stage}
use Rattle.posting_core.proofs.Agreed.{AreApart, agreements_apart, apart_sym}
use Rattle.register_store.specs.declared.loan_rows.LineKey.{LineKey}
use Rattle.register_store.specs.contracts.loan_rows.LineKeyPartialEq.TheImpl.{ghosts}
use Rattle.register_store.specs.Plain.{has_same_key, held_lines, term_rows, lines_of_loan}
use Rattle.register_store.specs.Plain.{day_of_loan}
use Rattle.register_store.specs.StoredRows.{is_same_loan, lines_under, lines_by_loan, rows_of_terms}
use Rattle.register_store.proofs.PutRows.{AreOnce, IsFree}
use Rattle.register_store.proofs.LineRows.{lines_once}
use Rattle.register_store.proofs.TermRows.{terms_once}

at : {X : Type 0} (xs : List X) (i : ℕ) (x : X) → slice_get xs i ≡ Some x
    → drop i xs ≡ x ∷ drop (suc i) xs
at [] i x h = absurd (none-some _ h)
at (y ∷ ys) zero x h = ap (λ z. z ∷ ys) (cc)
at (y ∷ ys) (suc i) x h = at ys i x h

module _ {X : Type 0} where
  -- one more loan's rows
  pub next_loan : (F : List ℕ → List X) (ls : List (List ℕ)) (i : ℕ) (loan : List ℕ)
      (old new added all : List X) → slice_get ls i ≡ Some loan → added ≡ F loan
      → new ≡ old ++ added
      → old ++ flat_map F (drop i ls) ≡ all → new ++ flat_map F (drop (i + 1) ls) ≡ all
  next_loan F ls i loan old new added all there is pushed before =
      let rest : drop i ls ≡ loan ∷ drop (i + 1) ls = rw add-one (at ls i loan there) in
      ap (λ l. l ++ flat_map F (drop (i + 1) ls)) (pushed ∙ ap (λ l. old ++ l) is) ∙ append_assoc
      old (F loan) (flat_map F (drop (i + 1) ls)) ∙ ap (λ l. old ++ flat_map F l)
      (sym rest) ∙ before

-- the objects of a loan, as the ledger lists them
pub told_objects : (B : Book) (ls : List (List ℕ)) (i : ℕ) (loan os : List ℕ)
    → slice_get ls i ≡ Some loan → option_map (objects_of_loan B) (slice_get ls i) ≡ Some os
    → lines_of_loan B loan os ≡ lines_of_loan B loan (objects_of_loan B loan)
told_objects B ls i loan os there told =
    let same : Some (objects_of_loan B loan) ≡ Some os =
    ap (option_map (objects_of_loan B)) (sym there) ∙ told in
    let is : os ≡ objects_of_loan B loan = cc in
    ap (lines_of_loan B loan) is

-- each loan's agreement is its own
own_agreement : (ts : List Agreement) → AreApart ts
    → AllByRecursion (λ t. find (λ u. bytes_eq t.loan u.loan) ts ≡ Some t) ts
own_agreement [] apart = tt
own_agreement (t ∷ ts) (new, apart) = (
  (let itself : bytes_eq t.loan t.loan ≡ true = (bytes_eq-Decides t.loan t.loan).1 refl in rw
      itself refl),
  later ts new (own_agreement ts apart),
)
  where
    later : (us : List Agreement) → find (λ v. bytes_eq t.loan v.loan) us ≡ None
        → AllByRecursion (λ u. find (λ v. bytes_eq u.loan v.loan) ts ≡ Some u) us
        → AllByRecursion (λ u. find (λ v. bytes_eq u.loan v.loan) (t ∷ ts) ≡ Some u) us
    later [] none own = tt
    later (u ∷ us) none (one, more) =
        elim (bytes_eq t.loan u.loan) as (λ b. bytes_eq t.loan u.loan ≡ b
        → cond b (Some u) (find (λ v. bytes_eq t.loan v.loan) us) ≡ None
        → AllByRecursion (λ w. find (λ v. bytes_eq w.loan v.loan) (t ∷ ts) ≡ Some w) (u ∷ us)) [
          | true ↦ λ e h. absurd (none-some _ (sym h))
          | false ↦ λ e h. ((rw (apart_sym t.loan u.loan e) one), later us h more)
        ] refl none

-- each number is in its own list
among_own : (os : List ℕ) → AllByRecursion (λ o. is_among o os ≡ true) os
among_own [] = tt
among_own (o ∷ os) = (
  (let itself : (o == o) ≡ true = grind (arith, nat_tests) in rw itself refl),
  later os (among_own os),
)
  where
    right : (b : Bool) → (b || true) ≡ true
    right true = refl
    right false = refl

    later : (ys : List ℕ) → AllByRecursion (λ y. is_among y os ≡ true) ys
        → AllByRecursion (λ y. is_among y (o ∷ os) ≡ true) ys
    later [] own = tt
    later (y ∷ ys) (one, more) = ((rw one (right (o == y))), later ys more)

module _ (B : Book) where
  abbrev S : Museum
  S = B.museum

  abbrev P : List Entry
  P = B.posted

  told_lines : (t : Agreement) → agreement P t.loan ≡ Some t → (os : List ℕ)
      → AllByRecursion (λ o. is_among o (objects_of S t) ≡ true) os
      → lines_of_loan B t.loan os ≡ map
      (λ o. record { loan = t.loan; object = o; stage = stage S P t.loan o }) os
  told_lines t own [] there = refl
  told_lines t own (o ∷ os) (one, there) =
      let has : line S P t.loan o ≡ Some (stage S P t.loan o) =
      ap (λ a. if is_among o (option_map_or (objects_of S) a []) then Some (stage S P t.loan o) else
      None) own ∙ ap (λ b. if b then Some (stage S P t.loan o) else None) one in
      ap (λ (a : Option LineStage). option_to_list
      (option_map (λ s. record { loan = t.loan; object = o; stage = s }) a) ++ lines_of_loan B
      t.loan os) has
      ∙ ap (λ l. record { loan = t.loan; object = o; stage = stage S P t.loan o } ∷ l)
      (told_lines t own os there)

  all_lines : (ts : List Agreement) → AllByRecursion (λ t. agreement P t.loan ≡ Some t) ts
      → flat_map (λ loan. lines_of_loan B loan (objects_of_loan B loan)) (map (λ t. t.loan) ts)
      ≡ flat_map (lines_under S P) ts
  all_lines [] own = refl
  all_lines (t ∷ ts) (one, own) =
      ap (λ a. lines_of_loan B t.loan (option_map_or (objects_of S) a [])
      ++ flat_map (λ loan. lines_of_loan B loan (objects_of_loan B loan))
      (map (λ t. t.loan) ts)) one
      ∙ ap (λ l. l ++ flat_map (λ loan. lines_of_loan B loan (objects_of_loan B loan))
      (map (λ t. t.loan) ts)) (told_lines t one (objects_of S t) (among_own (objects_of S t)))
      ∙ ap (λ l. lines_under S P t ++ l) (all_lines ts own)

  all_days : (ts : List Agreement) → AllByRecursion (λ t. agreement P t.loan ≡ Some t) ts
      → flat_map (day_of_loan B) (map (λ t. t.loan) ts)
      ≡ map (λ t. record { loan = t.loan; day = last_from P t.loan t.last }) ts
  all_days [] own = refl
  all_days (t ∷ ts) (one, own) =
      ap (λ (a : Option Agreement). option_to_list
      (option_map (λ day. record { loan = t.loan; day = day })
      (option_map (λ u. last_from P t.loan u.last) a)) ++ flat_map (day_of_loan B)
      (map (λ t. t.loan) ts)) one
      ∙ ap (λ l. record { loan = t.loan; day = last_from P t.loan t.last } ∷ l) (all_days ts own)

  pub lines_told : IsLawful S B.depth P
      → flat_map (λ loan. lines_of_loan B loan (objects_of_loan B loan)) (loans_in B)
      ≡ lines_by_loan S P
  lines_told lawful = all_lines (agreements P)
      (own_agreement (agreements P) (agreements_apart S B.depth P lawful))

  pub days_told : IsLawful S B.depth P → flat_map (day_of_loan B) (loans_in B) ≡ rows_of_terms P
  days_told lawful = all_days (agreements P)
      (own_agreement (agreements P) (agreements_apart S B.depth P lawful))

-- if no row is repeated, the keys are distinct
line_keys : (kept : List (LineKey × LineStage)) → AreOnce has_same_key (held_lines kept)
    → IsDistinct (ghosts).eq (keys_of kept)
unfolding IsDistinct
line_keys [] once = tt
line_keys (e ∷ kept) once = (free kept once.0, line_keys kept once.1)
  where
    free : (more : List (LineKey × LineStage))
        → IsFree has_same_key (record { loan = e.0.loan; object = e.0.object; stage = e.1 })
        (held_lines more) → AllByRecursion (λ k. (ghosts).eq e.0 k ≡ false) (keys_of more)
    free [] apart = tt
    free (f ∷ more) (apart, rest) = (apart, free more rest)

term_keys : (kept : List (List ℕ × ℤ)) → AreOnce is_same_loan (term_rows kept)
    → IsDistinct bytes_eq (keys_of kept)
unfolding IsDistinct
term_keys [] once = tt
term_keys (e ∷ kept) once = (free kept once.0, term_keys kept once.1)
  where
    free : (more : List (List ℕ × ℤ))
        → IsFree is_same_loan (record { loan = e.0; day = e.1 }) (term_rows more)
        → AllByRecursion (λ k. bytes_eq e.0 k ≡ false) (keys_of more)
    free [] apart = tt
    free (f ∷ more) (apart, rest) = (apart, free more rest)

pub line_keys_differ : (S : Museum) (depth : ℕ) (P : List Entry) (kept : List (LineKey × LineStage))
    → IsLawful S depth P → held_lines kept ≡ lines_by_loan S P
    → IsDistinct (ghosts).eq (keys_of kept)
line_keys_differ S depth P kept lawful is =
    line_keys kept (subst (AreOnce has_same_key) (sym is) (lines_once S depth P lawful))

pub term_keys_differ : (S : Museum) (depth : ℕ) (P : List Entry) (kept : List (List ℕ × ℤ))
    → IsLawful S depth P → term_rows kept ≡ rows_of_terms P → IsDistinct bytes_eq (keys_of kept)
term_keys_differ S depth P kept lawful is =
    term_keys kept (subst (AreOnce is_same_loan) (sym is) (terms_once S depth P lawful))
