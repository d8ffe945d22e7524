-- The row that is kept of a loan answers as looking back does.
use Rattle.std.specs.Prelude.{ℕ, ◌≡◌, ◌==◌, ◌||◌, Bool, true, false, cond, zero, suc, List, [], ◌∷◌}
use Rattle.std.specs.Prelude.{Option, None, Some, map, refl, is_some, if◌then◌else◌, slice_get}
use Rattle.std.specs.Prelude.{nat_eq, IfSome, IfOk, Result}
use Rattle.std.specs.List.{find, position}
use Rattle.std.specs.Option.{option_map, option_map_or, option_and_then}
use Rattle.std.specs.Str.{bytes_eq}
use Rattle.std.proofs.Common.{ap, ◌∙◌, sym, subst, arith}
use Rattle.std.proofs.lemmas.Bool.Decides.{nat_tests}
use Rattle.std.proofs.lemmas.Option.{slice_get-map, none-some}
use Rattle.std.proofs.Math.Path.{fun_ext}
use Rattle.codes_core.specs.declared.fault.NoMemory.{NoMemory}
use Rattle.std.proofs.lemmas.Slice.Eq.{bytes_eq-Decides}
use Rattle.nest_core.specs.Museum.{Museum}
use Rattle.nest_core.specs.Puts.{is_among}
use Rattle.posting_core.specs.declared.entry.Entry.{Entry}
use Rattle.posting_core.specs.declared.stage.LineStage.{LineStage}
use Rattle.posting_core.specs.declared.verdict.Verdict.{Verdict}
use Rattle.posting_core.specs.Messages.{place_no}
use Rattle.posting_core.specs.Agreements.{Agreement, agreements, agreement, loans, is_agreed}
use Rattle.posting_core.specs.Agreements.{is_authorised, last_day, last_from}
use Rattle.posting_core.specs.Loans.{stage, objects_of, objects, line, loan_state, state_by}
use Rattle.posting_core.specs.Verdicts.{first_of, line_rows}
use Rattle.posting_core.specs.Lawful.{IsLawful}
use Rattle.posting_core.specs.LoanRows.{LoanRow, loan_row, loan_rows, line_of, state_of}
use Rattle.posting_core.proofs.Agreed.{AreApart, agreements_apart, found_is}
use Rattle.posting_core.proofs.Among.{position_cons, eq_sym}

find_map : (f : Agreement → LoanRow) (loan : List ℕ) (ts : List Agreement)
    → ((t : Agreement) → (f t).loan ≡ t.loan) →
    find (λ row. bytes_eq loan row.loan) (map f ts) ≡ option_map f
    (find (λ t. bytes_eq loan t.loan) ts)
find_map f loan [] named = refl
find_map f loan (t ∷ ts) named =
    ap (λ l. cond (bytes_eq loan l) (Some (f t)) (find (λ row. bytes_eq loan row.loan) (map f ts)))
    (named t)
    ∙ (elim (bytes_eq loan t.loan) as
    (λ b. cond b (Some (f t)) (find (λ row. bytes_eq loan row.loan) (map f ts)) ≡ option_map f
    (cond b (Some t) (find (λ u. bytes_eq loan u.loan) ts))) [
      | true ↦ refl
      | false ↦ find_map f loan ts named
    ])

-- the member at an object's position, in a list made from the objects, is made from that object
line_found : (f : ℕ → LineStage) (o : ℕ) (os : List ℕ)
    → option_and_then (slice_get (map f os)) (position (nat_eq o) os)
    ≡ (if is_among o os then Some (f o) else None)
line_found f o [] = refl
line_found f o (y ∷ os) = rw (position_cons (nat_eq o) y os, eq_sym o y)
    (elim (y == o) as (λ b. (y == o) ≡ b →
    option_and_then (slice_get (f y ∷ map f os))
    (if b then Some zero else option_map suc (position (nat_eq o) os))
    ≡ (if b || is_among o os then Some (f o) else None)) [
      | true ↦ λ e. let same : y ≡ o = grind (arith, nat_tests) in ap (λ z. Some (f z)) same
      | false ↦ λ e. later (position (nat_eq o) os) ∙ line_found f o os
    ] refl)
  where
    later : (i : Option ℕ) → option_and_then (slice_get (f y ∷ map f os)) (option_map suc i)
        ≡ option_and_then (slice_get (map f os)) i
    later None = refl
    later (Some k) = refl

-- the kept row of a loan is its row by looking back
pub record IsRowOf (S : Museum) (P : List Entry) (loan : List ℕ) (row : LoanRow) : Type 0 where
  pub authorised : row.authorised ≡ is_authorised P loan
  pub last : last_day P loan ≡ Some row.last
  pub partner : option_map (λ t. place_no S t.partner) (agreement P loan) ≡ Some row.partner
  pub lines : (o : ℕ) → line_of row o ≡ line S P loan o
  pub state : loan_state S P loan ≡ Some (state_of row)

pub row_is : (S : Museum) (P : List Entry) (loan : List ℕ) (rows : List LoanRow)
    (r : Option LoanRow) → rows ≡ loan_rows S P → r ≡ find (λ row. bytes_eq loan row.loan) rows →
    (is_some r ≡ is_agreed P loan) × IfSome r (IsRowOf S P loan)
row_is S P loan rows r kept is =
    subst (λ o. (is_some o ≡ is_agreed P loan) × IfSome o (IsRowOf S P loan))
    (sym (is ∙ ap (find (λ row. bytes_eq loan row.loan)) kept ∙ find_map (loan_row S P) loan
    (agreements P) (λ t. refl)))
    (found (agreement P loan) refl)
  where
    found : (o : Option Agreement) → agreement P loan ≡ o
        → (is_some (option_map (loan_row S P) o) ≡ is_agreed P loan)
        × IfSome (option_map (loan_row S P) o) (IsRowOf S P loan)
    found None e = (sym (ap is_some e), tt)
    found (Some t) e =
        let same : loan ≡ t.loan = found_is loan (agreements P) t e in (
          sym (ap is_some e),
          record {
            authorised = ap (is_authorised P) (sym same);
            last = rw e (ap (λ l. Some (last_from P l t.last)) same);
            partner = rw e refl;
            lines = λ o. line_found (stage S P t.loan) o (objects_of S t)
                ∙ rw e (ap (λ l. if is_among o (objects_of S t) then Some (stage S P l o) else None)
                (sym same));
            state = rw e
                (ap (λ l. Some (state_by (is_authorised P l) (map (stage S P l) (objects_of S t))))
                same);
          },
        )

-- a crossing is judged by the loan's row as by looking back
pub judged_by_row : (S : Museum) (P : List Entry) (loan : List ℕ) (row : LoanRow) (os : List ℕ)
    (wanted : LineStage) (late : Bool) (r : Result Verdict NoMemory)
    → ((o : ℕ) → line_of row o ≡ line S P loan o) →
    IfOk r (λ v. v ≡ first_of (line_rows (line_of row) wanted os late))
    → IfOk r (λ v. v ≡ first_of (line_rows (line S P loan) wanted os late))
judged_by_row S P loan row os wanted late r same h =
    subst (λ (lines : ℕ → Option LineStage). IfOk r
    (λ v. v ≡ first_of (line_rows lines wanted os late))) (fun_ext same) h

-- a loan that isn't agreed has no row
pub row_missing : (S : Museum) (P : List Entry) (rows : List LoanRow) (loan : List ℕ)
    → rows ≡ loan_rows S P → agreement P loan ≡ None
    → find (λ row. bytes_eq loan row.loan) rows ≡ None
row_missing S P rows loan kept unknown =
    ap (find (λ row. bytes_eq loan row.loan)) kept ∙ find_map (loan_row S P) loan (agreements P)
    (λ t. refl) ∙ ap (option_map (loan_row S P)) unknown

-- the codes of the rows
pub codes_told : (S : Museum) (P : List Entry) → map (λ row. row.loan) (loan_rows S P) ≡ loans P
codes_told S P = each (agreements P)
  where
    each : (ts : List Agreement) → map (λ row. row.loan) (map (loan_row S P) ts)
        ≡ map (λ t. t.loan) ts
    each [] = refl
    each (t ∷ ts) = ap (λ codes. t.loan ∷ codes) (each ts)

-- the loans by number
pub code_at : (S : Museum) (P : List Entry) (rows : List LoanRow) (i : ℕ) (row : LoanRow)
    → rows ≡ loan_rows S P → slice_get rows i ≡ Some row → slice_get (loans P) i ≡ Some row.loan
code_at S P rows i row kept at =
    slice_get-map (λ (t : Agreement). t.loan) (agreements P) i
    ∙ (elim (slice_get (agreements P) i) as (λ o. option_map (loan_row S P) o ≡ Some row
    → option_map (λ t. t.loan) o ≡ Some row.loan) [
      | None ↦ λ e. absurd (none-some _ e)
      | Some t ↦ λ e. ap (option_map (λ r. r.loan)) e
    ] (sym (slice_get-map (loan_row S P) (agreements P) i)
    ∙ sym (ap (λ rs. slice_get rs i) kept) ∙ at))

found_at : (ts : List Agreement) (i : ℕ) (t : Agreement) → AreApart ts → slice_get ts i ≡ Some t
    → find (λ u. bytes_eq t.loan u.loan) ts ≡ Some t
found_at [] i t apart e = absurd (none-some _ e)
found_at (u ∷ ts) zero t apart e = let same : u ≡ t = cc in
    subst (λ v. cond (bytes_eq v.loan u.loan) (Some u) (find (λ w. bytes_eq v.loan w.loan) ts)
    ≡ Some v) same (rw ((bytes_eq-Decides u.loan u.loan).1 refl) refl)
found_at (u ∷ ts) (suc i) t (other, apart) e =
    elim (bytes_eq t.loan u.loan) as (λ b. bytes_eq t.loan u.loan ≡ b
    → cond b (Some u) (find (λ w. bytes_eq t.loan w.loan) ts) ≡ Some t) [
      | true ↦ λ h. let same : t.loan ≡ u.loan = (bytes_eq-Decides t.loan u.loan).0 h in
          let there = found_at ts i t apart e in
          absurd (none-some _ (sym other ∙ ap (λ l. find (λ w. bytes_eq l w.loan) ts)
          (sym same) ∙ there))
      | false ↦ λ h. found_at ts i t apart e
    ] refl

pub objects_at : (S : Museum) (depth : ℕ) (P : List Entry) (rows : List LoanRow) (i : ℕ)
    (row : LoanRow) → IsLawful S depth P → rows ≡ loan_rows S P → slice_get rows i ≡ Some row →
    option_map (objects S P) (slice_get (loans P) i) ≡ Some row.objects
objects_at S depth P rows i row lawful kept at =
    ap (option_map (objects S P)) (slice_get-map (λ (t : Agreement). t.loan) (agreements P) i)
    ∙ (elim (slice_get (agreements P) i) as (λ o. slice_get (agreements P) i ≡ o
    → option_map (loan_row S P) o ≡ Some row
    → option_map (objects S P) (option_map (λ t. t.loan) o) ≡ Some row.objects) [
      | None ↦ λ h e. absurd (none-some _ e)
      | Some t ↦ λ h e. ap (λ o. Some (option_map_or (objects_of S) o []))
          (found_at (agreements P) i t (agreements_apart S depth P lawful) h)
          ∙ ap (option_map (λ r. r.objects)) e
    ] refl (sym (slice_get-map (loan_row S P) (agreements P) i)
    ∙ sym (ap (λ rs. slice_get rs i) kept) ∙ at))
