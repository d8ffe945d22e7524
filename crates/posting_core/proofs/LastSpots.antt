-- A thing's last spot is its current place, and no spot is at the place of the one before it.
use Rattle.std.specs.Prelude.{ℕ, ℤ, ◌≡◌, ◌≢◌, ◌+◌, ◌<◌, Bool, true, false, not, if◌then◌else◌, List}
use Rattle.std.specs.Prelude.{[], ◌∷◌, ◌++◌, Option, None, Some, length, refl, IfSome}
use Rattle.std.specs.List.{last_or, AllAdjacentBelow}
use Rattle.std.specs.Option.{option_map, option_map_or, option_to_list}
use Rattle.std.proofs.Common.{ap, ◌∙◌, sym, subst, arith, inl, inr, get_or, length-append}
use Rattle.std.proofs.Math.ListN.{get_or-append}
use Rattle.std.proofs.Math.Seq.{get_or-append_seam}
use Rattle.std.proofs.lemmas.Bool.{cases_eq}
use Rattle.std.proofs.lemmas.Bool.Decides.{nat_tests}
use Rattle.std.proofs.lemmas.List.{append-nil}
use Rattle.std.proofs.lemmas.Option.{none-some}
use Rattle.nest_core.specs.Museum.{Museum, is_inside}
use Rattle.nest_core.specs.Puts.{with_put, place}
use Rattle.nest_core.specs.Nest.{is_same_place}
use Rattle.posting_core.specs.declared.message.Message.{Message}
use Rattle.posting_core.specs.declared.message.Message.TheVariants.{Move, Pack, Agree, Authorise}
use Rattle.posting_core.specs.declared.message.Message.TheVariants.{Exit, Return, Receive, SignOff}
use Rattle.posting_core.specs.declared.message.Message.TheVariants.{Extend}
use Rattle.posting_core.specs.declared.verdict.Verdict.TheVariants.{Applied}
use Rattle.posting_core.specs.declared.entry.Entry.{Entry}
use Rattle.posting_core.specs.declared.entry.Spot.{Spot}
use Rattle.nest_core.specs.declared.put.Target.TheVariants.{At}
use Rattle.nest_core.specs.declared.put.Put.{Put}
use Rattle.posting_core.specs.Messages.{day_of, thing_no, place_no}
use Rattle.posting_core.specs.Agreements.{agreement}
use Rattle.posting_core.specs.History.{puts, put_in, spots, spot_from, place_at}
use Rattle.posting_core.specs.VerdictNames.{is_applied}
use Rattle.posting_core.specs.Verdicts.{verdict, pack_rows}
use Rattle.posting_core.specs.Lawful.{Follows, IsLawful}
use Rattle.posting_core.specs.Rows.{place_to}
use Rattle.posting_core.proofs.AppliedRows.{none_holds}
use Rattle.posting_core.proofs.Accounted.{IsApplied, by_verdict, nothing_put, by_carried}

-- a message that places a thing has a day
placed_by_day : (S : Museum) (P : List Entry) (m : Message) → day_of m ≡ None → put_in S P m ≡ None
placed_by_day S P (SignOff name) e = refl
placed_by_day S P (Agree first last loan partner objects) e = refl
placed_by_day S P (Authorise name loan) e = refl
placed_by_day S P (Extend last loan) e = refl
placed_by_day S P _ e = cc

-- a target of an applied message has a place
target_placed : (S : Museum) (depth : ℕ) (P : List Entry) (m : Message)
    → verdict S depth P m ≡ Applied → IfSome (put_in S P m) (λ put. place_to S P put.to ≢ None)
target_placed S depth P (Move day x p) h = λ e. none-some _ (sym e)
target_placed S depth P (Pack day x c) h = λ e.
    let none = none_holds (pack_rows S depth P x c) refl h in
    let outside : not (option_map_or (is_inside S) (place_at S P (thing_no S c)) false) ≡ true =
    ap (λ o. not (option_map_or (is_inside S) o false)) e in
    let both : true ≡ false = sym outside ∙ none.1.1.1.0 in cc
target_placed S depth P (Agree first last loan partner objects) h = tt
target_placed S depth P (Authorise name loan) h = tt
target_placed S depth P (Exit day x loan) h =
    elim (agreement P loan) as (λ o. IfSome {T = Put}
    (option_map (λ t. record { thing = thing_no S x; to = At (place_no S t.partner) }) o)
    (λ put. place_to S P put.to ≢ None)) [ None ↦ tt | Some t ↦ λ e. none-some _ (sym e) ]
target_placed S depth P (Return day x loan p) h = λ e. none-some _ (sym e)
target_placed S depth P (Receive day x loan p) h = λ e. none-some _ (sym e)
target_placed S depth P (SignOff name) h = tt
target_placed S depth P (Extend last loan) h = tt

-- a thing with a place always keeps one
entry_keeps_place : (S : Museum) (depth : ℕ) (P : List Entry) (e : Entry) → Follows S depth P e
    → IsLawful S depth P → (x : ℕ) → place_at S (e ∷ P) x ≡ None → place_at S P x ≡ None
entry_keeps_place S depth P e follows lawful x gone =
    by_verdict x follows lawful applied (λ same. sym same.stays.place ∙ gone)
  where
    applied : IsApplied S depth P e → place_at S P x ≡ None
    applied a = elim (put_in S P e.message) as (λ o. put_in S P e.message ≡ o
        → IfSome o (λ put. place_to S P put.to ≢ None) → place_at S P x ≡ None) [
          | None ↦ λ is placed. sym (nothing_put a x is).place ∙ gone
          | Some put ↦ λ is placed. by_carried a x put is
              (λ goes. absurd (placed (sym goes.after ∙ gone)))
              (λ apart stays. sym stays.place ∙ gone)
        ] refl (target_placed S depth P e.message a.judged)

entry_without_day : (S : Museum) (P : List Entry) (e : Entry) (x : ℕ) → day_of e.message ≡ None
    → place_at S (e ∷ P) x ≡ place_at S P x
entry_without_day S P e x undated =
    ap (λ o. place (length S.things) (with_put o (puts S P)) x) (none (is_applied e.verdict))
  where
    none : (t : Bool) → (if t then put_in S P e.message else None) ≡ None
    none true = placed_by_day S P e.message undated
    none false = refl

-- the place of the last spot
abbrev current : List Spot → Option ℕ
current row = option_map (λ s. s.place) (last_or None row)

last_pushed : (o : Option Spot) (row : List Spot) (s : Spot) → last_or o (row ++ s ∷ []) ≡ Some s
last_pushed o [] s = refl
last_pushed o (r ∷ row) s = last_pushed (Some r) row s

same_is : (before : Option ℕ) (p : ℕ) → is_same_place before (Some p) ≡ true → before ≡ Some p
same_is None p e = cc
same_is (Some a) p e = ap Some (let same : a ≡ p = grind (arith, nat_tests) in same)

-- an entry's spot has the thing's place after it
current_after : (row : List Spot) (number : ℕ) (before after : Option ℕ) (day : Option ℤ)
    → current row ≡ before → (after ≡ None → before ≡ None) → (day ≡ None → after ≡ before) →
    current (row ++ option_to_list (spot_from number before after day)) ≡ after
current_after row number before None day is gone undated =
    ap current (append-nil row) ∙ is ∙ gone refl
current_after row number before (Some p) None is gone undated =
    ap current (append-nil row) ∙ is ∙ sym (undated refl)
current_after row number before (Some p) (Some day) is gone undated =
    let new : Spot = record { entry = number; place = p; day = day } in
    elim (is_same_place before (Some p)) as (λ b. is_same_place before (Some p) ≡ b
    → current (row ++ option_to_list (if b then None else Some new)) ≡ Some p) [
      | true ↦ λ e. ap current (append-nil row) ∙ is ∙ same_is before p e
      | false ↦ λ e. ap (option_map (λ s. s.place)) (last_pushed None row new)
    ] refl

pub last_is_current : (S : Museum) (depth : ℕ) (P : List Entry) (x : ℕ) → IsLawful S depth P
    → option_map (λ s. s.place) (last_or None (spots S P x)) ≡ place_at S P x
last_is_current S depth [] x lawful = refl
last_is_current S depth (e ∷ P) x (follows, lawful) =
    current_after (spots S P x) (length P + 1) (place_at S P x) (place_at S (e ∷ P) x)
    (day_of e.message)
    (last_is_current S depth P x lawful) (entry_keeps_place S depth P e follows lawful x)
    (entry_without_day S P e x)

pub unplaced_is_empty : (row : List Spot) (place : Option ℕ)
    → option_map (λ s. s.place) (last_or None row) ≡ place → place ≡ None → row ≡ []
unplaced_is_empty [] place is none = refl
unplaced_is_empty (s ∷ row) place is none = absurd (some_last row s (is ∙ none))
  where
    some_last : (row : List Spot) (s : Spot)
        → option_map (λ s. s.place) (last_or (Some s) row) ≢ None
    some_last [] s = λ e. cc
    some_last (r ∷ row) s = some_last row r

-- each spot is at another place than the one before it
abbrev pub AreChanges : List Spot → Type 0
AreChanges row = AllAdjacentBelow (λ a b. a.place ≢ b.place) row (length row)

last_at : (s : Spot) (row : List Spot) (d : Spot)
    → last_or (Some s) row ≡ Some (get_or (s ∷ row) (length row) d)
last_at s [] d = refl
last_at s (r ∷ row) d = last_at r row d

before_new : (row : List Spot) (new : Spot) (k : ℕ) (d : Spot) → k + 1 ≡ length row
    → IfSome (last_or None row) (λ s. s.place ≢ new.place) → (get_or row k d).place ≢ new.place
before_new [] new k d e last = absurd (omega arith)
before_new (s ∷ row) new k d e last =
    let here : k ≡ length row = omega arith in
    subst (λ i. (get_or (s ∷ row) i d).place ≢ new.place) (sym here)
    (subst (λ o. IfSome o (λ s. s.place ≢ new.place)) (last_at s row d) last)

apart_pushed : (row : List Spot) (new : Spot) → AreChanges row
    → IfSome (last_or None row) (λ s. s.place ≢ new.place) → AreChanges (row ++ new ∷ [])
apart_pushed row new apart last k d less =
    let fits : k + 1 < length row + 1 =
    subst (λ n. k + 1 < n) (length-append row (new ∷ [])) less in
    let one : get_or (row ++ new ∷ []) k d ≡ get_or row k d =
    get_or-append row (new ∷ []) d k (omega arith) in
    elim (cases_eq (k + 1) (length row)) [
      | inl e ↦
          let two : get_or (row ++ new ∷ []) (k + 1) d ≡ new =
          ap (λ i. get_or (row ++ new ∷ []) i d) e ∙ get_or-append_seam row new [] d in
          rw (one, two) (before_new row new k d e last)
      | inr n ↦
          let two : get_or (row ++ new ∷ []) (k + 1) d ≡ get_or row (k + 1) d =
          get_or-append row (new ∷ []) d (k + 1) (omega arith) in
          rw (one, two) (apart k d (omega arith))
    ]

differ_is : (before : Option ℕ) (p : ℕ) (row : List Spot) → current row ≡ before
    → is_same_place before (Some p) ≡ false → IfSome (last_or None row) (λ s. s.place ≢ p)
differ_is before p row is differ = other (last_or None row) is
  where
    other : (o : Option Spot) → option_map (λ s. s.place) o ≡ before → IfSome o (λ s. s.place ≢ p)
    other None e = tt
    other (Some s) e = λ same.
        let here : is_same_place (Some s.place) (Some p) ≡ false =
        ap (λ b. is_same_place b (Some p)) e ∙ differ in
        absurd (grind (arith, nat_tests))

-- an entry's spot is at another place than the one before it
apart_after : (row : List Spot) (number : ℕ) (before after : Option ℕ) (day : Option ℤ)
    → current row ≡ before → AreChanges row
    → AreChanges (row ++ option_to_list (spot_from number before after day))
apart_after row number before None day is apart = subst AreChanges (sym (append-nil row)) apart
apart_after row number before (Some p) None is apart = subst AreChanges (sym (append-nil row)) apart
apart_after row number before (Some p) (Some day) is apart =
    let new : Spot = record { entry = number; place = p; day = day } in
    elim (is_same_place before (Some p)) as (λ b. is_same_place before (Some p) ≡ b
    → AreChanges (row ++ option_to_list (if b then None else Some new))) [
      | true ↦ λ e. subst AreChanges (sym (append-nil row)) apart
      | false ↦ λ e. apart_pushed row new apart (differ_is before p row is e)
    ] refl

pub spots_apart : (S : Museum) (depth : ℕ) (P : List Entry) (x : ℕ) → IsLawful S depth P
    → AreChanges (spots S P x)
spots_apart S depth [] x lawful = λ k d less. absurd (omega arith)
spots_apart S depth (e ∷ P) x (follows, lawful) =
    apart_after (spots S P x) (length P + 1) (place_at S P x) (place_at S (e ∷ P) x)
    (day_of e.message) (last_is_current S depth P x lawful) (spots_apart S depth P x lawful)
