-- A closed loan is over, and things cross only under authorised loans and within their terms.
use Rattle.std.specs.Prelude.{ℕ, ℤ, ◌≡◌, ◌≤ℤ◌, ◌&&◌, ◌||◌, ◌==◌, Bool, true, false, not}
use Rattle.std.specs.Prelude.{if◌then◌else◌, List, [], ◌∷◌, Option, None, Some, map, refl, IfSome}
use Rattle.std.specs.Prelude.{int_lt, is_some}
use Rattle.std.specs.List.{list_all, list_any}
use Rattle.std.specs.Option.{option_map, option_map_or}
use Rattle.std.proofs.Common.{ap, ◌∙◌, sym, subst, arith, inl, inr}
use Rattle.std.proofs.lemmas.Bool.{and_parts, false≢true, not-false}
use Rattle.std.proofs.lemmas.Bool.Decides.{nat_tests}
use Rattle.std.proofs.lemmas.Int.{ints}
use Rattle.nest_core.specs.Museum.{Museum}
use Rattle.nest_core.specs.Puts.{is_among}
use Rattle.posting_core.specs.declared.message.Message.{Message}
use Rattle.posting_core.specs.declared.message.Message.TheVariants.{Exit, Return, Receive}
use Rattle.posting_core.specs.declared.verdict.Verdict.TheVariants.{Applied}
use Rattle.posting_core.specs.declared.entry.Entry.{Entry}
use Rattle.posting_core.specs.declared.stage.LineStage.{LineStage}
use Rattle.posting_core.specs.declared.stage.LineStage.TheVariants.{Back, GivenBack}
use Rattle.posting_core.specs.declared.stage.LoanState.TheVariants.{Draft, Authorised, Running}
use Rattle.posting_core.specs.declared.stage.LoanState.TheVariants.{Closed}
use Rattle.posting_core.specs.Agreements.{Agreement, agreement, is_agreed, is_authorised, last_from}
use Rattle.posting_core.specs.Agreements.{last_day}
use Rattle.posting_core.specs.Loans.{objects_of, stage, line, is_done, is_awaiting, state_by}
use Rattle.posting_core.specs.Loans.{loan_state}
use Rattle.posting_core.specs.Lawful.{IsLawful}
use Rattle.posting_core.specs.Verdicts.{verdict, exit_rows, return_rows, receive_rows, is_over}
use Rattle.posting_core.specs.Accountability.{IsOver, AtEachApplied, IsAuthorised, IsInTerm}
use Rattle.posting_core.specs.Accountability.{IsWithin}
use Rattle.posting_core.proofs.AppliedRows.{none_holds, applied_is}

done_over : (s : LineStage) → is_done s ≡ true → IsOver s
done_over Back h = inl refl
done_over GivenBack h = inr refl
done_over _ h = absurd (false≢true h)

pub closed_done : (authorised : Bool) (stages : List LineStage)
    → state_by authorised stages ≡ Closed → list_all is_done stages ≡ true
closed_done false stages h = absurd (let e : Draft ≡ Closed = h in cc)
closed_done true stages h = elim (list_all is_done stages) as
    (λ b. (if b then Closed else (if list_any (λ s. not (is_awaiting s)) stages then Running else
    Authorised)) ≡ Closed → b ≡ true) [
      | true ↦ λ e. refl
      | false ↦ λ e. elim (list_any (λ s. not (is_awaiting s)) stages) as
          (λ b. (if b then Running else Authorised) ≡ Closed → false ≡ true) [
            | true ↦ λ k. cc
            | false ↦ λ k. cc
          ] e
    ] h

all_done : (f : ℕ → LineStage) (os : List ℕ) (o : ℕ) → list_all is_done (map f os) ≡ true
    → is_among o os ≡ true → is_done (f o) ≡ true
all_done f [] o all h = absurd (false≢true h)
all_done f (x ∷ os) o all h =
    let parts = and_parts (is_done (f x)) (list_all is_done (map f os)) all in
    elim (x == o) as (λ b. (x == o) ≡ b → b || is_among o os ≡ true → is_done (f o) ≡ true) [
      | true ↦ λ e k. subst (λ y. is_done (f y) ≡ true)
          (let same : x ≡ o = grind (arith, nat_tests) in same) parts.0
      | false ↦ λ e k. all_done f os o parts.1 k
    ] refl h

closed_line : (S : Museum) (P : List Entry) (loan : List ℕ) (t : Option Agreement) (o : ℕ) →
    option_map (λ t. state_by (is_authorised P loan) (map (stage S P loan) (objects_of S t))) t
    ≡ Some Closed →
    IfSome (if is_among o (option_map_or (objects_of S) t []) then Some (stage S P loan o) else
    None) IsOver
closed_line S P loan None o closed = tt
closed_line S P loan (Some t) o closed =
    elim (is_among o (objects_of S t)) as (λ b. is_among o (objects_of S t) ≡ b
    → IfSome (if b then Some (stage S P loan o) else None) IsOver) [
      | true ↦ λ e. done_over (stage S P loan o)
          (all_done (stage S P loan) (objects_of S t) o
          (closed_done (is_authorised P loan) (map (stage S P loan) (objects_of S t)) cc) e)
      | false ↦ λ e. tt
    ] refl

pub closed_is_over : (S : Museum) (P : List Entry) (loan : List ℕ)
    → loan_state S P loan ≡ Some Closed → (o : ℕ) → IfSome (line S P loan o) IsOver
closed_is_over S P loan closed o = closed_line S P loan (agreement P loan) o closed

authorised : (S : Museum) (depth : ℕ) (P : List Entry) (m : Message) → verdict S depth P m ≡ Applied
    → IsAuthorised P m
authorised S depth P (Exit day x loan) h =
    not-false (is_authorised P loan) (none_holds (exit_rows S P x loan day) refl h).1.1.1.0
authorised S depth P (Return day x loan p) h =
    not-false (is_authorised P loan) (none_holds (return_rows S P x loan p) refl h).1.1.1.1.0
authorised S depth P (Receive day x loan p) h =
    not-false (is_authorised P loan) (none_holds (receive_rows S P x loan p day) refl h).1.1.1.1.1.0
authorised S depth P _ h = tt

not_over : (o : Option ℤ) (day : ℤ) → is_some o ≡ true
    → option_map_or (λ last. int_lt last day) o false ≡ false → (last : ℤ) × (o ≡ Some last)
    × (day ≤ℤ last)
not_over None day known h = cc
not_over (Some last) day known h = (last, refl, grind (arith, ints))

within : (P : List Entry) (loan : List ℕ) (day : ℤ) → is_agreed P loan ≡ true
    → is_over P loan day ≡ false → IsWithin P loan day
within P loan day agreed h = not_over (last_day P loan) day (known (agreement P loan) agreed) h
  where
    known : (o : Option Agreement) → is_some o ≡ true
        → is_some (option_map (λ t. last_from P loan t.last) o) ≡ true
    known None e = e
    known (Some t) e = e

in_term : (S : Museum) (depth : ℕ) (P : List Entry) (m : Message) → verdict S depth P m ≡ Applied
    → IsInTerm P m
in_term S depth P (Exit day x loan) h = λ out.
    let none = none_holds (exit_rows S P x loan day) refl h in
    within P loan day (not-false (is_agreed P loan) none.1.0)
    (sym (ap (λ b. b && is_over P loan day) out) ∙ none.1.1.1.1.1.1.1.0)
in_term S depth P (Receive day x loan p) h =
    let none = none_holds (receive_rows S P x loan p day) refl h in
    within P loan day (not-false (is_agreed P loan) none.1.1.1.0) none.1.1.1.1.1.1.1.1.1.1.0
in_term S depth P _ h = tt

pub at_each : (S : Museum) (depth : ℕ) (P : List Entry) (R : List Entry → Message → Type 0)
    → ((Q : List Entry) (m : Message) → verdict S depth Q m ≡ Applied → R Q m) → IsLawful S depth P
    → AtEachApplied R P
at_each S depth [] R each lawful = tt
at_each S depth (e ∷ P) R each (follows, lawful) = (
  λ h. each P e.message (sym follows.judged ∙ applied_is e.verdict h),
  at_each S depth P R each lawful,
)

pub crosses_authorised : (S : Museum) (depth : ℕ) (P : List Entry) → IsLawful S depth P
    → AtEachApplied IsAuthorised P
crosses_authorised S depth P lawful = at_each S depth P IsAuthorised (authorised S depth) lawful

pub crosses_in_term : (S : Museum) (depth : ℕ) (P : List Entry) → IsLawful S depth P
    → AtEachApplied IsInTerm P
crosses_in_term S depth P lawful = at_each S depth P IsInTerm (in_term S depth) lawful
