-- Facts about a ledger that stay true whatever is posted later: lines only go forward, closed loans
-- stay closed, last days only become later.
use Rattle.std.specs.Prelude.{ℕ, ℤ, ◌≡◌, ◌≤ℤ◌, ◌&&◌, ◌||◌, Bool, true, false, not, if◌then◌else◌}
use Rattle.std.specs.Prelude.{List, [], ◌∷◌, ◌++◌, Option, None, Some, map, refl, unwrap_or, int_le}
use Rattle.std.specs.List.{list_all}
use Rattle.std.specs.Option.{option_map, option_map_or}
use Rattle.std.specs.Str.{bytes_eq}
use Rattle.std.proofs.Common.{ap, ◌∙◌, sym, subst, arith}
use Rattle.std.proofs.lemmas.Bool.{and_parts, false≢true}
use Rattle.std.proofs.lemmas.Int.{ints}
use Rattle.std.proofs.lemmas.Option.{none-some, same_Some}
use Rattle.std.proofs.lemmas.Slice.Eq.{bytes_eq-Decides}
use Rattle.nest_core.specs.Museum.{Museum}
use Rattle.nest_core.specs.Puts.{is_among}
use Rattle.posting_core.specs.declared.message.Message.{Message}
use Rattle.posting_core.specs.declared.message.Message.TheVariants.{Exit, Extend}
use Rattle.posting_core.specs.declared.entry.Entry.{Entry}
use Rattle.posting_core.specs.declared.stage.LineStage.{LineStage}
use Rattle.posting_core.specs.declared.stage.LineStage.TheVariants.{Awaiting, Away, Back, Here}
use Rattle.posting_core.specs.declared.stage.LineStage.TheVariants.{GivenBack}
use Rattle.posting_core.specs.declared.stage.LoanState.TheVariants.{Draft, Closed}
use Rattle.posting_core.specs.declared.verdict.Verdict.TheVariants.{Applied}
use Rattle.posting_core.specs.VerdictNames.{is_applied}
use Rattle.posting_core.specs.Agreements.{Agreement, agreement, is_authorised, authorises}
use Rattle.posting_core.specs.Agreements.{extension_in, last_from, last_day}
use Rattle.posting_core.specs.Loans.{stage, objects_of, line, is_done, state_by, loan_state}
use Rattle.posting_core.specs.Verdicts.{verdict, exit_rows, extend_rows, is_container_code}
use Rattle.posting_core.specs.Lawful.{IsLawful}
use Rattle.posting_core.specs.Book.{Book, line_in, state_in, last_day_in}
use Rattle.posting_core.specs.Accountability.{AtEachApplied}
use Rattle.posting_core.specs.Onward.{later, GoesOn, is_onward, goes_forward, MovesOn}
use Rattle.posting_core.specs.Onward.{LeavesUncrated}
use Rattle.posting_core.proofs.Accounted.{IsApplied, agreement_stays}
use Rattle.posting_core.proofs.Among.{first_among, later_among}
use Rattle.posting_core.proofs.AppliedRows.{none_holds, applied_is}
use Rattle.posting_core.proofs.Differences.{is_step, Written, written}
use Rattle.posting_core.proofs.LoanLaws.{closed_done, at_each}
use Rattle.posting_core.proofs.Refused.{unchanged}

-- the order of the stages

step_forward : (before : Option LineStage) (s : LineStage) → is_step before s ≡ true
    → goes_forward before (Some s) ≡ true
step_forward None s step = refl
step_forward (Some Awaiting) s step = refl
step_forward (Some Away) Back step = refl
step_forward (Some Here) GivenBack step = refl
step_forward (Some Away) _ step = absurd (false≢true step)
step_forward (Some Here) _ step = absurd (false≢true step)
step_forward (Some Back) _ step = absurd (false≢true step)
step_forward (Some GivenBack) _ step = absurd (false≢true step)

onward_itself : (s : LineStage) → is_onward s s ≡ true
onward_itself Awaiting = refl
onward_itself Away = refl
onward_itself Back = refl
onward_itself Here = refl
onward_itself GivenBack = refl

forward_itself : (line : Option LineStage) → goes_forward line line ≡ true
forward_itself None = refl
forward_itself (Some s) = onward_itself s

from_back : (s : LineStage) → is_onward Back s ≡ true → is_onward Away s ≡ true
from_back Back h = refl
from_back _ h = absurd (false≢true h)

from_given : (s : LineStage) → is_onward GivenBack s ≡ true → is_onward Here s ≡ true
from_given GivenBack h = refl
from_given _ h = absurd (false≢true h)

onward_on : (s t u : LineStage) → is_onward s t ≡ true → is_onward t u ≡ true → is_onward s u ≡ true
onward_on Awaiting t u first next = refl
onward_on Away Away u first next = next
onward_on Away Back u first next = from_back u next
onward_on Back Back u first next = next
onward_on Here Here u first next = next
onward_on Here GivenBack u first next = from_given u next
onward_on GivenBack GivenBack u first next = next
onward_on _ _ u first next = absurd (false≢true first)

forward_on : (a b c : Option LineStage) → goes_forward a b ≡ true → goes_forward b c ≡ true
    → goes_forward a c ≡ true
forward_on None b c first next = refl
forward_on (Some s) None c first next = absurd (false≢true first)
forward_on (Some s) (Some t) None first next = absurd (false≢true next)
forward_on (Some s) (Some t) (Some u) first next = onward_on s t u first next

-- one entry moves a line only forward

module _ (S : Museum) (depth : ℕ) (P : List Entry) (e : Entry) (lawful : IsLawful S depth (e ∷ P))
    (loan : List ℕ) where
  -- the ledger that `unchanged` is about
  abbrev B : Book
  B = record { museum = S; depth = depth; posted = P }

  applied_here : is_applied e.verdict ≡ true → IsApplied S depth P e
  applied_here h = record {
    lawful = lawful.1;
    applied = h;
    judged = sym lawful.0.judged ∙ applied_is e.verdict h;
  }

  by_written : Written S P e → (o : ℕ)
      → goes_forward (line S P loan o) (line S (e ∷ P) loan o) ≡ true
  by_written w o = elim (bytes_eq w.loan loan && is_among o w.objects) as
      (λ b. (bytes_eq w.loan loan && is_among o w.objects) ≡ b
      → goes_forward (line S P loan o) (line S (e ∷ P) loan o) ≡ true) [
        | true ↦ λ k.
            let parts = and_parts (bytes_eq w.loan loan) (is_among o w.objects) k in
            subst (λ l. goes_forward (line S P l o) (line S (e ∷ P) l o) ≡ true)
            ((bytes_eq-Decides w.loan loan).0 parts.0)
            (ap (goes_forward (line S P w.loan o)) (w.writes.here o parts.1) ∙ step_forward
            (line S P w.loan o) w.stage (w.writes.step o parts.1))
        | false ↦ λ k. ap (goes_forward (line S P loan o)) (w.writes.others loan o k)
            ∙ forward_itself (line S P loan o)
      ] refl

  step_line : (o : ℕ) → goes_forward (line S P loan o) (line S (e ∷ P) loan o) ≡ true
  step_line o = elim (is_applied e.verdict) as (λ b. is_applied e.verdict ≡ b
      → goes_forward (line S P loan o) (line S (e ∷ P) loan o) ≡ true) [
        | true ↦ λ h. by_written (written (applied_here h)) o
        | false ↦ λ h. ap (goes_forward (line S P loan o)) ((unchanged B e h).lines loan o)
            ∙ forward_itself (line S P loan o)
      ] refl

  -- and the stages of an agreed loan
  step_stage : (t : Agreement) → agreement P loan ≡ Some t → (o : ℕ)
      → is_among o (objects_of S t) ≡ true
      → is_onward (stage S P loan o) (stage S (e ∷ P) loan o) ≡ true
  step_stage t is o among =
      sym (ap (λ l. goes_forward l (line S (e ∷ P) loan o)) (at P is)
      ∙ ap (goes_forward (Some (stage S P loan o)))
      (at (e ∷ P) (agreement_stays P e loan t is))) ∙ step_line o
    where
      at : (Q : List Entry) → agreement Q loan ≡ Some t → line S Q loan o ≡ Some (stage S Q loan o)
      at Q found =
          ap (λ u. if is_among o (option_map_or (objects_of S) u []) then Some (stage S Q loan o)
          else None) found ∙ ap (λ b. if b then Some (stage S Q loan o) else None) among

-- a closed loan stays closed

done_on : (s t : LineStage) → is_onward s t ≡ true → is_done s ≡ true → is_done t ≡ true
done_on Back Back onward done = refl
done_on GivenBack GivenBack onward done = refl
done_on Awaiting t onward done = absurd (false≢true done)
done_on Away t onward done = absurd (false≢true done)
done_on Here t onward done = absurd (false≢true done)
done_on _ _ onward done = absurd (false≢true onward)

all_done_on : (f g : ℕ → LineStage) (os : List ℕ)
    → ((o : ℕ) → is_among o os ≡ true → is_onward (f o) (g o) ≡ true)
    → list_all is_done (map f os) ≡ true → list_all is_done (map g os) ≡ true
all_done_on f g [] onward done = refl
all_done_on f g (o ∷ os) onward done =
    let parts = and_parts (is_done (f o)) (list_all is_done (map f os)) done in
    let here : is_done (g o) ≡ true = done_on (f o) (g o) (onward o (first_among o os)) parts.0 in
    ap (λ b. b && list_all is_done (map g os)) here ∙ all_done_on f g os
    (λ p among. onward p (later_among p o os among)) parts.1

closed_authorised : (authorised : Bool) (stages : List LineStage)
    → state_by authorised stages ≡ Closed → authorised ≡ true
closed_authorised true stages closed = refl
closed_authorised false stages closed = absurd (let e : Draft ≡ Closed = closed in cc)

still_authorised : (P : List Entry) (e : Entry) (loan : List ℕ) → is_authorised P loan ≡ true
    → is_authorised (e ∷ P) loan ≡ true
still_authorised P e loan h = ap (λ b. (is_applied e.verdict && authorises e.message loan) || b) h
    ∙ always (is_applied e.verdict && authorises e.message loan)
  where
    always : (b : Bool) → (b || true) ≡ true
    always true = refl
    always false = refl

step_closed : (S : Museum) (depth : ℕ) (P : List Entry) (e : Entry) (loan : List ℕ)
    → IsLawful S depth (e ∷ P) → loan_state S P loan ≡ Some Closed
    → loan_state S (e ∷ P) loan ≡ Some Closed
step_closed S depth P e loan lawful closed = by (agreement P loan) refl closed
  where
    by : (o : Option Agreement) → agreement P loan ≡ o
        → option_map (λ t. state_by (is_authorised P loan) (map (stage S P loan) (objects_of S t)))
        o ≡ Some Closed → loan_state S (e ∷ P) loan ≡ Some Closed
    by None is closed = absurd (none-some _ closed)
    by (Some t) is closed =
        let state : state_by (is_authorised P loan) (map (stage S P loan) (objects_of S t))
        ≡ Closed = same_Some _ _ closed in
        let authorised = still_authorised P e loan
        (closed_authorised (is_authorised P loan) (map (stage S P loan) (objects_of S t)) state)
        in
        let done = all_done_on (stage S P loan) (stage S (e ∷ P) loan) (objects_of S t)
        (step_stage S depth P e lawful loan t is)
        (closed_done (is_authorised P loan) (map (stage S P loan) (objects_of S t)) state) in
        ap (option_map (λ u. state_by (is_authorised (e ∷ P) loan)
        (map (stage S (e ∷ P) loan) (objects_of S u)))) (agreement_stays P e loan t is)
        ∙ rw (authorised, done) refl

-- a last day only becomes later

same_day : (d : ℤ) → d ≤ℤ d
same_day d = grind (arith, ints)

later_day : (day next : ℤ) → int_le next day ≡ false → day ≤ℤ next
later_day day next h = grind (arith, ints)

extended : (S : Museum) (depth : ℕ) (P : List Entry) (m : Message) (loan : List ℕ) (day : ℤ)
    → verdict S depth P m ≡ Applied → last_day P loan ≡ Some day
    → day ≤ℤ unwrap_or (extension_in m loan) day
extended S depth P (Extend next l) loan day applied is =
    elim (bytes_eq l loan) as (λ b. bytes_eq l loan ≡ b
    → day ≤ℤ unwrap_or (if b then Some next else None) day) [
      | true ↦ λ h. let same : l ≡ loan = (bytes_eq-Decides l loan).0 h in
          later_day day next
          (sym (ap (λ o. option_map_or (λ last. int_le next last) o false)
          (ap (last_day P) same ∙ is)) ∙ (none_holds (extend_rows P l next) refl applied).1.1.0)
      | false ↦ λ h. same_day day
    ] refl
extended S depth P _ loan day applied is = same_day day

step_day : (S : Museum) (depth : ℕ) (P : List Entry) (e : Entry) (loan : List ℕ)
    → IsLawful S depth (e ∷ P) → MovesOn (last_day P loan) (last_day (e ∷ P) loan)
step_day S depth P e loan (follows, lawful) = by (agreement P loan) refl
  where
    by : (o : Option Agreement) → agreement P loan ≡ o
        → MovesOn (option_map (λ t. last_from P loan t.last) o) (last_day (e ∷ P) loan)
    by None is = tt
    by (Some t) is = (
      last_from (e ∷ P) loan t.last,
      ap (option_map (λ u. last_from (e ∷ P) loan u.last)) (agreement_stays P e loan t is),
      elim (is_applied e.verdict) as (λ b. is_applied e.verdict ≡ b
          → last_from P loan t.last ≤ℤ unwrap_or (if b then extension_in e.message loan else None)
          (last_from P loan t.last)) [
            | true ↦ λ h. extended S depth P e.message loan (last_from P loan t.last)
                (sym follows.judged ∙ applied_is e.verdict h)
                (ap (option_map (λ u. last_from P loan u.last)) is)
            | false ↦ λ h. same_day (last_from P loan t.last)
          ] refl,
    )

day_itself : (day : Option ℤ) → MovesOn day day
day_itself None = tt
day_itself (Some d) = (d, refl, same_day d)

day_on : (a b c : Option ℤ) → MovesOn a b → MovesOn b c → MovesOn a c
day_on None b c first next = tt
day_on (Some d) None c (n, is, le) next = absurd (none-some _ is)
day_on (Some d) (Some n) c (m, is, le) (k, at, on) =
    let same : n ≡ m = same_Some n m is in
    let first : d ≤ℤ n = subst (λ x. d ≤ℤ x) (sym same) le in
    (k, at, grind (arith, ints))

-- later entries, one by one

pub lines_forward : (B : Book) (L : List Entry) → GoesOn B L → (loan : List ℕ) (o : ℕ)
    → goes_forward (line_in B loan o) (line_in (later B L) loan o) ≡ true
lines_forward B [] lawful loan o = forward_itself (line_in B loan o)
lines_forward B (e ∷ L) lawful loan o =
    forward_on (line_in B loan o) (line_in (later B L) loan o) (line_in (later B (e ∷ L)) loan o)
    (lines_forward B L lawful.1 loan o)
    (step_line B.museum B.depth (L ++ B.posted) e lawful loan o)

pub closed_stays : (B : Book) (L : List Entry) → GoesOn B L → (loan : List ℕ)
    → state_in B loan ≡ Some Closed → state_in (later B L) loan ≡ Some Closed
closed_stays B [] lawful loan closed = closed
closed_stays B (e ∷ L) lawful loan closed =
    step_closed B.museum B.depth (L ++ B.posted) e loan lawful
    (closed_stays B L lawful.1 loan closed)

pub days_move_on : (B : Book) (L : List Entry) → GoesOn B L → (loan : List ℕ)
    → MovesOn (last_day_in B loan) (last_day_in (later B L) loan)
days_move_on B [] lawful loan = day_itself (last_day_in B loan)
days_move_on B (e ∷ L) lawful loan =
    day_on (last_day_in B loan) (last_day_in (later B L) loan) (last_day_in (later B (e ∷ L)) loan)
    (days_move_on B L lawful.1 loan) (step_day B.museum B.depth (L ++ B.posted) e loan lawful)

-- no crate leaves under a loan in

uncrated : (S : Museum) (depth : ℕ) (P : List Entry) (m : Message) → verdict S depth P m ≡ Applied
    → LeavesUncrated P m
uncrated S depth P (Exit day x loan) applied =
    λ loan_in. sym (ap (λ b. not b && is_container_code x) loan_in)
    ∙ (none_holds (exit_rows S P x loan day) refl applied).1.1.0
uncrated S depth P _ applied = tt

pub leave_uncrated : (S : Museum) (depth : ℕ) (P : List Entry) → IsLawful S depth P
    → AtEachApplied LeavesUncrated P
leave_uncrated S depth P lawful = at_each S depth P LeavesUncrated (uncrated S depth) lawful
