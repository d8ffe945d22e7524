-- The loan lines that an applied entry writes: these get a stage, and all others stay.
use Rattle.std.specs.Prelude.{ℕ, ◌≡◌, ◌≢◌, ◌↔◌, ◌&&◌, ◌||◌, ◌==◌, Bool, true, false, cond, List, []}
use Rattle.std.specs.Prelude.{◌∷◌, ◌++◌, Option, None, Some, refl, if◌then◌else◌, All}
use Rattle.std.specs.List.{find, list_any}
use Rattle.std.specs.Option.{option_map_or, option_or, option_to_list}
use Rattle.std.specs.Str.{bytes_eq}
use Rattle.std.proofs.Common.{ap, ◌∙◌, sym, subst}
use Rattle.std.proofs.lemmas.Bool.{and_parts, false≢true}
use Rattle.std.proofs.lemmas.List.{append-nil}
use Rattle.std.proofs.lemmas.List.Elements.{All-nil, All-cons}
use Rattle.std.proofs.lemmas.List.Folds.{find-append}
use Rattle.std.proofs.lemmas.Option.{none-some, same_Some}
use Rattle.std.proofs.lemmas.Slice.Eq.{bytes_eq-Decides}
use Rattle.codes_core.specs.Loan.{is_out}
use Rattle.nest_core.specs.Museum.{Museum}
use Rattle.nest_core.specs.Puts.{is_among}
use Rattle.posting_core.specs.declared.message.Message.{Message}
use Rattle.posting_core.specs.declared.message.Message.TheVariants.{Agree, Exit, Return, Receive}
use Rattle.posting_core.specs.declared.entry.Entry.{Entry}
use Rattle.posting_core.specs.declared.entry.NewLine.{NewLine}
use Rattle.posting_core.specs.declared.stage.LineStage.{LineStage}
use Rattle.posting_core.specs.declared.stage.LineStage.TheVariants.{Awaiting, Away, Back, Here}
use Rattle.posting_core.specs.declared.stage.LineStage.TheVariants.{GivenBack}
use Rattle.posting_core.specs.declared.verdict.Verdict.TheVariants.{Applied}
use Rattle.posting_core.specs.VerdictNames.{is_applied}
use Rattle.posting_core.specs.Agreements.{Agreement, agreement_in, agreements, agreement}
use Rattle.posting_core.specs.Loans.{Crossing, crossing_in, wanted_by_exit, exit_stage, objects_in}
use Rattle.posting_core.specs.Loans.{stage, objects_of, objects, line}
use Rattle.posting_core.specs.Verdicts.{verdict, exit_rows, return_rows, receive_rows}
use Rattle.posting_core.specs.Verdicts.{carries_unlisted, carries_wrong_stage}
use Rattle.posting_core.specs.Book.{Book, lines_of_agreement, lines_of_crossing, new_lines, line_in}
use Rattle.posting_core.specs.Book.{changes_of}
use Rattle.posting_core.specs.Onward.{GoesOn, later, names_line}
use Rattle.posting_core.proofs.Accounted.{IsApplied, nothing_crosses, crosses_without, crosses_with}
use Rattle.posting_core.proofs.Accounted.{ready}
use Rattle.posting_core.proofs.Agreed.{apart_sym, agree_applied, untouched}
use Rattle.posting_core.proofs.Among.{first_among, later_among}
use Rattle.posting_core.proofs.AppliedRows.{none_holds, applied_is}
use Rattle.posting_core.proofs.Lined.{lines_at}
use Rattle.posting_core.proofs.Refused.{unchanged}

-- the steps of a line: it is awaited at first, goes away and comes back, or comes here and is given
-- back
abbrev pub is_step : Option LineStage → LineStage → Bool
is_step None Awaiting = true
is_step (Some Awaiting) Away = true
is_step (Some Awaiting) Here = true
is_step (Some Away) Back = true
is_step (Some Here) GivenBack = true
is_step _ _ = false

no_step : (s : LineStage) → is_step (Some s) s ≡ false
no_step Awaiting = refl
no_step Away = refl
no_step Back = refl
no_step Here = refl
no_step GivenBack = refl

step_differs : (before : Option LineStage) (s : LineStage) → is_step before s ≡ true
    → before ≢ Some s
step_differs before s step same =
    absurd (false≢true (sym (no_step s) ∙ ap (λ b. is_step b s) (sym same) ∙ step))

-- the entry writes these lines: under this loan, these objects get the stage
pub record Writes (S : Museum) (P : List Entry) (e : Entry) (loan : List ℕ) (os : List ℕ)
    (s : LineStage) : Type 0 where
  pub lines : new_lines S P e.message ≡ lines_at loan os s
  pub here : (o : ℕ) → is_among o os ≡ true → line S (e ∷ P) loan o ≡ Some s
  pub step : (o : ℕ) → is_among o os ≡ true → is_step (line S P loan o) s ≡ true
  pub others : (l : List ℕ) (o : ℕ) → (bytes_eq loan l && is_among o os) ≡ false
      → line S (e ∷ P) l o ≡ line S P l o

pub record Written (S : Museum) (P : List Entry) (e : Entry) : Type 0 where
  pub loan : List ℕ
  pub objects : List ℕ
  pub stage : LineStage
  pub writes : Writes S P e loan objects stage

-- a message agrees a loan, or is a crossing, or is neither

agrees_alone : (m : Message) (t : Agreement) → agreement_in m ≡ Some t → crossing_in m ≡ None
agrees_alone (Agree first last loan partner objects) t is = refl
agrees_alone _ t is = absurd (none-some _ is)

crosses_alone : (m : Message) (c : Crossing) → crossing_in m ≡ Some c → agreement_in m ≡ None
crosses_alone (Exit day x loan) c is = refl
crosses_alone (Return day x loan p) c is = refl
crosses_alone (Receive day x loan p) c is = refl
crosses_alone _ c is = absurd (none-some _ is)

-- the objects that cross are listed, at the stage before the next
record IsReadyAll (S : Museum) (P : List Entry) (c : Crossing) : Type 0 where
  listed : carries_unlisted S P c ≡ false
  wanted : carries_wrong_stage S P c ≡ false
  step : is_step (Some c.wanted) c.stage ≡ true

exit_step : (loan : List ℕ) → is_step (Some (wanted_by_exit loan)) (exit_stage loan) ≡ true
exit_step loan = elim (is_out loan) as
    (λ b. is_step (Some (if b then Awaiting else Here)) (if b then Away else GivenBack) ≡ true)
    [ true ↦ refl | false ↦ refl ]

all_ready : (S : Museum) (depth : ℕ) (P : List Entry) (m : Message) (c : Crossing)
    → verdict S depth P m ≡ Applied → crossing_in m ≡ Some c → IsReadyAll S P c
all_ready S depth P (Exit day x loan) c applied is =
    let none = none_holds (exit_rows S P x loan day) refl applied in
    subst (IsReadyAll S P) (same_Some _ c is)
    (record { listed = none.1.1.1.1.1.0; wanted = none.1.1.1.1.1.1.0; step = exit_step loan })
all_ready S depth P (Return day x loan p) c applied is =
    let none = none_holds (return_rows S P x loan p) refl applied in
    subst (IsReadyAll S P) (same_Some _ c is)
    (record { listed = none.1.1.1.1.1.1.1.0; wanted = none.1.1.1.1.1.1.1.1.0; step = refl })
all_ready S depth P (Receive day x loan p) c applied is =
    let none = none_holds (receive_rows S P x loan p day) refl applied in
    subst (IsReadyAll S P) (same_Some _ c is)
    (record { listed = none.1.1.1.1.1.1.1.1.0; wanted = none.1.1.1.1.1.1.1.1.1.0; step = refl })
all_ready S depth P _ c applied is = absurd (none-some _ is)

-- a line depends on its loan's objects and its stage
same_line : (S : Museum) (P : List Entry) (e : Entry) (l : List ℕ) (o : ℕ)
    → agreement (e ∷ P) l ≡ agreement P l → stage S (e ∷ P) l o ≡ stage S P l o
    → line S (e ∷ P) l o ≡ line S P l o
same_line S P e l o agreed staged =
    ap (λ t. if is_among o (option_map_or (objects_of S) t []) then Some (stage S (e ∷ P) l o) else
    None) agreed
    ∙ ap (λ s. if is_among o (objects S P l) then Some s else None) staged

-- for an applied entry
module _ {S : Museum} {depth : ℕ} {P : List Entry} {e : Entry} (a : IsApplied S depth P e) where
  agreements_after : (o : Option Agreement) → agreement_in e.message ≡ o
      → agreements (e ∷ P) ≡ agreements P ++ option_to_list o
  agreements_after o is =
      ap (λ b. agreements P ++ option_to_list (if b then agreement_in e.message else None))
      a.applied ∙ ap (λ t. agreements P ++ option_to_list t) is

  agreement_after : (t : Agreement) → agreement_in e.message ≡ Some t → (l : List ℕ)
      → agreement (e ∷ P) l ≡ option_or (agreement P l) (cond (bytes_eq l t.loan) (Some t) None)
  agreement_after t is l = ap (find (λ u. bytes_eq l u.loan)) (agreements_after (Some t) is)
      ∙ find-append (λ (u : Agreement). bytes_eq l u.loan) (agreements P) (t ∷ [])

  same_agreement : agreement_in e.message ≡ None → (l : List ℕ)
      → agreement (e ∷ P) l ≡ agreement P l
  same_agreement none l = ap (find (λ u. bytes_eq l u.loan))
      (agreements_after None none ∙ append-nil (agreements P))

  -- the lines of an agreement
  module _ (t : Agreement) (is : agreement_in e.message ≡ Some t) where
    unagreed : agreement P t.loan ≡ None
    unagreed = (agree_applied S depth P e.message t a.judged is).0

    now_agreed : agreement (e ∷ P) t.loan ≡ Some t
    now_agreed = agreement_after t is t.loan
        ∙ ap (λ o. option_or o (cond (bytes_eq t.loan t.loan) (Some t) None)) unagreed
        ∙ ap (λ b. cond b (Some t) None) ((bytes_eq-Decides t.loan t.loan).1 refl)

    unstaged : (l : List ℕ) (o : ℕ) → stage S (e ∷ P) l o ≡ stage S P l o
    unstaged l o = nothing_crosses a o (agrees_alone e.message t is) l

    agreed_line : (o : ℕ) (b : Bool) → is_among o (objects_of S t) ≡ b
        → line S (e ∷ P) t.loan o ≡ (if b then Some Awaiting else None)
    agreed_line o b among =
        ap (λ u. if is_among o (option_map_or (objects_of S) u []) then Some
        (stage S (e ∷ P) t.loan o) else None) now_agreed
        ∙ ap (λ s. if is_among o (objects_of S t) then Some s else None)
        (unstaged t.loan o ∙ (untouched S depth P t.loan a.lawful unagreed).awaited o)
        ∙ ap (λ c. if c then Some Awaiting else None) among

    no_line : (o : ℕ) → line S P t.loan o ≡ None
    no_line o =
        ap (λ u. if is_among o (option_map_or (objects_of S) u []) then Some (stage S P t.loan o)
        else None) unagreed

    agreed_others : (l : List ℕ) (o : ℕ)
        → (bytes_eq t.loan l && is_among o (objects_of S t)) ≡ false
        → line S (e ∷ P) l o ≡ line S P l o
    agreed_others l o apart = elim (bytes_eq t.loan l) as (λ b. bytes_eq t.loan l ≡ b
        → (b && is_among o (objects_of S t)) ≡ false → line S (e ∷ P) l o ≡ line S P l o) [
          | true ↦ λ h k. subst (λ m. line S (e ∷ P) m o ≡ line S P m o)
              ((bytes_eq-Decides t.loan l).0 h) (agreed_line o false k ∙ sym (no_line o))
          | false ↦ λ h k. same_line S P e l o
              (agreement_after t is l ∙ ap (λ b. option_or (agreement P l) (cond b (Some t) None))
              (apart_sym t.loan l h) ∙ or_none (agreement P l)) (unstaged l o)
        ] refl apart
      where
        or_none : (u : Option Agreement) → option_or u None ≡ u
        or_none None = refl
        or_none (Some u) = refl

    agreed_writes : Writes S P e t.loan (objects_of S t) Awaiting
    agreed_writes = record {
      lines = ap (λ o. option_map_or (lines_of_agreement S) o
          (option_map_or (lines_of_crossing S P) (crossing_in e.message) [])) is;
      here = λ o among. agreed_line o true among;
      step = λ o among. ap (λ before. is_step before Awaiting) (no_line o);
      others = agreed_others;
    }

  -- the lines of a crossing
  module _ (c : Crossing) (is : crossing_in e.message ≡ Some c) where
    crossed_ready : IsReadyAll S P c
    crossed_ready = all_ready S depth P e.message c a.judged is

    same_objects : (l : List ℕ) → objects S (e ∷ P) l ≡ objects S P l
    same_objects l = ap (λ t. option_map_or (objects_of S) t [])
        (same_agreement (crosses_alone e.message c is) l)

    crossed_line : (o : ℕ) → is_among o (objects_in S P c.thing) ≡ true
        → line S (e ∷ P) c.loan o ≡ Some c.stage
    crossed_line o among =
        ap (λ os. if is_among o os then Some (stage S (e ∷ P) c.loan o) else None)
        (same_objects c.loan)
        ∙ ap (λ b. if b then Some (stage S (e ∷ P) c.loan o) else None)
        (ready S P c o crossed_ready.listed crossed_ready.wanted among).listed
        ∙ ap (λ s. Some s) (crosses_with a o c is among).here

    line_before : (o : ℕ) → is_among o (objects_in S P c.thing) ≡ true
        → line S P c.loan o ≡ Some c.wanted
    line_before o among =
        let at = ready S P c o crossed_ready.listed crossed_ready.wanted among in
        ap (λ b. if b then Some (stage S P c.loan o) else None) at.listed
        ∙ ap (λ s. Some s) at.wanted

    stage_stays : (l : List ℕ) (o : ℕ)
        → (bytes_eq c.loan l && is_among o (objects_in S P c.thing)) ≡ false
        → stage S (e ∷ P) l o ≡ stage S P l o
    stage_stays l o apart = elim (is_among o (objects_in S P c.thing)) as
        (λ b. is_among o (objects_in S P c.thing) ≡ b → (bytes_eq c.loan l && b) ≡ false
        → stage S (e ∷ P) l o ≡ stage S P l o) [
          | true ↦ λ h k. (crosses_with a o c is h).others l (alone (bytes_eq c.loan l) k)
          | false ↦ λ h k. crosses_without a o c is h l
        ] refl apart
      where
        alone : (b : Bool) → (b && true) ≡ false → b ≡ false
        alone true k = k
        alone false k = refl

    crossed_writes : Writes S P e c.loan (objects_in S P c.thing) c.stage
    crossed_writes = record {
      lines = ap (λ t. option_map_or (lines_of_agreement S) t
          (option_map_or (lines_of_crossing S P) (crossing_in e.message) []))
          (crosses_alone e.message c is)
          ∙ ap (λ d. option_map_or (lines_of_crossing S P) d []) is;
      here = crossed_line;
      step = λ o among. ap (λ before. is_step before c.stage) (line_before o among)
          ∙ crossed_ready.step;
      others = λ l o apart. same_line S P e l o (same_agreement (crosses_alone e.message c is) l)
          (stage_stays l o apart);
    }

  -- a message that is neither writes none
  nothing_written : agreement_in e.message ≡ None → crossing_in e.message ≡ None
      → Writes S P e [] [] Awaiting
  nothing_written unagreed uncrossed = record {
    lines = ap (λ t. option_map_or (lines_of_agreement S) t
        (option_map_or (lines_of_crossing S P) (crossing_in e.message) [])) unagreed
        ∙ ap (λ d. option_map_or (lines_of_crossing S P) d []) uncrossed;
    here = λ o among. absurd (false≢true among);
    step = λ o among. absurd (false≢true among);
    others = λ l o apart. same_line S P e l o (same_agreement unagreed l)
        (nothing_crosses a o uncrossed l);
  }

  pub written : Written S P e
  written = elim (agreement_in e.message) as (λ o. agreement_in e.message ≡ o → Written S P e) [
    | Some t ↦ λ is. record {
      loan = t.loan;
      objects = objects_of S t;
      stage = Awaiting;
      writes = agreed_writes t is;
    }
    | None ↦ λ unagreed. elim (crossing_in e.message) as (λ o. crossing_in e.message ≡ o
        → Written S P e) [
          | Some c ↦ λ is. record {
            loan = c.loan;
            objects = objects_in S P c.thing;
            stage = c.stage;
            writes = crossed_writes c is;
          }
          | None ↦ λ uncrossed. record {
            loan = [];
            objects = [];
            stage = Awaiting;
            writes = nothing_written unagreed uncrossed;
          }
        ] refl
  ] refl

-- the written lines are those of these objects

pub named : (loan os : List ℕ) (s : LineStage) (l : List ℕ) (o : ℕ)
    → list_any (λ n. bytes_eq n.loan l && (n.object == o)) (lines_at loan os s)
    ≡ (bytes_eq loan l && is_among o os)
named loan [] s l o = never (bytes_eq loan l)
  where
    never : (b : Bool) → false ≡ (b && false)
    never true = refl
    never false = refl
named loan (x ∷ os) s l o = ap (λ b. (bytes_eq loan l && (x == o)) || b) (named loan os s l o)
    ∙ either (bytes_eq loan l)
  where
    either : (b : Bool) → ((b && (x == o)) || (b && is_among o os))
        ≡ (b && ((x == o) || is_among o os))
    either true = refl
    either false = refl

all_named : (Q : NewLine → Type 0) (loan os : List ℕ) (s : LineStage)
    → ((o : ℕ) → is_among o os ≡ true → Q (record { loan = loan; object = o; stage = s }))
    → All Q (lines_at loan os s)
all_named Q loan [] s each = All-nil Q
all_named Q loan (x ∷ os) s each =
    All-cons Q (record { loan = loan; object = x; stage = s }) (lines_at loan os s)
    (each x (first_among x os)) (all_named Q loan os s
    (λ o among. each o (later_among o x os among)))

-- the changes that an entry makes in a ledger's lines
module _ (B : Book) (e : Entry) (lawful : GoesOn B (e ∷ [])) where
  applied_in : is_applied e.verdict ≡ true → IsApplied B.museum B.depth B.posted e
  applied_in h = record {
    lawful = lawful.1;
    applied = h;
    judged = sym lawful.0.judged ∙ applied_is e.verdict h;
  }

  changed_lines : (b : Bool) → is_applied e.verdict ≡ b
      → (changes_of B e.message).lines ≡ (if b then new_lines B.museum B.posted e.message else [])
  changed_lines b h = ap (λ v. if is_applied v then new_lines B.museum B.posted e.message else [])
      (sym lawful.0.judged) ∙ ap (λ c. if c then new_lines B.museum B.posted e.message else []) h

  -- each written line has its new stage afterwards
  pub stages_told : All (λ l. line_in (later B (e ∷ [])) l.loan l.object ≡ Some l.stage)
      (changes_of B e.message).lines
  stages_told = elim (is_applied e.verdict) as (λ b. is_applied e.verdict ≡ b
      → All Q (changes_of B e.message).lines) [
        | true ↦ λ h. let w = written (applied_in h) in
            subst (All Q) (sym (changed_lines true h ∙ w.writes.lines))
            (all_named Q w.loan w.objects w.stage w.writes.here)
        | false ↦ λ h. subst (All Q) (sym (changed_lines false h)) (All-nil Q)
      ] refl
    where
      Q : NewLine → Type 0
      Q l = line_in (later B (e ∷ [])) l.loan l.object ≡ Some l.stage

  -- and these are the lines that differ
  pub lines_differ : (loan : List ℕ) (o : ℕ)
      → (line_in (later B (e ∷ [])) loan o ≢ line_in B loan o) ↔
      (names_line (changes_of B e.message) loan o ≡ true)
  lines_differ loan o = elim (is_applied e.verdict) as (λ b. is_applied e.verdict ≡ b → Differs) [
    | true ↦ λ h. let w = written (applied_in h) in
        let is = told (lines_at w.loan w.objects w.stage) (changed_lines true h ∙ w.writes.lines)
        ∙ named w.loan w.objects w.stage loan o in
        by_name w is (bytes_eq w.loan loan && is_among o w.objects) refl
    | false ↦ λ h. (
      λ differs. absurd (differs ((unchanged B e h).lines loan o)),
      λ written. absurd (false≢true (sym (told [] (changed_lines false h)) ∙ written)),
    )
  ] refl
    where
      Differs : Type 0
      Differs = (line_in (later B (e ∷ [])) loan o ≢ line_in B loan o) ↔
          (names_line (changes_of B e.message) loan o ≡ true)

      told : (ls : List NewLine) → (changes_of B e.message).lines ≡ ls
          → names_line (changes_of B e.message) loan o
          ≡ list_any (λ n. bytes_eq n.loan loan && (n.object == o)) ls
      told ls is = ap (list_any (λ n. bytes_eq n.loan loan && (n.object == o))) is

      by_name : (w : Written B.museum B.posted e)
          → names_line (changes_of B e.message) loan o
          ≡ (bytes_eq w.loan loan && is_among o w.objects) → (b : Bool)
          → (bytes_eq w.loan loan && is_among o w.objects) ≡ b → Differs
      by_name w is true k = (
        λ differs. is ∙ k,
        λ written same.
            let parts = and_parts (bytes_eq w.loan loan) (is_among o w.objects) k in
            let loan_is : w.loan ≡ loan = (bytes_eq-Decides w.loan loan).0 parts.0 in
            step_differs (line_in B loan o) w.stage
            (subst (λ l. is_step (line_in B l o) w.stage ≡ true) loan_is
            (w.writes.step o parts.1))
            (sym same ∙ subst (λ l. line_in (later B (e ∷ [])) l o ≡ Some w.stage) loan_is
            (w.writes.here o parts.1)),
      )
      by_name w is false k = (
        λ differs. absurd (differs (w.writes.others loan o k)),
        λ written. absurd (false≢true (sym k ∙ sym is ∙ written)),
      )
