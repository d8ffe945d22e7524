-- The effect of an applied entry on an object: where it is afterwards, and its stages.
use Rattle.std.specs.Prelude.{ℕ, ◌≡◌, ◌≢◌, ◌<◌, ◌==◌, ◌&&◌, ◌||◌, Bool, true, false, not}
use Rattle.std.specs.Prelude.{if◌then◌else◌, List, ◌∷◌, length, Option, None, Some, refl}
use Rattle.std.specs.List.{find, range_with_len}
use Rattle.std.specs.Option.{option_map_or, option_or, option_to_list, option_and_then}
use Rattle.std.specs.Str.{bytes_eq}
use Rattle.std.proofs.Common.{ap, ◌∙◌, sym, arith}
use Rattle.std.proofs.lemmas.Bool.{false≢true}
use Rattle.std.proofs.lemmas.Bool.Decides.{nat_tests}
use Rattle.std.proofs.lemmas.List.Folds.{find-append}
use Rattle.std.proofs.lemmas.Slice.Eq.{bytes_eq-Decides}
use Rattle.nest_core.specs.declared.put.Put.{Put}
use Rattle.nest_core.specs.Museum.{Museum, is_container}
use Rattle.nest_core.specs.Puts.{last, with_put, chain, place, is_among, is_carried}
use Rattle.posting_core.specs.declared.verdict.Verdict.TheVariants.{Applied}
use Rattle.posting_core.specs.declared.entry.Entry.{Entry}
use Rattle.posting_core.specs.declared.stage.LineStage.{LineStage}
use Rattle.posting_core.specs.declared.stage.LineStage.TheVariants.{Awaiting, Away, Back, Here}
use Rattle.posting_core.specs.declared.stage.LineStage.TheVariants.{GivenBack}
use Rattle.posting_core.specs.Messages.{thing_no}
use Rattle.posting_core.specs.VerdictNames.{is_applied}
use Rattle.posting_core.specs.Agreements.{Agreement, agreement, agreements, agreement_by}
use Rattle.posting_core.specs.History.{puts, put_in, place_at, carried_at}
use Rattle.posting_core.specs.Loans.{Crossing, crossing_in, objects_in, stage_by, stage, objects}
use Rattle.posting_core.specs.Verdicts.{verdict, stage_eq, is_at_stage, carries_unlisted}
use Rattle.posting_core.specs.Verdicts.{carries_wrong_stage}
use Rattle.posting_core.specs.Lawful.{Follows, IsLawful}
use Rattle.posting_core.specs.Book.{Book, place_after}
use Rattle.posting_core.specs.Rows.{place_to}
use Rattle.posting_core.proofs.AppliedRows.{applied_is}
use Rattle.posting_core.proofs.Placed.{allowed_in, comes_along, stays}
use Rattle.posting_core.proofs.Carried.{carried_place}
use Rattle.posting_core.proofs.Among.{among_passing, not_among_passing, among_range, none_fails}

-- the entry is applied after P
pub record IsApplied (S : Museum) (depth : ℕ) (P : List Entry) (e : Entry) : Type 0 where
  pub lawful : IsLawful S depth P
  pub applied : is_applied e.verdict ≡ true
  pub judged : verdict S depth P e.message ≡ Applied

-- the object stays where it is: its place and its last put are as before
pub record Stays (S : Museum) (P : List Entry) (e : Entry) (o : ℕ) : Type 0 where
  pub place : place_at S (e ∷ P) o ≡ place_at S P o
  pub target : last (puts S (e ∷ P)) o ≡ last (puts S P) o

-- and its stages are as before
pub record IsLeft (S : Museum) (P : List Entry) (e : Entry) (o : ℕ) : Type 0 where
  pub stays : Stays S P e o
  pub stages : (loan : List ℕ) → stage S (e ∷ P) loan o ≡ stage S P loan o

-- by whether the entry is applied
pub by_verdict : {X : Type 0} {S : Museum} {depth : ℕ} {P : List Entry} {e : Entry} (o : ℕ)
    → Follows S depth P e → IsLawful S depth P →
    (IsApplied S depth P e → X) → (IsLeft S P e o → X) → X
by_verdict {X} {S} {P} {e} o follows lawful applied refused =
    elim (is_applied e.verdict) as (λ b. is_applied e.verdict ≡ b → X) [
      | true ↦
          λ h. applied (record {
            lawful = lawful;
            applied = h;
            judged = sym follows.judged ∙ applied_is e.verdict h;
          })
      | false ↦ λ h. refused (record {
        stays = record {
          place = ap (λ b. place (length S.things)
              (with_put (if b then put_in S P e.message else None) (puts S P)) o) h;
          target =
              ap (λ b. last (with_put (if b then put_in S P e.message else None) (puts S P)) o) h;
        };
        stages =
            λ loan.
            ap (λ b. option_map_or (λ s. s) (if b then stage_by S P e.message loan o else None)
            (stage S P loan o)) h;
      })
    ] refl

-- a put leaves the targets of other things as they were
other_target : (Q : List Put) (put : Put) (n o : ℕ) → is_carried n Q put.thing o ≡ false
    → last (put ∷ Q) o ≡ last Q o
other_target Q put n o apart =
    elim (put.thing == o) as (λ b. (put.thing == o) ≡ b
    → (if b then Some put.to else last Q o) ≡ last Q o) [
      | true ↦ λ e.
          let same : (o == put.thing) ≡ true = grind (arith, nat_tests) in
          absurd (false≢true (sym apart ∙ ap (λ b. b || is_among put.thing (chain n Q o)) same))
      | false ↦ λ e. refl
    ] refl

-- it moves along with a thing, to the place of the target
pub record GoesWith (S : Museum) (P : List Entry) (e : Entry) (put : Put) (o : ℕ) : Type 0 where
  pub carried : is_carried (length S.things) (puts S P) put.thing o ≡ true
  pub after : place_at S (e ∷ P) o ≡ place_to S P put.to
  pub before : place_at S P o ≡ place_at S P put.thing

-- the objects among the things that a thing carries

pub carried_among : (S : Museum) (P : List Entry) (x : List ℕ) (o : ℕ) → o < length S.things
    → is_container S o ≡ false → is_carried (length S.things) (puts S P) (thing_no S x) o ≡ true
    → is_among o (objects_in S P x) ≡ true
carried_among S P x o less object carried =
    among_passing (λ y. not (is_container S y)) (carried_at S P (thing_no S x)) o (ap not object)
    ∙ among_passing (is_carried (length S.things) (puts S P) (thing_no S x))
    (range_with_len 0 (length S.things)) o carried
    ∙ among_range 0 (length S.things) o (omega arith) (omega arith)

pub apart_not_among : (S : Museum) (P : List Entry) (x : List ℕ) (o : ℕ) → is_container S o ≡ false
    → is_carried (length S.things) (puts S P) (thing_no S x) o ≡ false
    → is_among o (objects_in S P x) ≡ false
apart_not_among S P x o object apart =
    among_passing (λ y. not (is_container S y)) (carried_at S P (thing_no S x)) o (ap not object)
    ∙ not_among_passing (is_carried (length S.things) (puts S P) (thing_no S x))
    (range_with_len 0 (length S.things)) o apart

-- it crosses: under this loan it gets the stage, under the others it keeps its own
pub record HasCrossed (S : Museum) (P : List Entry) (e : Entry) (c : Crossing) (o : ℕ) :
    Type 0 where
  pub here : stage S (e ∷ P) c.loan o ≡ c.stage
  pub others : (loan : List ℕ) → bytes_eq c.loan loan ≡ false
      → stage S (e ∷ P) loan o ≡ stage S P loan o

-- the stage under a crossing
abbrev crossed : Museum → List Entry → Option Crossing → List ℕ → ℕ → LineStage
crossed S P c loan o = option_map_or (λ s. s)
    (option_and_then (λ x. if bytes_eq x.loan loan && is_among o (objects_in S P x.thing) then Some
    x.stage else None) c) (stage S P loan o)

-- the effect of an applied entry on the object
module _ {S : Museum} {depth : ℕ} {P : List Entry} {e : Entry} (a : IsApplied S depth P e)
    (o : ℕ) where
  place_applied : place_at S (e ∷ P) o ≡ place_after S P e.message o
  place_applied =
      ap (λ b. place (length S.things)
      (with_put (if b then put_in S P e.message else None) (puts S P)) o) a.applied

  target_applied : (put : Option Put) → put_in S P e.message ≡ put
      → last (puts S (e ∷ P)) o ≡ last (with_put put (puts S P)) o
  target_applied put is =
      ap (λ b. last (with_put (if b then put_in S P e.message else None) (puts S P)) o) a.applied
      ∙ ap (λ p. last (with_put p (puts S P)) o) is

  pub nothing_put : put_in S P e.message ≡ None → Stays S P e o
  nothing_put none = record {
    place = place_applied ∙ ap (λ p. place (length S.things) (with_put p (puts S P)) o) none;
    target = target_applied None none;
  }

  -- by whether the thing that is put carries it
  pub by_carried : {X : Type 0} (put : Put) → put_in S P e.message ≡ Some put
      → (GoesWith S P e put o → X) → (is_carried (length S.things) (puts S P) put.thing o ≡ false
      → Stays S P e o → X) → X
  by_carried {X} put is goes apart =
      let B : Book = record { museum = S; depth = depth; posted = P } in
      let allowed = allowed_in B e.message a.lawful a.judged is in
      elim (is_carried (length S.things) (puts S P) put.thing o) as
      (λ b. is_carried (length S.things) (puts S P) put.thing o ≡ b → X) [
        | true ↦ λ h. goes (record {
          carried = h;
          after = place_applied ∙ comes_along e.message a.lawful is allowed o h;
          before = carried_place S depth P put.thing o a.lawful h;
        })
        | false ↦ λ h. apart h (record {
          place = place_applied ∙ stays e.message a.lawful is allowed o h;
          target = target_applied (Some put) is ∙ other_target (puts S P) put (length S.things) o h;
        })
      ] refl

  stage_crossed : (c : Option Crossing) → crossing_in e.message ≡ c → (loan : List ℕ)
      → stage S (e ∷ P) loan o ≡ crossed S P c loan o
  stage_crossed c is loan =
      ap (λ b. option_map_or (λ s. s) (if b then stage_by S P e.message loan o else None)
      (stage S P loan o)) a.applied
      ∙ ap (λ c. crossed S P c loan o) is

  pub nothing_crosses : crossing_in e.message ≡ None → (loan : List ℕ)
      → stage S (e ∷ P) loan o ≡ stage S P loan o
  nothing_crosses none loan = stage_crossed None none loan

  pub crosses_without : (c : Crossing) → crossing_in e.message ≡ Some c
      → is_among o (objects_in S P c.thing) ≡ false → (loan : List ℕ)
      → stage S (e ∷ P) loan o ≡ stage S P loan o
  crosses_without c is apart loan = stage_crossed (Some c) is loan
      ∙ ap (λ b. option_map_or (λ s. s) (if b then Some c.stage else None) (stage S P loan o))
      (ap (λ b. bytes_eq c.loan loan && b) apart ∙ never (bytes_eq c.loan loan))
    where
      never : (b : Bool) → (b && false) ≡ false
      never true = refl
      never false = refl

  pub crosses_with : (c : Crossing) → crossing_in e.message ≡ Some c
      → is_among o (objects_in S P c.thing) ≡ true → HasCrossed S P e c o
  crosses_with c is among = record {
    here = stage_crossed (Some c) is c.loan
        ∙ ap (λ b. option_map_or (λ s. s)
        (if b && is_among o (objects_in S P c.thing) then Some c.stage else None)
        (stage S P c.loan o)) ((bytes_eq-Decides c.loan c.loan).1 refl)
        ∙ ap (λ b. option_map_or (λ s. s) (if b then Some c.stage else None)
        (stage S P c.loan o)) among;
    others = λ loan other. stage_crossed (Some c) is loan
        ∙ ap (λ b. option_map_or (λ s. s)
        (if b && is_among o (objects_in S P c.thing) then Some c.stage else None)
        (stage S P loan o)) other;
  }

-- the object is at the stage under no loan, or under this one alone
abbrev pub AtNone : Museum → List Entry → ℕ → LineStage → Type 0
AtNone S P o s = (loan : List ℕ) → stage S P loan o ≢ s

abbrev pub AtOne : Museum → List Entry → ℕ → LineStage → List ℕ → Type 0
AtOne S P o s loan = (stage S P loan o ≡ s)
    × ((other : List ℕ) → stage S P other o ≡ s → other ≡ loan)

pub none_left : (S : Museum) (P : List Entry) (e : Entry) (o : ℕ) (s : LineStage)
    → ((loan : List ℕ) → stage S (e ∷ P) loan o ≡ stage S P loan o) → AtNone S P o s
    → AtNone S (e ∷ P) o s
none_left S P e o s left none = λ loan at. none loan (sym (left loan) ∙ at)

pub one_left : (S : Museum) (P : List Entry) (e : Entry) (o : ℕ) (s : LineStage) (loan : List ℕ)
    → ((loan : List ℕ) → stage S (e ∷ P) loan o ≡ stage S P loan o) → AtOne S P o s loan
    → AtOne S (e ∷ P) o s loan
one_left S P e o s loan left one =
    (left loan ∙ one.0, λ other at. one.1 other (sym (left other) ∙ at))

-- by whether two loans are the same
by_loan : (X : Type 0) (a b : List ℕ) → (a ≡ b → X) → (bytes_eq a b ≡ false → X) → X
by_loan X a b same other = elim (bytes_eq a b) as (λ t. bytes_eq a b ≡ t → X) [
  | true ↦ λ e. same ((bytes_eq-Decides a b).0 e)
  | false ↦ λ e. other e
] refl

-- an object that was at the stage under no loan, and gets to it under this one
pub went : {S : Museum} {P : List Entry} {e : Entry} {c : Crossing} {o : ℕ} → HasCrossed S P e c o
    → AtNone S P o c.stage → AtOne S (e ∷ P) o c.stage c.loan
went {c} has none = (
  has.here,
  λ other at. by_loan _ c.loan other (λ same. sym same)
      (λ apart. absurd (none other (sym (has.others other apart) ∙ at))),
)

-- an object that was at the stage under this loan alone, and leaves that stage
pub came : {S : Museum} {P : List Entry} {e : Entry} {c : Crossing} {o : ℕ} (s : LineStage)
    → HasCrossed S P e c o → AtOne S P o s c.loan → c.stage ≢ s → AtNone S (e ∷ P) o s
came {S} {P} {e} {c} {o} s has one leaves = λ loan at. by_loan _ c.loan loan
    (λ same. leaves (sym has.here ∙ ap (λ l. stage S (e ∷ P) l o) same ∙ at))
    (λ apart. let same : loan ≡ c.loan = one.1 loan (sym (has.others loan apart) ∙ at) in
    absurd (false≢true (sym apart ∙ (bytes_eq-Decides c.loan loan).1 (sym same))))

-- the objects that cross are listed, at the stage needed
pub record IsReady (S : Museum) (P : List Entry) (c : Crossing) (o : ℕ) : Type 0 where
  pub listed : is_among o (objects S P c.loan) ≡ true
  pub wanted : stage S P c.loan o ≡ c.wanted

stage_same : (a b : LineStage) → stage_eq a b ≡ true → b ≡ a
stage_same Awaiting Awaiting h = refl
stage_same Away Away h = refl
stage_same Back Back h = refl
stage_same Here Here h = refl
stage_same GivenBack GivenBack h = refl
stage_same _ _ h = absurd (false≢true h)

pub ready : (S : Museum) (P : List Entry) (c : Crossing) (o : ℕ) → carries_unlisted S P c ≡ false
    → carries_wrong_stage S P c ≡ false → is_among o (objects_in S P c.thing) ≡ true
    → IsReady S P c o
ready S P c o unlisted wrong among =
    let at = none_fails (is_at_stage S P c.loan c.wanted) (objects_in S P c.thing) o wrong among in
    elim (is_among o (objects S P c.loan)) as (λ b. is_among o (objects S P c.loan) ≡ b
    → option_map_or (stage_eq c.wanted) (if b then Some (stage S P c.loan o) else None) false
    ≡ true → IsReady S P c o) [
      | true ↦ λ e k. record { listed = e; wanted = stage_same c.wanted (stage S P c.loan o) k }
      | false ↦ λ e k. absurd (false≢true k)
    ] refl at

-- an agreement stays
pub agreement_stays : (P : List Entry) (e : Entry) (loan : List ℕ) (t : Agreement)
    → agreement P loan ≡ Some t → agreement (e ∷ P) loan ≡ Some t
agreement_stays P e loan t is =
    find-append (λ (u : Agreement). bytes_eq loan u.loan) (agreements P)
    (option_to_list (agreement_by e.verdict e.message))
    ∙ ap (λ o. option_or o (find (λ u. bytes_eq loan u.loan)
    (option_to_list (agreement_by e.verdict e.message)))) is
