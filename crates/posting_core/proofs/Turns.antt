-- The effect of an applied entry of each kind on an object that it places.
use Rattle.std.specs.Prelude.{ℕ, ℤ, ◌≡◌, ◌<◌, true, false, not, List, [], ◌∷◌, length, Option, None}
use Rattle.std.specs.Prelude.{Some, refl, is_some, slice_get}
use Rattle.std.specs.Option.{option_map, option_map_or}
use Rattle.std.proofs.Common.{ap, ◌∙◌, sym, subst}
use Rattle.std.proofs.lemmas.Bool.{not-false, false≢true}
use Rattle.std.proofs.lemmas.Option.{slice_get-get_or}
use Rattle.codes_core.specs.Loan.{is_out}
use Rattle.nest_core.specs.declared.put.Put.{Put}
use Rattle.nest_core.specs.declared.put.Target.TheVariants.{At, Within}
use Rattle.nest_core.specs.Museum.{Museum, is_container, is_inside, is_elsewhere}
use Rattle.nest_core.specs.Puts.{is_carried}
use Rattle.posting_core.specs.declared.message.Message.{Message}
use Rattle.posting_core.specs.declared.message.Message.TheVariants.{Move, Pack, Agree, Authorise}
use Rattle.posting_core.specs.declared.message.Message.TheVariants.{Exit, Return, Receive, SignOff}
use Rattle.posting_core.specs.declared.message.Message.TheVariants.{Extend}
use Rattle.posting_core.specs.declared.verdict.Verdict.TheVariants.{Applied}
use Rattle.posting_core.specs.declared.entry.Entry.{Entry}
use Rattle.posting_core.specs.declared.stage.LineStage.TheVariants.{Awaiting, Away, Back, Here}
use Rattle.posting_core.specs.Messages.{thing_no, place_no}
use Rattle.posting_core.specs.Agreements.{Agreement, agreement, is_agreed}
use Rattle.posting_core.specs.History.{puts, put_in, place_at}
use Rattle.posting_core.specs.Loans.{Crossing, crossing_in, exit_of, stage}
use Rattle.posting_core.specs.Verdicts.{verdict, first_of, move_rows, pack_rows, exit_rows}
use Rattle.posting_core.specs.Verdicts.{return_rows, receive_rows, is_known_place_at, is_away}
use Rattle.posting_core.specs.Verdicts.{stands_inside, carries_unlisted, carries_wrong_stage}
use Rattle.posting_core.specs.Rows.{place_to}
use Rattle.posting_core.proofs.AppliedRows.{none_holds}
use Rattle.posting_core.proofs.Known.{place_known_in}
use Rattle.posting_core.proofs.Placed.{place_below}
use Rattle.posting_core.proofs.Accounted.{IsApplied, IsLeft, GoesWith, HasCrossed, IsReady}
use Rattle.posting_core.proofs.Accounted.{nothing_put, by_carried, carried_among, apart_not_among}
use Rattle.posting_core.proofs.Accounted.{nothing_crosses, crosses_without, crosses_with, ready}

-- a place of the setup is inside or elsewhere
elsewhere_is : (S : Museum) (p : ℕ) → p < length S.places → is_elsewhere S p ≡ not (is_inside S p)
elsewhere_is S p less =
    let is = slice_get-get_or S.places p ([], false) less in
    ap (λ o. option_map_or (λ r. not r.1) o false) is
    ∙ sym (ap (λ o. not (option_map_or (λ r. r.1) o false)) is)

inside_if_not_elsewhere : (S : Museum) (p : ℕ) → p < length S.places → is_elsewhere S p ≡ false
    → is_inside S p ≡ true
inside_if_not_elsewhere S p less h = not-false (is_inside S p) (sym (elsewhere_is S p less) ∙ h)

pub elsewhere_if_not_inside : (S : Museum) (p : ℕ) → p < length S.places → is_inside S p ≡ false
    → is_elsewhere S p ≡ true
elsewhere_if_not_inside S p less h = elsewhere_is S p less ∙ ap not h

pub not_elsewhere_inside : (S : Museum) (p : ℕ) → is_inside S p ≡ true → is_elsewhere S p ≡ false
not_elsewhere_inside S p = elim (slice_get S.places p) as
    (λ o. option_map_or (λ r. r.1) o false ≡ true → option_map_or (λ r. not r.1) o false ≡ false)
    [ None ↦ λ h. refl | Some row ↦ λ h. ap not h ]

-- a thing's place is one inside the museum
pub record IsInside (S : Museum) (place : Option ℕ) : Type 0 where
  pub at : ℕ
  pub is : place ≡ Some at
  pub inside : is_inside S at ≡ true

inside_is : (S : Museum) (place : Option ℕ) → option_map_or (is_inside S) place false ≡ true
    → IsInside S place
inside_is S None h = absurd (false≢true h)
inside_is S (Some p) h = record { at = p; is = refl; inside = h }

-- the place of a message is known and isn't elsewhere
comes_inside : (S : Museum) (P : List Entry) (p : List ℕ) → not (is_known_place_at S P p) ≡ false
    → is_elsewhere S (place_no S p) ≡ false → IsInside S (Some (place_no S p))
comes_inside S P p known there =
    record {
      at = place_no S p;
      is = refl;
      inside = inside_if_not_elsewhere S (place_no S p)
          (place_below S p (place_known_in S P p known)) there;
    }

-- an object of the setup
pub record IsObject (S : Museum) (o : ℕ) : Type 0 where
  pub below : o < length S.things
  pub object : is_container S o ≡ false

-- it moves with a thing that is here, to a place inside
pub record HasMoved (S : Museum) (P : List Entry) (e : Entry) (o : ℕ) : Type 0 where
  pub thing : ℕ
  pub carried : is_carried (length S.things) (puts S P) thing o ≡ true
  pub before : place_at S P o ≡ place_at S P thing
  pub here : is_away S thing (place_at S P thing) ≡ false
  pub after : IsInside S (place_at S (e ∷ P) o)
  pub stages : (loan : List ℕ) → stage S (e ∷ P) loan o ≡ stage S P loan o

-- it goes from inside to the place of the loan's partner
pub record HasExited (S : Museum) (P : List Entry) (e : Entry) (o : ℕ) : Type 0 where
  pub x : List ℕ
  pub loan : List ℕ
  pub before : IsInside S (place_at S P o)
  pub agreed : Agreement
  pub found : agreement P loan ≡ Some agreed
  pub after : place_at S (e ∷ P) o ≡ Some (place_no S agreed.partner)
  pub crossed : HasCrossed S P e (exit_of x loan) o
  pub ready : IsReady S P (exit_of x loan) o

-- it comes back under a loan out
pub record HasReturned (S : Museum) (P : List Entry) (e : Entry) (o : ℕ) : Type 0 where
  pub x : List ℕ
  pub loan : List ℕ
  pub loan_out : is_out loan ≡ true
  pub after : IsInside S (place_at S (e ∷ P) o)
  pub crossed : HasCrossed S P e (record { thing = x; loan = loan; wanted = Away; stage = Back }) o
  pub ready : IsReady S P (record { thing = x; loan = loan; wanted = Away; stage = Back }) o

-- it comes under a loan in, and wasn't inside
pub record HasReceived (S : Museum) (P : List Entry) (e : Entry) (o : ℕ) : Type 0 where
  pub x : List ℕ
  pub loan : List ℕ
  pub loan_in : is_out loan ≡ false
  pub before : option_map_or (is_inside S) (place_at S P o) false ≡ false
  pub after : IsInside S (place_at S (e ∷ P) o)
  pub crossed : HasCrossed S P e
      (record { thing = x; loan = loan; wanted = Awaiting; stage = Here }) o
  pub ready : IsReady S P (record { thing = x; loan = loan; wanted = Awaiting; stage = Here }) o

-- the possible effects on an object
pub data Turn (S : Museum) (P : List Entry) (e : Entry) (o : ℕ) : Type 0 where
  Left : IsLeft S P e o → Turn S P e o
  Moved : HasMoved S P e o → Turn S P e o
  Exited : HasExited S P e o → Turn S P e o
  Returned : HasReturned S P e o → Turn S P e o
  Received : HasReceived S P e o → Turn S P e o

-- the effect of an applied entry on an object
module _ {S : Museum} {depth : ℕ} {P : List Entry} {e : Entry} {o : ℕ} (a : IsApplied S depth P e)
    (object : IsObject S o) where
  -- of a message that is no crossing and puts nothing
  nothing : put_in S P e.message ≡ None → crossing_in e.message ≡ None → Turn S P e o
  nothing unput uncrossed =
      Left (record { stays = nothing_put a o unput; stages = nothing_crosses a o uncrossed })

  -- of one that is no crossing
  moves : (put : Put) → put_in S P e.message ≡ Some put → crossing_in e.message ≡ None →
      is_away S put.thing (place_at S P put.thing) ≡ false → IsInside S (place_to S P put.to)
      → Turn S P e o
  moves put is uncrossed here to = by_carried a o put is
      (λ goes. Moved (record {
        thing = put.thing;
        carried = goes.carried;
        before = goes.before;
        here = here;
        after = subst (IsInside S) (sym goes.after) to;
        stages = nothing_crosses a o uncrossed;
      }))
      (λ apart stays. Left (record { stays = stays; stages = nothing_crosses a o uncrossed }))

  -- by whether the object crosses
  crosses : (put : Put) (c : Crossing) → put_in S P e.message ≡ Some put
      → crossing_in e.message ≡ Some c → put.thing ≡ thing_no S c.thing
      → carries_unlisted S P c ≡ false → carries_wrong_stage S P c ≡ false →
      (GoesWith S P e put o → HasCrossed S P e c o → IsReady S P c o → Turn S P e o) → Turn S P e o
  crosses put c is cross same unlisted wrong turn = by_carried a o put is
      (λ goes. let among = carried_among S P c.thing o object.below object.object
      (subst (λ x. is_carried (length S.things) (puts S P) x o ≡ true) same goes.carried) in
      turn goes (crosses_with a o c cross among) (ready S P c o unlisted wrong among))
      (λ apart stays. Left (record {
        stays = stays;
        stages = crosses_without a o c cross
            (apart_not_among S P c.thing o object.object
            (subst (λ x. is_carried (length S.things) (puts S P) x o ≡ false) same apart));
      }))

  exits : (x loan : List ℕ) (day : ℤ) → e.message ≡ Exit day x loan
      → first_of (exit_rows S P x loan day) ≡ Applied → Turn S P e o
  exits x loan day is h =
      let none = none_holds (exit_rows S P x loan day) refl h in
      let stands = inside_is S (place_at S P (thing_no S x))
      (not-false (stands_inside S P x) none.1.1.1.1.0) in
      elim (agreement P loan) as (λ t. agreement P loan ≡ t → is_some t ≡ true → Turn S P e o) [
        | None ↦ λ found agreed. absurd (false≢true agreed)
        | Some t ↦ λ found agreed.
            let put : Put = record { thing = thing_no S x; to = At (place_no S t.partner) } in
            let puts_it : put_in S P e.message ≡ Some put =
            ap (put_in S P) is
            ∙ ap (option_map (λ t. record {
              thing = thing_no S x;
              to = At (place_no S t.partner);
            })) found in
            crosses put (exit_of x loan) puts_it (ap crossing_in is) refl none.1.1.1.1.1.0
            none.1.1.1.1.1.1.0
            (λ goes crossed ready. Exited (record {
              x = x;
              loan = loan;
              before = subst (IsInside S) (sym goes.before) stands;
              agreed = t;
              found = found;
              after = goes.after;
              crossed = crossed;
              ready = ready;
            }))
      ] refl (not-false (is_agreed P loan) none.1.0)

  returns : (x loan p : List ℕ) (day : ℤ) → e.message ≡ Return day x loan p
      → first_of (return_rows S P x loan p) ≡ Applied → Turn S P e o
  returns x loan p day is h =
      let none = none_holds (return_rows S P x loan p) refl h in
      crosses (record { thing = thing_no S x; to = At (place_no S p) })
      (record { thing = x; loan = loan; wanted = Away; stage = Back })
      (ap (put_in S P) is) (ap crossing_in is) refl none.1.1.1.1.1.1.1.0 none.1.1.1.1.1.1.1.1.0
      (λ goes crossed ready. Returned (record {
        x = x;
        loan = loan;
        loan_out = not-false (is_out loan) none.1.1.1.1.1.0;
        after = subst (IsInside S) (sym goes.after) (comes_inside S P p none.1.0 none.1.1.0);
        crossed = crossed;
        ready = ready;
      }))

  receives : (x loan p : List ℕ) (day : ℤ) → e.message ≡ Receive day x loan p
      → first_of (receive_rows S P x loan p day) ≡ Applied → Turn S P e o
  receives x loan p day is h =
      let none = none_holds (receive_rows S P x loan p day) refl h in
      crosses (record { thing = thing_no S x; to = At (place_no S p) })
      (record { thing = x; loan = loan; wanted = Awaiting; stage = Here })
      (ap (put_in S P) is) (ap crossing_in is) refl none.1.1.1.1.1.1.1.1.0 none.1.1.1.1.1.1.1.1.1.0
      (λ goes crossed ready. Received (record {
        x = x;
        loan = loan;
        loan_in = none.1.1.1.1.1.1.0;
        before = ap (λ o. option_map_or (is_inside S) o false) goes.before ∙ none.1.1.1.1.1.1.1.0;
        after = subst (IsInside S) (sym goes.after) (comes_inside S P p none.1.0 none.1.1.0);
        crossed = crossed;
        ready = ready;
      }))

  by : (m : Message) → e.message ≡ m → verdict S depth P m ≡ Applied → Turn S P e o
  by (Move day x p) is h =
      let none = none_holds (move_rows S P x p) refl h in
      moves (record { thing = thing_no S x; to = At (place_no S p) }) (ap (put_in S P) is)
      (ap crossing_in is) none.1.1.1.0 (comes_inside S P p none.1.0 none.1.1.0)
  by (Pack day x c) is h =
      let none = none_holds (pack_rows S depth P x c) refl h in
      moves (record { thing = thing_no S x; to = Within (thing_no S c) }) (ap (put_in S P) is)
      (ap crossing_in is) none.1.1.0
      (inside_is S (place_at S P (thing_no S c)) (not-false (stands_inside S P c) none.1.1.1.0))
  by (Agree first final loan partner objects) is h =
      nothing (ap (put_in S P) is) (ap crossing_in is)
  by (Authorise name loan) is h = nothing (ap (put_in S P) is) (ap crossing_in is)
  by (Exit day x loan) is h = exits x loan day is h
  by (Return day x loan p) is h = returns x loan p day is h
  by (Receive day x loan p) is h = receives x loan p day is h
  by (SignOff name) is h = nothing (ap (put_in S P) is) (ap crossing_in is)
  by (Extend final loan) is h = nothing (ap (put_in S P) is) (ap crossing_in is)

  pub turn : Turn S P e o
  turn = by e.message refl a.judged
