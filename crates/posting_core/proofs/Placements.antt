-- A thing that was put has a place.
use Rattle.std.specs.Prelude.{ℕ, ◌≡◌, true, false, List, [], ◌∷◌, Option, None, Some, refl, is_some}
use Rattle.std.specs.Option.{option_map, option_map_or}
use Rattle.std.proofs.Common.{ap, ◌∙◌, sym, subst}
use Rattle.std.proofs.lemmas.Bool.{false≢true, not-false}
use Rattle.std.proofs.lemmas.Option.{none-some, same_Some}
use Rattle.nest_core.specs.declared.put.Put.{Put}
use Rattle.nest_core.specs.declared.put.Target.TheVariants.{At}
use Rattle.nest_core.specs.Museum.{Museum, is_inside}
use Rattle.nest_core.specs.Puts.{last}
use Rattle.posting_core.specs.declared.message.Message.{Message}
use Rattle.posting_core.specs.declared.message.Message.TheVariants.{Move, Pack, Agree, Authorise}
use Rattle.posting_core.specs.declared.message.Message.TheVariants.{Exit, Return, Receive, SignOff}
use Rattle.posting_core.specs.declared.message.Message.TheVariants.{Extend}
use Rattle.posting_core.specs.declared.entry.Entry.{Entry}
use Rattle.posting_core.specs.declared.verdict.Verdict.TheVariants.{Applied}
use Rattle.posting_core.specs.Messages.{thing_no, place_no}
use Rattle.posting_core.specs.Agreements.{Agreement, agreement}
use Rattle.posting_core.specs.History.{puts, put_in, place_at}
use Rattle.posting_core.specs.Verdicts.{verdict, pack_rows, stands_inside}
use Rattle.posting_core.specs.Lawful.{IsLawful}
use Rattle.posting_core.specs.Rows.{place_to}
use Rattle.posting_core.proofs.Accounted.{IsApplied, Stays, by_verdict, by_carried, nothing_put}
use Rattle.posting_core.proofs.AppliedRows.{none_holds}

-- it comes to a place: a container that accepts a thing has one
inside_placed : (S : Museum) (place : Option ℕ) → option_map_or (is_inside S) place false ≡ true
    → is_some place ≡ true
inside_placed S None h = h
inside_placed S (Some p) h = refl

leaves_to : (S : Museum) (P : List Entry) (x : List ℕ) (t : Option Agreement) (put : Put)
    → option_map (λ t. record { thing = thing_no S x; to = At (place_no S t.partner) }) t ≡ Some put
    → is_some (place_to S P put.to) ≡ true
leaves_to S P x None put is = absurd (none-some _ is)
leaves_to S P x (Some t) put is =
    subst (λ (p : Put). is_some (place_to S P p.to) ≡ true) (same_Some _ put is) refl

target_placed : (S : Museum) (depth : ℕ) (P : List Entry) (m : Message) (put : Put)
    → verdict S depth P m ≡ Applied → put_in S P m ≡ Some put → is_some (place_to S P put.to) ≡ true
target_placed S depth P (Move day x p) put applied is =
    subst (λ (p : Put). is_some (place_to S P p.to) ≡ true) (same_Some _ put is) refl
target_placed S depth P (Pack day x c) put applied is =
    let inside = not-false (stands_inside S P c)
    (none_holds (pack_rows S depth P x c) refl applied).1.1.1.0 in
    subst (λ (p : Put). is_some (place_to S P p.to) ≡ true) (same_Some _ put is)
    (inside_placed S (place_at S P (thing_no S c)) inside)
target_placed S depth P (Exit day x loan) put applied is = leaves_to S P x (agreement P loan) put is
target_placed S depth P (Return day x loan p) put applied is =
    subst (λ (p : Put). is_some (place_to S P p.to) ≡ true) (same_Some _ put is) refl
target_placed S depth P (Receive day x loan p) put applied is =
    subst (λ (p : Put). is_some (place_to S P p.to) ≡ true) (same_Some _ put is) refl
target_placed S depth P (Agree first final loan partner objects) put applied is =
    absurd (none-some _ is)
target_placed S depth P (Authorise name loan) put applied is = absurd (none-some _ is)
target_placed S depth P (SignOff name) put applied is = absurd (none-some _ is)
target_placed S depth P (Extend final loan) put applied is = absurd (none-some _ is)

abbrev HasPlace : Museum → List Entry → ℕ → Type 0
HasPlace S P x = is_some (last (puts S P) x) ≡ true → is_some (place_at S P x) ≡ true

stays_placed : {S : Museum} {P : List Entry} {e : Entry} (x : ℕ) → Stays S P e x → HasPlace S P x
    → HasPlace S (e ∷ P) x
stays_placed x stays before put =
    ap is_some stays.place ∙ before (sym (ap is_some stays.target) ∙ put)

applied_placed : {S : Museum} {depth : ℕ} {P : List Entry} {e : Entry} (x : ℕ)
    → IsApplied S depth P e → HasPlace S P x → HasPlace S (e ∷ P) x
applied_placed {S} {depth} {P} {e} x a before =
    elim (put_in S P e.message) as (λ o. put_in S P e.message ≡ o → HasPlace S (e ∷ P) x) [
      | None ↦ λ is. stays_placed x (nothing_put a x is) before
      | Some put ↦ λ is. by_carried a x put is
          (λ goes done. ap is_some goes.after ∙ target_placed S depth P e.message put a.judged is)
          (λ apart stays. stays_placed x stays before)
    ] refl

pub put_has_place : (S : Museum) (depth : ℕ) (P : List Entry) (x : ℕ) → IsLawful S depth P
    → is_some (last (puts S P) x) ≡ true → is_some (place_at S P x) ≡ true
put_has_place S depth [] x lawful put = absurd (false≢true put)
put_has_place S depth (e ∷ P) x (follows, lawful) put =
    let before = put_has_place S depth P x lawful in
    let after : HasPlace S (e ∷ P) x =
    by_verdict x follows lawful (λ a. applied_placed x a before)
    (λ same. stays_placed x same.stays before) in
    after put
