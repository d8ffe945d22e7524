-- Over a lawful list a borrowed object is with its lender, or it is a guest under one loan in.
use Rattle.std.specs.Prelude.{ℕ, ◌≡◌, ◌⊎◌, true, false, if◌then◌else◌, List, [], ◌∷◌, None, Some}
use Rattle.std.specs.Prelude.{refl, IfSome}
use Rattle.std.specs.Option.{option_map_or}
use Rattle.std.proofs.Common.{ap, ◌∙◌, sym, subst, inl, inr}
use Rattle.std.proofs.lemmas.Bool.{false≢true}
use Rattle.std.proofs.lemmas.Option.{none-some}
use Rattle.codes_core.specs.Loan.{is_out}
use Rattle.nest_core.specs.Museum.{Museum, is_borrowed, is_inside, is_elsewhere}
use Rattle.nest_core.specs.Puts.{last}
use Rattle.posting_core.specs.declared.entry.Entry.{Entry}
use Rattle.posting_core.specs.declared.stage.LineStage.TheVariants.{Awaiting, Away, Here, GivenBack}
use Rattle.posting_core.specs.History.{puts, place_at}
use Rattle.posting_core.specs.Loans.{stage}
use Rattle.posting_core.specs.Verdicts.{is_away}
use Rattle.posting_core.specs.Lawful.{IsLawful}
use Rattle.posting_core.specs.Book.{Book}
use Rattle.posting_core.specs.Accountability.{IsWithLender, IsGuest}
use Rattle.posting_core.proofs.Accounted.{IsLeft, AtNone, AtOne, by_verdict, none_left, one_left}
use Rattle.posting_core.proofs.Accounted.{went, came}
use Rattle.posting_core.proofs.Carried.{carried_alone}
use Rattle.posting_core.proofs.Owners.{IsListed, listed_is, listed_stays, line_listed, line_stage}
use Rattle.posting_core.proofs.Owners.{borrowed_object, borrowed_listed, partner_elsewhere}
use Rattle.posting_core.proofs.Turns.{IsInside, IsObject, HasMoved, HasExited, HasReceived, Turn}
use Rattle.posting_core.proofs.Turns.{Left, Moved, Exited, Returned, Received, turn}

-- an object without a place was never put anywhere
unplaced : {S : Museum} {P : List Entry} {e : Entry} {o : ℕ} → place_at S (e ∷ P) o ≡ None
    → (place_at S P o ≡ None → last (puts S P) o ≡ None) → Turn S P e o
    → last (puts S (e ∷ P)) o ≡ None
unplaced none before (Left same) = same.stays.target ∙ before (sym same.stays.place ∙ none)
unplaced none before (Moved m) = absurd (none-some _ (sym none ∙ m.after.is))
unplaced none before (Exited x) = absurd (none-some _ (sym none ∙ x.after))
unplaced none before (Returned r) = absurd (none-some _ (sym none ∙ r.after.is))
unplaced none before (Received r) = absurd (none-some _ (sym none ∙ r.after.is))

never_put : (S : Museum) (depth : ℕ) (P : List Entry) (o : ℕ) → IsLawful S depth P → IsObject S o
    → place_at S P o ≡ None → last (puts S P) o ≡ None
never_put S depth [] o lawful object none = refl
never_put S depth (e ∷ P) o (follows, lawful) object none =
    let before = never_put S depth P o lawful object in
    by_verdict o follows lawful (λ a. unplaced none before (turn a object))
    (λ same. unplaced none before (Left same))

-- with its lender, and a guest, by the stages
record WithLender (S : Museum) (P : List Entry) (o : ℕ) : Type 0 where
  place : IfSome (place_at S P o) (λ p. is_elsewhere S p ≡ true)
  loans : AtNone S P o Here

record Guest (S : Museum) (P : List Entry) (o : ℕ) : Type 0 where
  loan : List ℕ
  loan_in : is_out loan ≡ false
  here : AtOne S P o Here loan
  listed : IsListed S P loan o
  place : IsInside S (place_at S P o)

abbrev Account : Museum → List Entry → ℕ → Type 0
Account S P o = WithLender S P o ⊎ Guest S P o

-- the same stages at a place inside
stays_guest : {S : Museum} {P : List Entry} {e : Entry} {o : ℕ}
    → ((loan : List ℕ) → stage S (e ∷ P) loan o ≡ stage S P loan o)
    → IsInside S (place_at S (e ∷ P) o) → Guest S P o → Guest S (e ∷ P) o
stays_guest {S} {P} {e} {o} stages place guest = record {
  loan = guest.loan;
  loan_in = guest.loan_in;
  here = one_left S P e o Here guest.loan stages guest.here;
  listed = listed_stays S P e guest.loan o guest.listed;
  place = place;
}

left : {S : Museum} {P : List Entry} {e : Entry} {o : ℕ} → IsLeft S P e o → Account S P o
    → Account S (e ∷ P) o
left {S} {P} {e} {o} same (inl away) = inl (record {
  place = subst (λ q. IfSome q (λ p. is_elsewhere S p ≡ true)) (sym same.stays.place) away.place;
  loans = none_left S P e o Here same.stages away.loans;
})
left {S} same (inr guest) =
    inr (stays_guest same.stages (subst (IsInside S) (sym same.stays.place) guest.place) guest)

received : {S : Museum} {P : List Entry} {e : Entry} {o : ℕ} → HasReceived S P e o → Account S P o
    → Account S (e ∷ P) o
received {S} {P} {e} {o} r (inl away) = inr (record {
  loan = r.loan;
  loan_in = r.loan_in;
  here = went r.crossed away.loans;
  listed = listed_stays S P e r.loan o (listed_is S P r.loan o r.ready.listed);
  place = r.after;
})
received {S} {P} {o} r (inr guest) =
    let inside : option_map_or (is_inside S) (place_at S P o) false ≡ true =
    ap (λ q. option_map_or (is_inside S) q false) guest.place.is ∙ guest.place.inside in
    absurd (false≢true (sym r.before ∙ inside))

-- for a borrowed object, entry by entry
module _ (S : Museum) (depth : ℕ) (o : ℕ) (borrowed : is_borrowed S o ≡ true) where
  -- an object with its lender is in no thing that may be moved
  not_moved : {P : List Entry} {e : Entry} → IsLawful S depth P → HasMoved S P e o
      → IfSome (place_at S P o) (λ p. is_elsewhere S p ≡ true) → ⊥
  not_moved {P} lawful m = elim (place_at S P o) as (λ q. place_at S P o ≡ q
      → IfSome q (λ p. is_elsewhere S p ≡ true) → ⊥) [
        | None ↦ λ none away.
            let alone = carried_alone S P m.thing o
            (never_put S depth P o lawful (borrowed_object S o borrowed) none) m.carried in
            let here : is_borrowed S m.thing ≡ false =
            ap (is_away S m.thing) (sym none ∙ m.before) ∙ m.here in
            false≢true (sym here ∙ sym (ap (is_borrowed S) alone) ∙ borrowed)
        | Some p ↦ λ at away.
            let here : is_elsewhere S p ≡ false =
            ap (is_away S m.thing) (sym at ∙ m.before) ∙ m.here in
            false≢true (sym here ∙ away)
      ] refl

  moved : {P : List Entry} {e : Entry} → IsLawful S depth P → HasMoved S P e o → Account S P o
      → Account S (e ∷ P) o
  moved lawful m (inl away) = absurd (not_moved lawful m away.place)
  moved lawful m (inr guest) = inr (stays_guest m.stages m.after guest)

  exited : {P : List Entry} {e : Entry} → IsLawful S depth P → HasExited S P e o → Account S P o
      → Account S (e ∷ P) o
  exited {P} {e} lawful x account =
      let loan_in = borrowed_listed S depth P x.loan o lawful borrowed x.ready.listed in
      let here : stage S P x.loan o ≡ Here =
      x.ready.wanted ∙ ap (λ b. if b then Awaiting else Here) loan_in in
      let leaves : (if is_out x.loan then Away else GivenBack) ≡ GivenBack =
      ap (λ b. if b then Away else GivenBack) loan_in in
      by here leaves account
    where
      by : stage S P x.loan o ≡ Here → (if is_out x.loan then Away else GivenBack) ≡ GivenBack
          → Account S P o → Account S (e ∷ P) o
      by here leaves (inl away) = absurd (away.loans x.loan here)
      by here leaves (inr guest) =
          let same : x.loan ≡ guest.loan = guest.here.1 x.loan here in
          inl (record {
            place = subst (λ q. IfSome q (λ p. is_elsewhere S p ≡ true)) (sym x.after)
                (partner_elsewhere S depth P x.loan x.agreed lawful x.found);
            loans = came Here x.crossed (subst (AtOne S P o Here) (sym same) guest.here)
                (λ back. let q : GivenBack ≡ Here = sym leaves ∙ back in cc);
          })

  applied : {P : List Entry} {e : Entry} → IsLawful S depth P → Account S P o → Turn S P e o
      → Account S (e ∷ P) o
  applied lawful account (Left same) = left same account
  applied lawful account (Moved m) = moved lawful m account
  applied lawful account (Exited x) = exited lawful x account
  applied {P} lawful account (Returned r) =
      absurd (false≢true (sym (borrowed_listed S depth P r.loan o lawful borrowed r.ready.listed)
      ∙ r.loan_out))
  applied lawful account (Received r) = received r account

  accounted : (P : List Entry) → IsLawful S depth P → Account S P o
  accounted [] lawful =
      inl (record { place = tt; loans = λ loan e. let q : Awaiting ≡ Here = e in cc })
  accounted (e ∷ P) (follows, lawful) =
      let before = accounted P lawful in
      by_verdict o follows lawful (λ a. applied lawful before
      (turn a (borrowed_object S o borrowed))) (λ same. left same before)

pub borrowed_accounted : (B : Book) (o : ℕ) → IsLawful B.museum B.depth B.posted
    → is_borrowed B.museum o ≡ true → IsWithLender B o ⊎ IsGuest B o
borrowed_accounted B o lawful borrowed =
    answer (accounted B.museum B.depth o borrowed B.posted lawful)
  where
    answer : Account B.museum B.posted o → IsWithLender B o ⊎ IsGuest B o
    answer (inl away) =
        inl (record {
          place = away.place;
          loans = λ loan at. away.loans loan (line_stage B.museum B.posted loan o Here at);
        })
    answer (inr guest) = inr (record {
      loan = guest.loan;
      loan_in = guest.loan_in;
      here = (
        line_listed B.museum B.posted guest.loan o Here guest.listed guest.here.0,
        λ other at. guest.here.1 other (line_stage B.museum B.posted other o Here at),
      );
      at = guest.place.at;
      place = guest.place.is;
      inside = guest.place.inside;
    })
