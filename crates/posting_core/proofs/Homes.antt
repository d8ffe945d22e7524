-- Over a lawful list an own object is home, or it is lent under one loan out.
use Rattle.std.specs.Prelude.{ℕ, ◌≡◌, ◌⊎◌, true, false, if◌then◌else◌, List, [], ◌∷◌, Option, None}
use Rattle.std.specs.Prelude.{Some, IfSome}
use Rattle.std.specs.Option.{option_map, option_map_or}
use Rattle.std.proofs.Common.{ap, ◌∙◌, sym, subst, inl, inr}
use Rattle.std.proofs.lemmas.Bool.{false≢true}
use Rattle.codes_core.specs.Loan.{is_out}
use Rattle.nest_core.specs.Museum.{Museum, is_own, is_inside, is_elsewhere}
use Rattle.nest_core.specs.Puts.{is_among}
use Rattle.posting_core.specs.declared.entry.Entry.{Entry}
use Rattle.posting_core.specs.declared.stage.LineStage.TheVariants.{Awaiting, Away, Back, GivenBack}
use Rattle.posting_core.specs.Messages.{place_no}
use Rattle.posting_core.specs.History.{place_at}
use Rattle.posting_core.specs.Loans.{objects_of}
use Rattle.posting_core.specs.Verdicts.{is_away}
use Rattle.posting_core.specs.Lawful.{IsLawful}
use Rattle.posting_core.specs.Book.{Book}
use Rattle.posting_core.specs.Accountability.{IsHome, IsLent}
use Rattle.posting_core.proofs.Accounted.{IsLeft, AtNone, AtOne, by_verdict, none_left, one_left}
use Rattle.posting_core.proofs.Accounted.{went, came}
use Rattle.posting_core.proofs.Owners.{IsListed, listed_stays, line_listed, line_stage, own_object}
use Rattle.posting_core.proofs.Owners.{own_listed, partner_elsewhere}
use Rattle.posting_core.proofs.Turns.{IsInside, HasMoved, HasExited, HasReturned, Turn, Left, Moved}
use Rattle.posting_core.proofs.Turns.{Exited, Returned, Received, turn, not_elsewhere_inside}

-- home, and lent, by the stages
record Home (S : Museum) (P : List Entry) (o : ℕ) : Type 0 where
  place : IfSome (place_at S P o) (λ p. is_inside S p ≡ true)
  loans : AtNone S P o Away

record Lent (S : Museum) (P : List Entry) (o : ℕ) : Type 0 where
  loan : List ℕ
  loan_out : is_out loan ≡ true
  away : AtOne S P o Away loan
  listed : IsListed S P loan o
  place : place_at S P o ≡ Some (place_no S listed.agreed.partner)

abbrev Account : Museum → List Entry → ℕ → Type 0
Account S P o = Home S P o ⊎ Lent S P o

placed_in : {S : Museum} {place : Option ℕ} → IsInside S place
    → IfSome place (λ p. is_inside S p ≡ true)
placed_in {S} at = subst (λ o. IfSome o (λ p. is_inside S p ≡ true)) (sym at.is) at.inside

-- a thing that may be moved isn't elsewhere
not_away : (S : Museum) (x : ℕ) (place : Option ℕ) → is_away S x place ≡ false
    → IfSome place (λ p. is_elsewhere S p ≡ false)
not_away S x None h = tt
not_away S x (Some p) h = h

left : {S : Museum} {P : List Entry} {e : Entry} {o : ℕ} → IsLeft S P e o → Account S P o
    → Account S (e ∷ P) o
left {S} {P} {e} {o} same (inl home) = inl (record {
  place = subst (λ q. IfSome q (λ p. is_inside S p ≡ true)) (sym same.stays.place) home.place;
  loans = none_left S P e o Away same.stages home.loans;
})
left {S} {P} {e} {o} same (inr lent) = inr (record {
  loan = lent.loan;
  loan_out = lent.loan_out;
  away = one_left S P e o Away lent.loan same.stages lent.away;
  listed = listed_stays S P e lent.loan o lent.listed;
  place = same.stays.place ∙ lent.place;
})

returned : {S : Museum} {P : List Entry} {e : Entry} {o : ℕ} → HasReturned S P e o → Account S P o
    → Account S (e ∷ P) o
returned r (inl home) = absurd (home.loans r.loan r.ready.wanted)
returned {S} {P} {o} r (inr lent) =
    let same : r.loan ≡ lent.loan = lent.away.1 r.loan r.ready.wanted in
    inl (record {
      place = placed_in r.after;
      loans = came Away r.crossed (subst (AtOne S P o Away) (sym same) lent.away)
          (λ back. let q : Back ≡ Away = back in cc);
    })

-- for an own object, entry by entry
module _ (S : Museum) (depth : ℕ) (o : ℕ) (own : is_own S o ≡ true) where
  -- an object that isn't elsewhere is home
  not_lent : {P : List Entry} → IsLawful S depth P
      → IfSome (place_at S P o) (λ p. is_elsewhere S p ≡ false) → Account S P o → Home S P o
  not_lent lawful here (inl home) = home
  not_lent {P} lawful here (inr lent) =
      let at : is_elsewhere S (place_no S lent.listed.agreed.partner) ≡ false =
      subst (λ q. IfSome q (λ p. is_elsewhere S p ≡ false)) lent.place here in
      absurd (false≢true (sym at ∙ partner_elsewhere S depth P lent.loan lent.listed.agreed lawful
      lent.listed.found))

  moved : {P : List Entry} {e : Entry} → IsLawful S depth P → HasMoved S P e o → Account S P o
      → Account S (e ∷ P) o
  moved {P} {e} lawful m account =
      let here = subst (λ q. IfSome q (λ p. is_elsewhere S p ≡ false)) (sym m.before)
      (not_away S m.thing (place_at S P m.thing) m.here) in
      let home : Home S P o = not_lent lawful here account in
      inl (record { place = placed_in m.after; loans = none_left S P e o Away m.stages home.loans })

  exited : {P : List Entry} {e : Entry} → IsLawful S depth P → HasExited S P e o → Account S P o
      → Account S (e ∷ P) o
  exited {P} {e} lawful x account =
      let here = subst (λ q. IfSome q (λ p. is_elsewhere S p ≡ false)) (sym x.before.is)
      (not_elsewhere_inside S x.before.at x.before.inside) in
      let home : Home S P o = not_lent lawful here account in
      let loan_out = own_listed S depth P x.loan o lawful own x.ready.listed in
      let away : (if is_out x.loan then Away else GivenBack) ≡ Away =
      ap (λ b. if b then Away else GivenBack) loan_out in
      inr (record {
        loan = x.loan;
        loan_out = loan_out;
        away = subst (λ s. AtOne S (e ∷ P) o s x.loan) away
            (went x.crossed (subst (AtNone S P o) (sym away) home.loans));
        listed = listed_stays S P e x.loan o
            (record {
              agreed = x.agreed;
              found = x.found;
              among = subst (λ t. is_among o (option_map_or (objects_of S) t []) ≡ true) x.found
                  x.ready.listed;
            });
        place = x.after;
      })

  applied : {P : List Entry} {e : Entry} → IsLawful S depth P → Account S P o → Turn S P e o
      → Account S (e ∷ P) o
  applied lawful account (Left same) = left same account
  applied lawful account (Moved m) = moved lawful m account
  applied lawful account (Exited x) = exited lawful x account
  applied lawful account (Returned r) = returned r account
  applied {P} lawful account (Received r) =
      absurd (false≢true (sym r.loan_in ∙ own_listed S depth P r.loan o lawful own r.ready.listed))

  accounted : (P : List Entry) → IsLawful S depth P → Account S P o
  accounted [] lawful =
      inl (record { place = tt; loans = λ loan e. let q : Awaiting ≡ Away = e in cc })
  accounted (e ∷ P) (follows, lawful) =
      let before = accounted P lawful in
      by_verdict o follows lawful (λ a. applied lawful before (turn a (own_object S o own)))
      (λ same. left same before)

pub own_accounted : (B : Book) (o : ℕ) → IsLawful B.museum B.depth B.posted
    → is_own B.museum o ≡ true → IsHome B o ⊎ IsLent B o
own_accounted B o lawful own = answer (accounted B.museum B.depth o own B.posted lawful)
  where
    answer : Account B.museum B.posted o → IsHome B o ⊎ IsLent B o
    answer (inl home) =
        inl (record {
          place = home.place;
          loans = λ loan at. home.loans loan (line_stage B.museum B.posted loan o Away at);
        })
    answer (inr lent) = inr (record {
      loan = lent.loan;
      loan_out = lent.loan_out;
      away = (
        line_listed B.museum B.posted lent.loan o Away lent.listed lent.away.0,
        λ other at. lent.away.1 other (line_stage B.museum B.posted other o Away at),
      );
      partner = place_no B.museum lent.listed.agreed.partner;
      agreed = ap (option_map (λ t. place_no B.museum t.partner)) lent.listed.found;
      place = lent.place;
      elsewhere = partner_elsewhere B.museum B.depth B.posted lent.loan lent.listed.agreed lawful
          lent.listed.found;
    })
