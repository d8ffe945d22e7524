-- Own and borrowed objects, the loans that list them, and those loans' partners.
use Rattle.std.specs.Prelude.{ℕ, ◌≡◌, ◌<◌, Bool, true, false, if◌then◌else◌, List, [], ◌∷◌, None}
use Rattle.std.specs.Prelude.{Some, refl}
use Rattle.std.specs.Option.{option_map, option_map_or}
use Rattle.std.proofs.Common.{ap, ◌∙◌, sym, subst}
use Rattle.std.proofs.lemmas.Bool.{false≢true}
use Rattle.std.proofs.lemmas.List.{length-map}
use Rattle.std.proofs.lemmas.Option.{slice_get_within}
use Rattle.codes_core.specs.declared.thing.ThingKind.{ThingKind}
use Rattle.codes_core.specs.declared.thing.ThingKind.TheVariants.{Own, Borrowed, Container}
use Rattle.codes_core.specs.Loan.{is_out}
use Rattle.codes_core.specs.Thing.{thing_kind}
use Rattle.nest_core.specs.Museum.{Museum, thing_codes, thing_code_of, is_own, is_borrowed}
use Rattle.nest_core.specs.Museum.{is_own_kind, is_borrowed_kind, is_container_kind, is_elsewhere}
use Rattle.nest_core.specs.Puts.{is_among}
use Rattle.posting_core.specs.declared.entry.Entry.{Entry}
use Rattle.posting_core.specs.Messages.{place_no}
use Rattle.posting_core.specs.Agreements.{Agreement, agreement, agreements}
use Rattle.posting_core.specs.declared.stage.LineStage.{LineStage}
use Rattle.posting_core.specs.Loans.{objects_of, objects, stage, line}
use Rattle.posting_core.specs.Verdicts.{is_of_wrong_owner}
use Rattle.posting_core.specs.Lawful.{IsLawful}
use Rattle.posting_core.proofs.Agreed.{agreement_sound, found_is}
use Rattle.posting_core.proofs.Placed.{place_below}
use Rattle.posting_core.proofs.Among.{among_codes}
use Rattle.posting_core.proofs.Accounted.{agreement_stays}
use Rattle.posting_core.proofs.Turns.{IsObject, elsewhere_if_not_inside}

-- a thing of the setup with a code whose kind isn't a container's is an object
object_by : (S : Museum) (o : ℕ) (is_kind : ThingKind → Bool)
    → ((k : ThingKind) → is_kind k ≡ true → is_container_kind k ≡ false) →
    option_map_or is_kind (option_map thing_kind (thing_code_of S o)) false ≡ true → IsObject S o
object_by S o is_kind no_container h =
    elim (thing_code_of S o) as (λ c. thing_code_of S o ≡ c
    → option_map_or is_kind (option_map thing_kind c) false ≡ true → IsObject S o) [
      | None ↦ λ e k. absurd (false≢true k)
      | Some x ↦ λ e k. record {
        below = subst (λ n. o < n) (length-map S.things (λ row. row.0))
            (slice_get_within (thing_codes S) o x e);
        object = ap (λ c. option_map_or is_container_kind (option_map thing_kind c) false) e
            ∙ no_container (thing_kind x) k;
      }
    ] refl h

pub own_object : (S : Museum) (o : ℕ) → is_own S o ≡ true → IsObject S o
own_object S o own = object_by S o is_own_kind kinds own
  where
    kinds : (k : ThingKind) → is_own_kind k ≡ true → is_container_kind k ≡ false
    kinds Own h = refl
    kinds Borrowed h = absurd (false≢true h)
    kinds Container h = absurd (false≢true h)

pub borrowed_object : (S : Museum) (o : ℕ) → is_borrowed S o ≡ true → IsObject S o
borrowed_object S o borrowed = object_by S o is_borrowed_kind kinds borrowed
  where
    kinds : (k : ThingKind) → is_borrowed_kind k ≡ true → is_container_kind k ≡ false
    kinds Own h = absurd (false≢true h)
    kinds Borrowed h = refl
    kinds Container h = absurd (false≢true h)

-- the objects that a loan lists are those of its agreement
pub record IsListed (S : Museum) (P : List Entry) (loan : List ℕ) (o : ℕ) : Type 0 where
  pub agreed : Agreement
  pub found : agreement P loan ≡ Some agreed
  pub among : is_among o (objects_of S agreed) ≡ true

pub listed_is : (S : Museum) (P : List Entry) (loan : List ℕ) (o : ℕ)
    → is_among o (objects S P loan) ≡ true → IsListed S P loan o
listed_is S P loan o listed = elim (agreement P loan) as (λ t. agreement P loan ≡ t
    → is_among o (option_map_or (objects_of S) t []) ≡ true → IsListed S P loan o) [
      | None ↦ λ e k. absurd (false≢true k)
      | Some t ↦ λ e k. record { agreed = t; found = e; among = k }
    ] refl listed

abbrev pub listed_stays : (S : Museum) (P : List Entry) (e : Entry) (loan : List ℕ) (o : ℕ)
    → IsListed S P loan o → IsListed S (e ∷ P) loan o
listed_stays S P e loan o l =
    record { agreed = l.agreed; found = agreement_stays P e loan l.agreed l.found; among = l.among }

-- so the object has a line there, at its stage
pub line_listed : (S : Museum) (P : List Entry) (loan : List ℕ) (o : ℕ) (s : LineStage)
    → IsListed S P loan o → stage S P loan o ≡ s → line S P loan o ≡ Some s
line_listed S P loan o s l at =
    ap (λ t. if is_among o (option_map_or (objects_of S) t []) then Some (stage S P loan o) else
    None) l.found
    ∙ ap (λ b. if b then Some (stage S P loan o) else None) l.among
    ∙ ap Some at

pub line_stage : (S : Museum) (P : List Entry) (loan : List ℕ) (o : ℕ) (s : LineStage)
    → line S P loan o ≡ Some s → stage S P loan o ≡ s
line_stage S P loan o s = elim (is_among o (objects S P loan)) as
    (λ b. (if b then Some (stage S P loan o) else None) ≡ Some s → stage S P loan o ≡ s) [
      | true ↦ λ h. let q : Some (stage S P loan o) ≡ Some s = h in cc
      | false ↦ λ h. absurd (let q : None ≡ Some s = h in cc)
    ]

-- a listed object has a code that is allowed on its loan
listed_code : (S : Museum) (depth : ℕ) (P : List Entry) (loan : List ℕ) (o : ℕ) → IsLawful S depth P
    → is_among o (objects S P loan) ≡ true →
    (x : List ℕ) × (thing_code_of S o ≡ Some x) × (is_of_wrong_owner loan x ≡ false)
listed_code S depth P loan o lawful listed =
    let l = listed_is S P loan o listed in
    let sound = agreement_sound S depth P loan l.agreed lawful l.found in
    let code = among_codes S (is_of_wrong_owner l.agreed.loan) l.agreed.objects o sound.known
    sound.owned l.among in (
      code.0,
      code.1,
      ap (λ n. is_of_wrong_owner n code.0)
          (found_is loan (agreements P) l.agreed l.found) ∙ code.2,
    )

-- an own object is listed by loans out alone, a borrowed one by loans in
pub own_listed : (S : Museum) (depth : ℕ) (P : List Entry) (loan : List ℕ) (o : ℕ)
    → IsLawful S depth P → is_own S o ≡ true → is_among o (objects S P loan) ≡ true
    → is_out loan ≡ true
own_listed S depth P loan o lawful own listed =
    let code = listed_code S depth P loan o lawful listed in
    let kind : is_own_kind (thing_kind code.0) ≡ true =
    sym (ap (λ c. option_map_or is_own_kind (option_map thing_kind c) false) code.1) ∙ own in
    elim (is_out loan) as
    (λ b. (if b then is_borrowed_kind (thing_kind code.0) else is_own_kind (thing_kind code.0))
    ≡ false → b ≡ true) [
      | true ↦ λ h. refl
      | false ↦ λ h. sym h ∙ kind
    ] code.2

pub borrowed_listed : (S : Museum) (depth : ℕ) (P : List Entry) (loan : List ℕ) (o : ℕ)
    → IsLawful S depth P → is_borrowed S o ≡ true → is_among o (objects S P loan) ≡ true
    → is_out loan ≡ false
borrowed_listed S depth P loan o lawful borrowed listed =
    let code = listed_code S depth P loan o lawful listed in
    let kind : is_borrowed_kind (thing_kind code.0) ≡ true =
    sym (ap (λ c. option_map_or is_borrowed_kind (option_map thing_kind c) false) code.1)
    ∙ borrowed in
    elim (is_out loan) as
    (λ b. (if b then is_borrowed_kind (thing_kind code.0) else is_own_kind (thing_kind code.0))
    ≡ false → b ≡ false) [
      | true ↦ λ h. sym kind ∙ h
      | false ↦ λ h. refl
    ] code.2

-- a partner's place is elsewhere
pub partner_elsewhere : (S : Museum) (depth : ℕ) (P : List Entry) (loan : List ℕ) (t : Agreement)
    → IsLawful S depth P → agreement P loan ≡ Some t → is_elsewhere S (place_no S t.partner) ≡ true
partner_elsewhere S depth P loan t lawful found =
    let sound = agreement_sound S depth P loan t lawful found in
    elsewhere_if_not_inside S (place_no S t.partner) (place_below S t.partner sound.partner)
    sound.elsewhere
