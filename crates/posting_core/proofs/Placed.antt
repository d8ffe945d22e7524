-- The puts of applied messages, and the places after them.
use Rattle.std.specs.Prelude.{ℕ, ℤ, zero, suc, ◌≡◌, ◌<◌, true, false, All, List, [], ◌∷◌, Option}
use Rattle.std.specs.Prelude.{None, Some, length, refl, IfSome, is_some, unwrap_or, if◌then◌else◌}
use Rattle.std.specs.List.{position}
use Rattle.std.specs.Option.{option_map, option_map_or}
use Rattle.std.specs.Str.{bytes_eq}
use Rattle.std.proofs.Common.{ap, ◌∙◌, sym, subst}
use Rattle.std.proofs.lemmas.Bool.{false≢true, not-false}
use Rattle.std.proofs.lemmas.List.{length-map}
use Rattle.std.proofs.lemmas.List.Elements.{All-nil, All-cons}
use Rattle.std.proofs.lemmas.List.Quantifiers.{position-Some}
use Rattle.std.proofs.lemmas.Option.{none-some}
use Rattle.nest_core.specs.declared.put.Target.{Target}
use Rattle.nest_core.specs.declared.put.Target.TheVariants.{At, Within}
use Rattle.nest_core.specs.declared.put.Put.{Put}
use Rattle.nest_core.specs.Museum.{Museum, among_first, listed_at, find_thing, thing_codes}
use Rattle.nest_core.specs.Museum.{place_codes, is_container}
use Rattle.nest_core.specs.Nest.{Nested, StandsFor, MayGo, put_at}
use Rattle.nest_core.specs.Puts.{last, with_put, container_of, place_of, above, place_by}
use Rattle.nest_core.specs.Puts.{is_carried}
use Rattle.nest_core.proofs.NestWords.{IsAllowed}
use Rattle.nest_core.proofs.NestLaws.{IsSound, sound_put, may_pack, place_carried, place_packed}
use Rattle.nest_core.proofs.NestLaws.{place_stays}
use Rattle.posting_core.specs.declared.message.Message.{Message}
use Rattle.posting_core.specs.declared.message.Message.TheVariants.{Move, Pack, Agree, Authorise}
use Rattle.posting_core.specs.declared.message.Message.TheVariants.{Exit, Return, Receive, SignOff}
use Rattle.posting_core.specs.declared.message.Message.TheVariants.{Extend}
use Rattle.posting_core.specs.declared.verdict.Verdict.{Verdict}
use Rattle.posting_core.specs.declared.verdict.Verdict.TheVariants.{Applied}
use Rattle.posting_core.specs.declared.entry.Entry.{Entry}
use Rattle.posting_core.specs.Messages.{thing_no, place_no}
use Rattle.posting_core.specs.History.{puts, put_in, put_by, chain_at, place_at}
use Rattle.posting_core.specs.VerdictNames.{is_applied}
use Rattle.posting_core.specs.Agreements.{agreement}
use Rattle.posting_core.specs.Verdicts.{verdict, move_rows, pack_rows, exit_rows, return_rows}
use Rattle.posting_core.specs.Verdicts.{receive_rows, is_known, is_known_place, is_known_container}
use Rattle.posting_core.specs.Lawful.{IsLawful}
use Rattle.posting_core.specs.Book.{Book, verdict_in, place_after}
use Rattle.posting_core.specs.Rows.{place_to}
use Rattle.posting_core.proofs.AppliedRows.{none_holds, applied_is}
use Rattle.posting_core.proofs.Agreed.{agreement_sound}
use Rattle.posting_core.proofs.Known.{known_in, place_known_in}

found_below : (xs : List (List ℕ)) (code : List ℕ) (n : ℕ) → n ≡ length xs
    → is_some (position (bytes_eq code) xs) ≡ true → unwrap_or (position (bytes_eq code) xs) n < n
found_below xs code n same = elim (position (bytes_eq code) xs) as
    (λ o. position (bytes_eq code) xs ≡ o → is_some o ≡ true → unwrap_or o n < n) [
      | None ↦ λ e h. absurd (false≢true h)
      | Some i ↦ λ e h. subst (λ k. i < k) (sym same) (position-Some (bytes_eq code) xs i [] e).0
    ] refl

pub thing_below : (S : Museum) (x : List ℕ) → is_known S x ≡ true → thing_no S x < length S.things
thing_below S x known = found_below (thing_codes S) x (length S.things)
    (sym (length-map S.things (λ row. row.0))) known

pub place_below : (S : Museum) (p : List ℕ) → is_known_place S p ≡ true
    → place_no S p < length S.places
place_below S p known = found_below (place_codes S) p (length S.places)
    (sym (length-map S.places (λ row. row.0))) known

-- a container of the setup is known
pub container_known : (S : Museum) (P : List Entry) (c : List ℕ) → is_known_container S P c ≡ true
    → is_known S c ≡ true
container_known S P c = elim (find_thing S c) as (λ o.
    option_map_or (is_container S) (among_first (listed_at S (length P)).things o) false ≡ true
    → is_some o ≡ true) [ None ↦ λ h. h | Some i ↦ λ h. refl ]

-- The put of an applied message: a known thing, to a known place or into a container that has room
-- for it.
pub record IsAllowedPut (S : Museum) (depth : ℕ) (P : List Entry) (put : Put) : Type 0 where
  pub thing : put.thing < length S.things
  pub place : IfSome (place_of (Some put.to)) (λ p. p < length S.places)
  pub room : IsAllowed (last (puts S P)) (length S.things) depth put.thing put.to

-- an object that leaves under a loan goes to a place of the setup
leaves_to : (S : Museum) (depth : ℕ) (P : List Entry) (x loan : List ℕ) (day : ℤ)
    → IsLawful S depth P → thing_no S x < length S.things
    → IfSome (put_in S P (Exit day x loan)) (IsAllowedPut S depth P)
leaves_to S depth P x loan day lawful thing =
    elim (agreement P loan) as (λ o. agreement P loan ≡ o
    → IfSome (option_map (λ t. record { thing = thing_no S x; to = At (place_no S t.partner) }) o)
    (IsAllowedPut S depth P)) [
      | None ↦ λ e. tt
      | Some t ↦
          λ e. record {
            thing = thing;
            place = place_below S t.partner
                (agreement_sound S depth P loan t lawful e).partner;
            room = tt;
          }
    ] refl

put_applied : (S : Museum) (depth : ℕ) (P : List Entry) (m : Message) → IsLawful S depth P
    → verdict S depth P m ≡ Applied → IfSome (put_in S P m) (IsAllowedPut S depth P)
put_applied S depth P (Move day x p) lawful h =
    let none = none_holds (move_rows S P x p) refl h in
    record {
      thing = thing_below S x (known_in S P x none.0);
      place = place_below S p (place_known_in S P p none.1.0);
      room = tt;
    }
put_applied S depth P (Pack day x c) lawful h =
    let none = none_holds (pack_rows S depth P x c) refl h in
    record {
      thing = thing_below S x (known_in S P x none.0);
      place = tt;
      room = (
        thing_below S c (container_known S P c
            (not-false (is_known_container S P c) none.1.0)),
        none.1.1.1.1.0,
        none.1.1.1.1.1.0,
      );
    }
put_applied S depth P (Exit day x loan) lawful h =
    leaves_to S depth P x loan day lawful
    (thing_below S x (known_in S P x (none_holds (exit_rows S P x loan day) refl h).0))
put_applied S depth P (Return day x loan p) lawful h =
    let none = none_holds (return_rows S P x loan p) refl h in
    record {
      thing = thing_below S x (known_in S P x none.0);
      place = place_below S p (place_known_in S P p none.1.0);
      room = tt;
    }
put_applied S depth P (Receive day x loan p) lawful h =
    let none = none_holds (receive_rows S P x loan p day) refl h in
    record {
      thing = thing_below S x (known_in S P x none.0);
      place = place_below S p (place_known_in S P p none.1.0);
      room = tt;
    }
put_applied S depth P (Agree first final loan partner objects) lawful h = tt
put_applied S depth P (Authorise name loan) lawful h = tt
put_applied S depth P (SignOff name) lawful h = tt
put_applied S depth P (Extend final loan) lawful h = tt

pub put_allowed : (S : Museum) (depth : ℕ) (P : List Entry) (v : Verdict) (m : Message)
    → IsLawful S depth P → v ≡ verdict S depth P m
    → IfSome (put_by S P v m) (IsAllowedPut S depth P)
put_allowed S depth P v m lawful judged =
    elim (is_applied v) as (λ t. is_applied v ≡ t
    → IfSome (if t then put_in S P m else None) (IsAllowedPut S depth P)) [
      | true ↦ λ e. put_applied S depth P m lawful (sym judged ∙ applied_is v e)
      | false ↦ λ e. tt
    ] refl

-- the same for an applied message of a ledger
pub allowed_in : (B : Book) (m : Message) {put : Put} → IsLawful B.museum B.depth B.posted
    → verdict_in B m ≡ Applied → put_in B.museum B.posted m ≡ Some put
    → IsAllowedPut B.museum B.depth B.posted put
allowed_in B m lawful applied is =
    subst (λ p. IfSome p (IsAllowedPut B.museum B.depth B.posted)) is
    (put_applied B.museum B.depth B.posted m lawful applied)

-- a message that puts a thing is applied
pub by_applied : (S : Museum) (P : List Entry) (v : Verdict) (m : Message) {put : Put}
    → put_by S P v m ≡ Some put → (is_applied v ≡ true) × (put_in S P m ≡ Some put)
by_applied S P v m {put} = elim (is_applied v) as
    (λ b. (if b then put_in S P m else None) ≡ Some put → (b ≡ true) × (put_in S P m ≡ Some put)) [
      | true ↦ λ is. (refl, is)
      | false ↦ λ is. absurd (none-some _ is)
    ]

-- it may go into a nest that stands for the puts before it
pub may_go : (N : Nested) (S : Museum) (P : List Entry) (put : Put) → N.things ≡ length S.things
    → N.places ≡ length S.places → StandsFor N (puts S P) → IsAllowedPut S N.depth P put →
    (put.thing < N.things) × MayGo N put.thing put.to
may_go N S P put things places stands allowed = (
  subst (λ n. put.thing < n) (sym things) allowed.thing,
  to put.to allowed.place (subst (λ n. IsAllowed (last (puts S P)) n N.depth put.thing put.to)
      (sym things) allowed.room),
)
  where
    to : (t : Target) → IfSome (place_of (Some t)) (λ p. p < length S.places)
        → IsAllowed (last (puts S P)) N.things N.depth put.thing t → MayGo N put.thing t
    to (At p) place room = subst (λ n. p < n) (sym places) place
    to (Within c) place (less, apart, low) =
        may_pack N (puts S P) put.thing c stands less (rw (apart, low) refl)

with_sound : (S : Museum) (depth : ℕ) (P : List Entry) (o : Option Put)
    → IfSome o (IsAllowedPut S depth P) → IsSound (length S.things) depth (last (puts S P))
    → IsSound (length S.things) depth (last (with_put o (puts S P)))
with_sound S depth P None allowed sound = sound
with_sound S depth P (Some put) allowed sound =
    sound_put (length S.things) depth (last (puts S P)) put.thing put.to sound allowed.thing
    allowed.room

-- over a lawful list no chain is cut, none is longer than the depth limit, and all are of things
pub lawful_sound : (S : Museum) (depth : ℕ) (P : List Entry) → IsLawful S depth P
    → IsSound (length S.things) depth (last (puts S P))
lawful_sound S depth [] lawful =
    record { small = λ y c e. absurd (none-some _ e); ended = λ y. refl; far = λ y ge. refl }
lawful_sound S depth (e ∷ P) (follows, lawful) =
    with_sound S depth P (put_by S P e.verdict e.message)
    (put_allowed S depth P e.verdict e.message lawful follows.judged)
    (lawful_sound S depth P lawful)

-- the effect of an applied message's put on a thing
module _ {S : Museum} {depth : ℕ} {P : List Entry} (m : Message) {put : Put}
    (lawful : IsLawful S depth P) (is : put_in S P m ≡ Some put)
    (allowed : IsAllowedPut S depth P put) (y : ℕ) where
  -- a thing that the put carries comes to the place of its target
  pub comes_along : is_carried (length S.things) (puts S P) put.thing y ≡ true
      → place_after S P m y ≡ place_to S P put.to
  comes_along carried = ap (λ o. place_by (last (with_put o (puts S P))) (length S.things) y) is
      ∙ to put.to allowed.room
    where
      to : (t : Target) → IsAllowed (last (puts S P)) (length S.things) depth put.thing t
          → place_by (put_at (last (puts S P)) put.thing t) (length S.things) y ≡ place_to S P t
      to (At p) room = place_carried (length S.things) depth (last (puts S P)) put.thing (At p) y
          (lawful_sound S depth P lawful) allowed.thing room carried
      to (Within c) room = place_packed (length S.things) depth (last (puts S P)) put.thing c y
          (lawful_sound S depth P lawful) allowed.thing room carried

  -- a thing that it doesn't carry stays where it is
  pub stays : is_carried (length S.things) (puts S P) put.thing y ≡ false
      → place_after S P m y ≡ place_at S P y
  stays apart =
      ap (λ o. place_by (last (with_put o (puts S P))) (length S.things) y) is
      ∙ place_stays (length S.things) depth (last (puts S P)) put.thing put.to y
      (lawful_sound S depth P lawful) allowed.thing allowed.room apart

-- the containers above a thing are things
above_below : (n d : ℕ) (at : ℕ → Option Target) → IsSound n d at → (steps x : ℕ)
    → All (λ c. c < n) (above at steps x)
above_below n d at sound zero x = All-nil (λ (c : ℕ). c < n)
above_below n d at sound (suc steps) x = elim (container_of (at x)) as (λ o. container_of (at x) ≡ o
    → All (λ c. c < n) (option_map_or (λ c. c ∷ above at steps c) o [])) [
      | None ↦ λ e. All-nil (λ (c : ℕ). c < n)
      | Some c ↦ λ e. All-cons (λ (y : ℕ). y < n) c (above at steps c) (sound.small x c e)
          (above_below n d at sound steps c)
    ] refl

pub chain_below : (S : Museum) (depth : ℕ) (P : List Entry) (x : ℕ) → IsLawful S depth P
    → All (λ c. c < length S.things) (chain_at S P x)
chain_below S depth P x lawful =
    above_below (length S.things) depth (last (puts S P)) (lawful_sound S depth P lawful)
    (length S.things) x
