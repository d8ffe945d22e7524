-- A ledger's answers are within its setup: over a lawful list the places of spots are places of the
-- setup, the objects of loans are its things, and no chain is longer than the depth limit.
use Rattle.std.specs.Prelude.{ℕ, ℤ, zero, suc, ◌≡◌, ◌<◌, ◌≤◌, ◌+◌, ◌==◌, ◌||◌, true, false, not}
use Rattle.std.specs.Prelude.{cond, List, [], ◌∷◌, Option, None, Some, length, map, refl}
use Rattle.std.specs.Prelude.{if◌then◌else◌, All, IfSome, is_some, slice_get}
use Rattle.std.specs.List.{find, list_any}
use Rattle.std.specs.Option.{option_map, option_map_or, option_to_list}
use Rattle.std.specs.Str.{bytes_eq}
use Rattle.std.proofs.Common.{sym, subst}
use Rattle.std.proofs.lemmas.Bool.{false≢true}
use Rattle.std.proofs.lemmas.List.Elements.{All-nil, All-cons, All-append}
use Rattle.std.proofs.lemmas.Option.{none-some, same_Some}
use Rattle.std.proofs.lemmas.Slice.Eq.{bytes_eq-Decides}
use Rattle.nest_core.specs.Museum.{Museum}
use Rattle.nest_core.specs.declared.put.Put.{Put}
use Rattle.nest_core.specs.declared.put.Target.{Target}
use Rattle.nest_core.specs.declared.put.Target.TheVariants.{At, Within}
use Rattle.nest_core.specs.Puts.{last, with_put, outermost, above, place_of}
use Rattle.nest_core.specs.Nest.{is_same_place}
use Rattle.nest_core.proofs.NestLaws.{chain_short}
use Rattle.posting_core.specs.declared.entry.Entry.{Entry}
use Rattle.posting_core.specs.declared.entry.Spot.{Spot}
use Rattle.posting_core.specs.Messages.{thing_no, day_of}
use Rattle.posting_core.specs.Agreements.{Agreement, agreements, agreement, loans, is_agreed}
use Rattle.posting_core.specs.History.{puts, put_by, chain_at, place_at, spots, spot_from}
use Rattle.posting_core.specs.Loans.{objects_of, objects}
use Rattle.posting_core.specs.Verdicts.{is_known}
use Rattle.posting_core.specs.Lawful.{IsLawful}
use Rattle.posting_core.proofs.Agreed.{agreement_sound}
use Rattle.posting_core.proofs.Placed.{IsAllowedPut, put_allowed, lawful_sound, thing_below}

pub short : (S : Museum) (depth : ℕ) (P : List Entry) (x : ℕ) → IsLawful S depth P
    → length (chain_at S P x) ≤ depth
short S depth P x lawful = chain_short (length S.things) depth (last (puts S P))
    (lawful_sound S depth P lawful) x

-- the objects of a loan

all_below : (S : Museum) (xs : List (List ℕ)) → list_any (λ x. not (is_known S x)) xs ≡ false
    → All (λ o. o < length S.things) (map (thing_no S) xs)
all_below S [] h = All-nil (λ (o : ℕ). o < length S.things)
all_below S (x ∷ xs) h = elim (is_known S x) as (λ b. is_known S x ≡ b
    → not b || list_any (λ x. not (is_known S x)) xs ≡ false
    → All (λ o. o < length S.things) (map (thing_no S) (x ∷ xs))) [
      | true ↦ λ e k. All-cons (λ (o : ℕ). o < length S.things) (thing_no S x) (map (thing_no S) xs)
          (thing_below S x e) (all_below S xs k)
      | false ↦ λ e k. absurd (false≢true (sym k))
    ] refl h

terms_below : (S : Museum) (depth : ℕ) (P : List Entry) (loan : List ℕ) (t : Option Agreement)
    → IsLawful S depth P → agreement P loan ≡ t
    → All (λ o. o < length S.things) (option_map_or (objects_of S) t [])
terms_below S depth P loan None lawful is = All-nil (λ (o : ℕ). o < length S.things)
terms_below S depth P loan (Some t) lawful is =
    all_below S t.objects (agreement_sound S depth P loan t lawful is).known

pub objects_below : (S : Museum) (depth : ℕ) (P : List Entry) (loan : List ℕ) → IsLawful S depth P
    → All (λ o. o < length S.things) (objects S P loan)
objects_below S depth P loan lawful = terms_below S depth P loan (agreement P loan) lawful refl

pub told_below : (S : Museum) (depth : ℕ) (P : List Entry) (loan : Option (List ℕ)) (os : List ℕ)
    → IsLawful S depth P → option_map (objects S P) loan ≡ Some os
    → All (λ o. o < length S.things) os
told_below S depth P None os lawful is = absurd (none-some _ is)
told_below S depth P (Some loan) os lawful is =
    subst (All (λ o. o < length S.things)) (same_Some (objects S P loan) os is)
    (objects_below S depth P loan lawful)

-- each of the loans is agreed
found_agreed : (ts : List Agreement) (i : ℕ) (loan : List ℕ)
    → slice_get (map (λ t. t.loan) ts) i ≡ Some loan
    → is_some (find (λ t. bytes_eq loan t.loan) ts) ≡ true
found_agreed [] i loan at = absurd (none-some _ at)
found_agreed (t ∷ ts) zero loan at =
    rw ((bytes_eq-Decides loan t.loan).1 (sym (same_Some t.loan loan at))) refl
found_agreed (t ∷ ts) (suc i) loan at =
    elim (bytes_eq loan t.loan) as
    (λ b. is_some (cond b (Some t) (find (λ u. bytes_eq loan u.loan) ts)) ≡ true) [
      | true ↦ refl
      | false ↦ found_agreed ts i loan at
    ]

pub told_agreed : (P : List Entry) (i : ℕ) (loan : List ℕ) → slice_get (loans P) i ≡ Some loan
    → is_agreed P loan ≡ true
told_agreed P i loan at = found_agreed (agreements P) i loan at

-- the places of spots

target_in : (S : Museum) (to : Target) (p : ℕ)
    → IfSome (place_of (Some to)) (λ q. q < length S.places) → to ≡ At p → p < length S.places
target_in S to p within is = let h : IfSome (place_of (Some (At p))) (λ q. q < length S.places) =
    subst (λ t. IfSome (place_of (Some t)) (λ q. q < length S.places)) is within in h

by_put : (S : Museum) (depth : ℕ) (P : List Entry) (y p : ℕ) (o : Option Put)
    → (last (puts S P) y ≡ Some (At p) → p < length S.places) → IfSome o (IsAllowedPut S depth P)
    → last (with_put o (puts S P)) y ≡ Some (At p) → p < length S.places
by_put S depth P y p None before allowed k = before k
by_put S depth P y p (Some put) before allowed k =
    elim (put.thing == y) as (λ b. (if b then Some put.to else last (puts S P) y) ≡ Some (At p)
    → p < length S.places) [
      | true ↦ λ m. target_in S put.to p allowed.place (same_Some put.to (At p) m)
      | false ↦ before
    ] k

last_within : (S : Museum) (depth : ℕ) (P : List Entry) (y p : ℕ) → IsLawful S depth P
    → last (puts S P) y ≡ Some (At p) → p < length S.places
last_within S depth [] y p lawful h = absurd (none-some _ h)
last_within S depth (e ∷ P) y p (follows, lawful) h =
    by_put S depth P y p (put_by S P e.verdict e.message) (λ k. last_within S depth P y p lawful k)
    (put_allowed S depth P e.verdict e.message lawful follows.judged) h

target_place : (S : Museum) (t : Option Target) → ((p : ℕ) → t ≡ Some (At p) → p < length S.places)
    → IfSome (place_of t) (λ p. p < length S.places)
target_place S None within = tt
target_place S (Some (At p)) within = within p refl
target_place S (Some (Within c)) within = tt

pub place_within : (S : Museum) (depth : ℕ) (P : List Entry) (x : ℕ) → IsLawful S depth P
    → IfSome (place_at S P x) (λ p. p < length S.places)
place_within S depth P x lawful =
    let z : ℕ = outermost x (above (last (puts S P)) (length S.things) x) in
    target_place S (last (puts S P) z) (λ p is. last_within S depth P z p lawful is)

spot_within : (S : Museum) (number : ℕ) (before after : Option ℕ) (day : Option ℤ)
    → IfSome after (λ p. p < length S.places)
    → All (λ s. s.place < length S.places) (option_to_list (spot_from number before after day))
spot_within S number before None day within = All-nil (λ (s : Spot). s.place < length S.places)
spot_within S number before (Some p) None within = All-nil (λ (s : Spot). s.place < length S.places)
spot_within S number before (Some p) (Some day) within =
    elim (is_same_place before (Some p)) as
    (λ b. All (λ (s : Spot). s.place < length S.places)
    (option_to_list (if b then None else Some (record { entry = number; place = p; day = day })))) [
      | true ↦ All-nil (λ (s : Spot). s.place < length S.places)
      | false ↦ All-cons (λ (s : Spot). s.place < length S.places)
          (record { entry = number; place = p; day = day }) [] within
          (All-nil (λ (s : Spot). s.place < length S.places))
    ]

pub spots_within : (S : Museum) (depth : ℕ) (P : List Entry) (x : ℕ) → IsLawful S depth P
    → All (λ s. s.place < length S.places) (spots S P x)
spots_within S depth [] x lawful = All-nil (λ (s : Spot). s.place < length S.places)
spots_within S depth (e ∷ P) x (follows, lawful) =
    All-append (λ (s : Spot). s.place < length S.places) (spots S P x)
    (option_to_list (spot_from (length P + 1) (place_at S P x) (place_at S (e ∷ P) x)
    (day_of e.message)))
    (spots_within S depth P x lawful)
    (spot_within S (length P + 1) (place_at S P x) (place_at S (e ∷ P) x) (day_of e.message)
    (place_within S depth (e ∷ P) x (follows, lawful)))
