-- The spots that an applied message writes are those of the things carried, and which things these
-- are.
use Rattle.std.specs.Prelude.{ℕ, ℤ, zero, suc, ◌≡◌, ◌+◌, ◌<◌, ◌≤◌, Bool, true, false, cond}
use Rattle.std.specs.Prelude.{if◌then◌else◌, List, [], ◌∷◌, ◌++◌, Option, None, Some, length}
use Rattle.std.specs.Prelude.{filter, refl, All}
use Rattle.std.specs.List.{filter_map, range_with_len, cons_option}
use Rattle.std.proofs.Common.{ap, ◌∙◌, sym, arith, get_or, take}
use Rattle.std.proofs.lemmas.List.{take_more}
use Rattle.std.specs.Option.{option_to_list}
use Rattle.std.proofs.lemmas.List.Elements.{All-nil, All-cons, All-filter, filter_map-append}
use Rattle.nest_core.specs.declared.put.Put.{Put}
use Rattle.nest_core.specs.Museum.{Museum}
use Rattle.nest_core.specs.Puts.{is_carried, carried}
use Rattle.posting_core.specs.declared.message.Message.{Message}
use Rattle.posting_core.specs.declared.verdict.Verdict.{Verdict}
use Rattle.posting_core.specs.declared.entry.Entry.{Entry}
use Rattle.posting_core.specs.declared.entry.NewSpot.{NewSpot}
use Rattle.posting_core.specs.Messages.{day_of}
use Rattle.posting_core.specs.History.{puts, put_in, put_by, spots, place_at, carried_at}
use Rattle.posting_core.specs.History.{carried_with}
use Rattle.posting_core.specs.Lawful.{IsLawful}
use Rattle.posting_core.specs.VerdictNames.{is_applied}
use Rattle.posting_core.specs.Book.{Book, verdict_in, place_in, spots_in, place_after, new_spot}
use Rattle.posting_core.specs.Book.{new_spots}
use Rattle.posting_core.specs.Rows.{place_to}
use Rattle.posting_core.proofs.AppliedRows.{applied_is}
use Rattle.posting_core.proofs.Placed.{IsAllowedPut, allowed_in, by_applied, comes_along, stays}
use Rattle.posting_core.proofs.Written.{same_place}

-- a list's members with a spot are all among these
of_some : (c : ℕ → Bool) (f g : ℕ → Option NewSpot) (xs : List ℕ)
    → ((y : ℕ) → c y ≡ true → f y ≡ g y) → ((y : ℕ) → c y ≡ false → g y ≡ None)
    → filter_map f (filter c xs) ≡ filter_map g xs
of_some c f g [] same none = refl
of_some c f g (x ∷ xs) same none =
    elim (c x) as (λ b. c x ≡ b → filter_map f (cond b (x ∷ filter c xs) (filter c xs))
    ≡ cons_option (g x) (filter_map g xs)) [
      | true ↦ λ e. ap (λ o. cons_option o (filter_map f (filter c xs))) (same x e)
          ∙ ap (cons_option (g x)) (of_some c f g xs same none)
      | false ↦ λ e. of_some c f g xs same none
          ∙ sym (ap (λ o. cons_option o (filter_map g xs)) (none x e))
    ] refl

unmoved : (number count : ℕ) (o : Option ℕ) (day : Option ℤ) (y : ℕ)
    → new_spot number count o o day y ≡ None
unmoved number count o day y = rw (same_place number o day) refl

-- a thing's spot if it comes to this place
abbrev spot_at : Museum → List Entry → Message → Option ℕ → ℕ → Option NewSpot
spot_at S P m after y = new_spot (length P + 1) (length (spots S P y)) (place_at S P y) after
    (day_of m) y

carried_spots : {S : Museum} {depth : ℕ} {P : List Entry} (m : Message) {put : Put}
    → IsLawful S depth P → put_in S P m ≡ Some put → IsAllowedPut S depth P put →
    filter_map (spot_at S P m (place_to S P put.to)) (carried_at S P put.thing) ≡ new_spots S P m
carried_spots {S} {P} m {put} lawful is allowed =
    of_some (is_carried (length S.things) (puts S P) put.thing)
    (spot_at S P m (place_to S P put.to)) (λ y. spot_at S P m (place_after S P m y) y)
    (range_with_len 0 (length S.things))
    (λ y carried. ap (λ o. spot_at S P m o y) (sym (comes_along m lawful is allowed y carried)))
    (λ y apart. ap (λ o. spot_at S P m o y) (stays m lawful is allowed y apart)
    ∙ unmoved (length P + 1) (length (spots S P y)) (place_at S P y) (day_of m) y)

-- if no member has a spot, the list has none
none_of : (f : ℕ → Option NewSpot) (xs : List ℕ) → ((y : ℕ) → f y ≡ None) → filter_map f xs ≡ []
none_of f [] none = refl
none_of f (x ∷ xs) none = ap (λ o. cons_option o (filter_map f xs)) (none x) ∙ none_of f xs none

-- a message that places nothing writes no spot
unplaced : (S : Museum) (P : List Entry) (m : Message) → put_in S P m ≡ None → [] ≡ new_spots S P m
unplaced S P m is =
    sym (none_of (λ y. spot_at S P m (place_after S P m y) y) (range_with_len 0 (length S.things))
    (λ y. rw is (unmoved (length P + 1) (length (spots S P y)) (place_at S P y) (day_of m) y)))

pub unplaced_spots : (S : Museum) (P : List Entry) (v : Verdict) (m : Message)
    → put_by S P v m ≡ None → [] ≡ (if is_applied v then new_spots S P m else [])
unplaced_spots S P v m = elim (is_applied v) as (λ b. (if b then put_in S P m else None) ≡ None
    → [] ≡ (if b then new_spots S P m else [])) [
      | true ↦ λ is. unplaced S P m is
      | false ↦ λ is. refl
    ]

-- one more member of a list
one_more : (f : ℕ → Option NewSpot) (xs : List ℕ) (i d : ℕ) → i < length xs
    → filter_map f (take (i + 1) xs) ≡ filter_map f (take i xs) ++ option_to_list
    (f (get_or xs i d))
one_more f xs i d less = ap (filter_map f) (take_more xs i d less) ∙ filter_map-append f (take i xs)
    (get_or xs i d ∷ []) ∙ ap (λ zs. filter_map f (take i xs) ++ zs) (alone (f (get_or xs i d)))
  where
    alone : (o : Option NewSpot) → cons_option o [] ≡ option_to_list o
    alone None = refl
    alone (Some s) = refl

pub one_more_spot : (f : ℕ → Option NewSpot) (xs : List ℕ) (i d : ℕ) (before after : List NewSpot)
    (o : Option NewSpot) → i < length xs → before ≡ filter_map f (take i xs)
    → o ≡ f (get_or xs i d) →
    after ≡ before ++ option_to_list o → after ≡ filter_map f (take (i + 1) xs)
one_more_spot f xs i d before after o less done one more =
    more ∙ ap (λ zs. zs ++ option_to_list o) done
    ∙ ap (λ p. filter_map f (take i xs) ++ option_to_list p) one ∙ sym (one_more f xs i d less)

-- the spots that a ledger computes are those of the message
pub found_spots : (B : Book) (m : Message) {put : Put} {place number : ℕ} {day : ℤ} {xs : List ℕ}
    → IsLawful B.museum B.depth B.posted → put_by B.museum B.posted (verdict_in B m) m ≡ Some put →
    number ≡ length B.posted + 1 → day_of m ≡ Some day
    → place_to B.museum B.posted put.to ≡ Some place
    → xs ≡ carried_at B.museum B.posted put.thing →
    filter_map (λ y. new_spot number (length (spots_in B y)) (place_in B y) (Some place) (Some day)
    y) xs ≡ (if is_applied (verdict_in B m) then new_spots B.museum B.posted m else [])
found_spots B m {put} {place} {day} {xs} lawful is counted dated there same =
    let (applied, put_is) = by_applied B.museum B.posted (verdict_in B m) m is in
    let spot : ℕ → Option ℤ → Option ℕ → ℕ → Option NewSpot =
    λ n d o y. new_spot n (length (spots_in B y)) (place_in B y) o d y in
    ap (λ n. filter_map (spot n (Some day) (Some place)) xs) counted
    ∙ ap (λ d. filter_map (spot (length B.posted + 1) d (Some place)) xs) (sym dated)
    ∙ ap (λ o. filter_map (spot (length B.posted + 1) (day_of m) o) xs) (sym there)
    ∙ ap (filter_map (spot (length B.posted + 1) (day_of m) (place_to B.museum B.posted put.to)))
    same
    ∙ carried_spots m lawful put_is
    (allowed_in B m lawful (applied_is (verdict_in B m) applied) put_is)
    ∙ ap (λ b. if b then new_spots B.museum B.posted m else []) (sym applied)

range_below : (a n k : ℕ) → a + n ≤ k → All (λ y. y < k) (range_with_len a n)
range_below a zero k few = All-nil (λ (y : ℕ). y < k)
range_below a (suc n) k few = All-cons (λ (y : ℕ). y < k) a (range_with_len (a + 1) n) (omega arith)
    (range_below (a + 1) n k (omega arith))

-- everything carried is a thing
pub carried_below : (things : ℕ) (Q : List Put) (x : ℕ) → All (λ y. y < things) (carried things Q x)
carried_below things Q x = All-filter (is_carried things Q x) (λ y. y < things)
    (range_with_len 0 things) (range_below 0 things things (omega arith))

pub carried_within : (S : Museum) (P : List Entry) (put : Option Put)
    → All (λ y. y < length S.things) (carried_with S P put)
carried_within S P None = All-nil (λ (y : ℕ). y < length S.things)
carried_within S P (Some put) = carried_below (length S.things) (puts S P) put.thing
