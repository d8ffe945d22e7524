-- An entry before a growth has the same new spots under the grown setup.
use Rattle.std.specs.Prelude.{ℕ, ◌+◌, ◌≡◌, ◌≤◌, true, List, [], ◌∷◌, ◌++◌, length, Option}
use Rattle.std.specs.Prelude.{None, Some, refl, zero, suc, if◌then◌else◌}
use Rattle.std.specs.List.{filter_map, range_with_len}
use Rattle.std.proofs.Common.{arith, ap, sym, ◌∙◌}
use Rattle.std.proofs.Math.Path.{fun_ext}
use Rattle.std.proofs.lemmas.List.{append-nil}
use Rattle.nest_core.specs.Museum.{Museum, listed_now, NeverFell}
use Rattle.nest_core.specs.Puts.{last, with_put, container_of, place_of, place_by}
use Rattle.nest_core.proofs.Chains.{place-none}
use Rattle.posting_core.specs.declared.message.Message.{Message}
use Rattle.posting_core.specs.declared.entry.Entry.{Entry}
use Rattle.posting_core.specs.declared.entry.NewSpot.{NewSpot}
use Rattle.posting_core.specs.declared.entry.Spot.{Spot}
use Rattle.posting_core.specs.Book.{new_spot, new_spots, place_after}
use Rattle.posting_core.specs.History.{puts, put_in, place_at, spots}
use Rattle.posting_core.specs.Lawful.{IsLawful}
use Rattle.posting_core.specs.Messages.{day_of}
use Rattle.posting_core.specs.VerdictNames.{is_applied}
use Rattle.posting_core.proofs.GrownLists.{count, place_same, same_past}
use Rattle.posting_core.proofs.GrownSetups.{Grew, range_split}
use Rattle.posting_core.proofs.Placed.{lawful_sound}

kept_append : {X : Type 0} (f : ℕ → Option X) (xs ys : List ℕ)
    → filter_map f (xs ++ ys) ≡ filter_map f xs ++ filter_map f ys
kept_append f [] ys = refl
kept_append f (x ∷ xs) ys =
    elim (f x) as (λ o. f x ≡ o → filter_map f (x ∷ xs ++ ys)
    ≡ filter_map f (x ∷ xs) ++ filter_map f ys) [
      | None ↦ λ e. rw e (kept_append f xs ys)
      | Some y ↦ λ e. rw e (ap (λ rest. y ∷ rest) (kept_append f xs ys))
    ] refl

kept_off : {X : Type 0} (f : ℕ → Option X) (a n : ℕ) → ((y : ℕ) → a ≤ y → f y ≡ None)
    → filter_map f (range_with_len a n) ≡ []
kept_off f a zero h = refl
kept_off f a (suc n) h = rw (h a (omega arith)) (kept_off f (a + 1) n (λ y le. h y (omega arith)))

kept_still : {X : Type 0} (f : ℕ → Option X) (n k : ℕ) → ((y : ℕ) → n ≤ y → f y ≡ None)
    → filter_map f (range_with_len 0 (n + k)) ≡ filter_map f (range_with_len 0 n)
kept_still f n k h =
    ap (filter_map f) (range_split 0 n k) ∙ kept_append f (range_with_len 0 n)
    (range_with_len (0 + n) k)
    ∙ ap (λ ys. filter_map f (range_with_len 0 n) ++ ys)
    (kept_off f (0 + n) k (λ y le. h y (omega arith)))
    ∙ append-nil (filter_map f (range_with_len 0 n))

-- a thing that was never put has no place
nowhere : (S : Museum) (depth : ℕ) (P : List Entry) → IsLawful S depth P → (y : ℕ)
    → length S.things ≤ y → place_at S P y ≡ None
nowhere S depth P lawful y ge =
    let never = (lawful_sound S depth P lawful).far y ge in
    place-none (last (puts S P)) (length S.things) y (ap container_of never) ∙ ap place_of never

-- a place after an applied entry is the place after its message
after_is : (S : Museum) (P : List Entry) (e : Entry) (x : ℕ) → is_applied e.verdict ≡ true
    → place_at S (e ∷ P) x ≡ place_after S P e.message x
after_is S P e x applied =
    ap (λ b. place_by (last (with_put (if b then put_in S P e.message else None) (puts S P)))
    (length S.things) x) applied

-- the new spot of a thing, if the message changes its place
abbrev spot_of : Museum → List Entry → Message → ℕ → Option NewSpot
spot_of S P m x = new_spot (length P + 1) (length (spots S P x)) (place_at S P x)
    (place_after S P m x) (day_of m) x

-- a number beyond the things has none
no_spot : (S : Museum) (depth : ℕ) (P : List Entry) (e : Entry) → IsLawful S depth (e ∷ P)
    → is_applied e.verdict ≡ true → (y : ℕ) → length S.things ≤ y
    → spot_of S P e.message y ≡ None
no_spot S depth P e lawful applied y ge =
    ap (λ (p : Option ℕ). new_spot (length P + 1) (length (spots S P y)) (place_at S P y) p
    (day_of e.message) y)
    (sym (after_is S P e y applied) ∙ nowhere S depth (e ∷ P) lawful y ge)

module _ (n : ℕ) (S T : Museum) (depth : ℕ) (g : Grew n S T)
    (kept : NeverFell S.growths (listed_now S)) where
  spot_same : (P : List Entry) (e : Entry) → IsLawful S depth (e ∷ P)
      → is_applied e.verdict ≡ true → (x : ℕ) → spot_of T P e.message x ≡ spot_of S P e.message x
  spot_same P e (follows, lawful) applied x =
      let before = same_past n S T depth g kept P lawful in
      let now = same_past n S T depth g kept (e ∷ P) (follows, lawful) in
      ap (λ (ss : List Spot). new_spot (length P + 1) (length ss) (place_at T P x)
      (place_after T P e.message x) (day_of e.message) x) (before.spots x)
      ∙ ap (λ (p : Option ℕ). new_spot (length P + 1) (length (spots S P x)) p
      (place_after T P e.message x) (day_of e.message) x)
      (place_same n S T depth g kept P lawful before.puts x)
      ∙ ap (λ (p : Option ℕ). new_spot (length P + 1) (length (spots S P x)) (place_at S P x) p
      (day_of e.message) x)
      (sym (after_is T P e x applied)
      ∙ place_same n S T depth g kept (e ∷ P) (follows, lawful) now.puts x
      ∙ after_is S P e x applied)

  pub new_spots_same : (P : List Entry) (e : Entry) → IsLawful S depth (e ∷ P)
      → is_applied e.verdict ≡ true → new_spots T P e.message ≡ new_spots S P e.message
  new_spots_same P e lawful applied =
      ap (λ k. filter_map (spot_of T P e.message) (range_with_len 0 k)) (count n S T depth g kept)
      ∙ ap (λ (f : ℕ → Option NewSpot). filter_map f
      (range_with_len 0 (length S.things + length g.more_things)))
      (fun_ext (spot_same P e lawful applied))
      ∙ kept_still (spot_of S P e.message) (length S.things) (length g.more_things)
      (no_spot S depth P e lawful applied)
