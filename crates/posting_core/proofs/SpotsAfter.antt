-- The spots that an entry adds for each thing.
use Rattle.std.specs.Prelude.{ℕ, zero, suc, ◌≡◌, ◌+◌, ◌<◌, ◌≤◌, ◌==◌, Bool, true, false, filter}
use Rattle.std.specs.Prelude.{map, [], ◌∷◌, ◌++◌, Option, None, Some, length, refl, if◌then◌else◌}
use Rattle.std.specs.List.{filter_map, range_with_len, cons_option}
use Rattle.std.specs.Option.{option_map, option_to_list}
use Rattle.std.proofs.Common.{ap, ◌∙◌, sym, subst, arith, inl, inr}
use Rattle.std.proofs.lemmas.Bool.{cases_eq}
use Rattle.std.proofs.lemmas.Bool.Decides.{nat_tests}
use Rattle.std.proofs.lemmas.List.{append-nil}
use Rattle.nest_core.specs.Puts.{place, with_put}
use Rattle.posting_core.specs.declared.entry.Entry.{Entry}
use Rattle.posting_core.specs.declared.entry.NewSpot.{NewSpot}
use Rattle.posting_core.specs.Messages.{day_of}
use Rattle.posting_core.specs.VerdictNames.{is_applied}
use Rattle.posting_core.specs.History.{puts, put_in, spot_from, place_at}
use Rattle.posting_core.specs.Book.{Book, spots_in, place_after, new_spot, new_spots, changes_of}
use Rattle.posting_core.specs.Onward.{later, GoesOn, spots_for}
use Rattle.posting_core.proofs.Refused.{unchanged}
use Rattle.posting_core.proofs.Written.{IsOwn, chosen_spot, own_spot}

-- the spots of one thing, among those of a range of things, are its own

none_before : (f : ℕ → Option NewSpot) (a n x : ℕ) → IsOwn f → x < a
    → filter (λ s. s.thing == x) (filter_map f (range_with_len a n)) ≡ []
none_before f a zero x own less = refl
none_before f a (suc n) x own less =
    elim (f a) as (λ o. f a ≡ o → filter (λ s. s.thing == x)
    (cons_option o (filter_map f (range_with_len (a + 1) n))) ≡ []) [
      | None ↦ λ e. none_before f (a + 1) n x own (omega arith)
      | Some s ↦ λ e. let thing : s.thing ≡ a = own a s e in let other : (s.thing == x) ≡ false =
          grind (arith, nat_tests) in
          rw other (none_before f (a + 1) n x own (omega arith))
    ] refl

pub own_alone : (f : ℕ → Option NewSpot) (a n x : ℕ) → IsOwn f → a ≤ x → x < a + n
    → filter (λ s. s.thing == x) (filter_map f (range_with_len a n)) ≡ option_to_list (f x)
own_alone f a zero x own low high = absurd (omega arith)
own_alone f a (suc n) x own low high =
    elim (f a) as (λ o. f a ≡ o → filter (λ s. s.thing == x)
    (cons_option o (filter_map f (range_with_len (a + 1) n))) ≡ option_to_list (f x)) [
      | None ↦ λ e. elim (cases_eq a x) [
        | inl same ↦ none_before f (a + 1) n x own (omega arith)
            ∙ subst (λ y. [] ≡ option_to_list (f y)) same (ap option_to_list (sym e))
        | inr n' ↦ own_alone f (a + 1) n x own (omega arith) (omega arith)
      ]
      | Some s ↦ λ e. let thing : s.thing ≡ a = own a s e in elim (cases_eq a x) [
        | inl same ↦ let here : (s.thing == x) ≡ true = grind (arith, nat_tests) in
            rw here (ap (λ ss. s ∷ ss) (none_before f (a + 1) n x own (omega arith))
            ∙ subst (λ y. s ∷ [] ≡ option_to_list (f y)) same (ap option_to_list (sym e)))
        | inr n' ↦ let other : (s.thing == x) ≡ false = grind (arith, nat_tests) in
            rw other (own_alone f (a + 1) n x own (omega arith) (omega arith))
      ]
    ] refl

listed_spot : (o : Option NewSpot)
    → map (λ s. s.spot) (option_to_list o) ≡ option_to_list (option_map (λ s. s.spot) o)
listed_spot None = refl
listed_spot (Some s) = refl

-- a thing's spots afterwards are those before, and then those of the changes
pub spots_added : (B : Book) (e : Entry) → GoesOn B (e ∷ []) → (x : ℕ) → x < length B.museum.things
    → spots_in (later B (e ∷ [])) x ≡ spots_in B x ++ spots_for (changes_of B e.message) x
spots_added B e (follows, lawful) x less =
    elim (is_applied e.verdict) as (λ b. is_applied e.verdict ≡ b
    → spots_in (later B (e ∷ [])) x ≡ spots_in B x ++ spots_for (changes_of B e.message) x) [
      | true ↦ λ h. ap (λ o. spots_in B x ++ option_to_list o) (spot_is h)
          ∙ ap (λ ss. spots_in B x ++ ss)
          (sym (listed_spot (spot x)) ∙ sym
          (ap (map (λ s. s.spot)) (own_alone spot 0 (length B.museum.things) x own (omega arith)
          (omega arith))) ∙ sym (written true h))
      | false ↦ λ h. (unchanged B e h).spots x
          ∙ sym (ap (λ ss. spots_in B x ++ ss) (written false h) ∙ append-nil (spots_in B x))
    ] refl
  where
    number : ℕ
    number = length B.posted + 1

    spot : ℕ → Option NewSpot
    spot y = new_spot number (length (spots_in B y)) (place_at B.museum B.posted y)
        (place_after B.museum B.posted e.message y) (day_of e.message) y

    own : IsOwn spot
    own y s h = own_spot number (length (spots_in B y)) (place_at B.museum B.posted y)
        (place_after B.museum B.posted e.message y) (day_of e.message) y s h

    written : (b : Bool) → is_applied e.verdict ≡ b
        → spots_for (changes_of B e.message) x ≡ map (λ s. s.spot)
        (filter (λ s. s.thing == x) (if b then new_spots B.museum B.posted e.message else []))
    written b h =
        ap (λ v. map (λ s. s.spot) (filter (λ s. s.thing == x)
        (if is_applied v then new_spots B.museum B.posted e.message else []))) (sym follows.judged)
        ∙ ap (λ c. map (λ s. s.spot) (filter (λ s. s.thing == x)
        (if c then new_spots B.museum B.posted e.message else []))) h

    spot_is : is_applied e.verdict ≡ true
        → spot_from number (place_at B.museum B.posted x) (place_at B.museum (e ∷ B.posted) x)
        (day_of e.message) ≡ option_map (λ s. s.spot) (spot x)
    spot_is h =
        ap (λ b. spot_from number (place_at B.museum B.posted x)
        (place (length B.museum.things)
        (with_put (if b then put_in B.museum B.posted e.message else None)
        (puts B.museum B.posted)) x) (day_of e.message)) h
        ∙ sym (chosen_spot number (length (spots_in B x)) (place_at B.museum B.posted x)
        (place_after B.museum B.posted e.message x) (day_of e.message) x)
