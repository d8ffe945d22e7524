-- The rows after an entry's new spots are written.
use Rattle.std.specs.Prelude.{ℕ, ℤ, ◌≡◌, ◌+◌, ◌<◌, ◌≤◌, ◌==◌, true, List, [], ◌∷◌, ◌++◌, Option}
use Rattle.std.specs.Prelude.{None, Some, length, zero, suc, refl, slice_set, All}
use Rattle.std.specs.List.{filter_map, range_with_len, cons_option}
use Rattle.std.specs.Option.{option_map, option_map_or, option_to_list}
use Rattle.std.proofs.Common.{ap, ◌∙◌, sym, subst, arith, inl, inr, length-set}
use Rattle.std.proofs.lemmas.Bool.{cases_eq}
use Rattle.std.proofs.lemmas.Bool.Decides.{nat_tests}
use Rattle.std.proofs.lemmas.List.{append-nil}
use Rattle.std.proofs.lemmas.List.Elements.{All-nil, All-cons}
use Rattle.std.proofs.lemmas.Option.{none-some}
use Rattle.nest_core.proofs.Writes.{get_set_same, get_set_other}
use Rattle.posting_core.specs.declared.entry.Spot.{Spot}
use Rattle.posting_core.specs.declared.entry.NewSpot.{NewSpot}
use Rattle.posting_core.specs.History.{spot_from}
use Rattle.posting_core.specs.Book.{new_spot}
use Rattle.posting_core.specs.Rows.{row_of, rows_after}

-- each spot that f returns is of its own thing
abbrev pub IsOwn : (ℕ → Option NewSpot) → Type 0
IsOwn f = (y : ℕ) (s : NewSpot) → f y ≡ Some s → s.thing ≡ y

row_other : (R : List (List Spot)) (i x : ℕ) (row : List Spot) → (i ≡ x → ⊥)
    → row_of (slice_set R i row) x ≡ row_of R x
row_other R i x row n = ap (λ (o : Option (List Spot)). option_map_or (λ spots. spots) o [])
    (get_set_other R i x row n)

row_same : (R : List (List Spot)) (i : ℕ) (row : List Spot) → i < length R
    → row_of (slice_set R i row) i ≡ row
row_same R i row less = ap (λ (o : Option (List Spot)). option_map_or (λ spots. spots) o [])
    (get_set_same R i row less)

-- spots of later things leave a row as it was
rows_before : (R : List (List Spot)) (f : ℕ → Option NewSpot) (a n x : ℕ) → IsOwn f → x < a
    → row_of (rows_after R (filter_map f (range_with_len a n))) x ≡ row_of R x
rows_before R f a zero x own less = refl
rows_before R f a (suc n) x own less =
    elim (f a) as (λ o. f a ≡ o
    → row_of (rows_after R (cons_option o (filter_map f (range_with_len (a + 1) n)))) x
    ≡ row_of R x) [
      | None ↦ λ e. rows_before R f (a + 1) n x own (omega arith)
      | Some s ↦ λ e. let t : s.thing ≡ a = own a s e in
          rows_before (slice_set R s.thing (row_of R s.thing ++ s.spot ∷ [])) f (a + 1) n x own
          (omega arith) ∙ row_other R s.thing x (row_of R s.thing ++ s.spot ∷ [])
          (λ h. absurd (omega arith))
    ] refl

-- writing changes no number of rows
pub rows_length : (R : List (List Spot)) (ss : List NewSpot) → length (rows_after R ss) ≡ length R
rows_length R [] = refl
rows_length R (s ∷ ss) = rows_length (slice_set R s.thing (row_of R s.thing ++ s.spot ∷ [])) ss
    ∙ length-set R s.thing (row_of R s.thing ++ s.spot ∷ [])

abbrev spot_at : (ℕ → Option NewSpot) → ℕ → List Spot
spot_at f x = option_to_list (option_map (λ s. s.spot) (f x))

-- each row gets its thing's spot
pub rows_written : (R : List (List Spot)) (f : ℕ → Option NewSpot) (a n x : ℕ) → IsOwn f
    → a + n ≤ length R → a ≤ x → x < a + n →
    row_of (rows_after R (filter_map f (range_with_len a n))) x ≡ row_of R x ++ spot_at f x
rows_written R f a zero x own fits low high = absurd (omega arith)
rows_written R f a (suc n) x own fits low high =
    elim (f a) as (λ o. f a ≡ o
    → row_of (rows_after R (cons_option o (filter_map f (range_with_len (a + 1) n)))) x ≡ row_of R x
    ++ spot_at f x) [
      | None ↦ λ e. elim (cases_eq a x) [
        | inl same ↦ rows_before R f (a + 1) n x own (omega arith)
            ∙ sym (subst (λ y. row_of R x ++ spot_at f y ≡ row_of R x) same
            (rw e (append-nil (row_of R x))))
        | inr n' ↦ rows_written R f (a + 1) n x own (omega arith) (omega arith) (omega arith)
      ]
      | Some s ↦ λ e. let t : s.thing ≡ a = own a s e in
          let row = row_of R s.thing ++ s.spot ∷ [] in
          elim (cases_eq a x) [
            | inl same ↦ rows_before (slice_set R s.thing row) f (a + 1) n x own (omega arith)
                ∙ subst (λ y. row_of (slice_set R s.thing row) y ≡ row_of R y ++ spot_at f y) same
                (subst (λ y. row_of (slice_set R s.thing row) y ≡ row_of R y ++ spot_at f a) t
                (rw e (row_same R s.thing row (omega arith))))
            | inr n' ↦ rows_written (slice_set R s.thing row) f (a + 1) n x own
                (omega (arith, length-set R s.thing row)) (omega arith) (omega arith)
                ∙ ap (λ (r : List Spot). r ++ spot_at f x)
                (row_other R s.thing x row (λ h. n' (sym t ∙ h)))
          ]
    ] refl

pub chosen_spot : (number count : ℕ) (before after : Option ℕ) (day : Option ℤ) (x : ℕ)
    → option_map (λ s. s.spot) (new_spot number count before after day x) ≡ spot_from number
    before after day
chosen_spot number count before after day x =
    elim (spot_from number before after day) as
    (λ o. option_map (λ (s : NewSpot). s.spot)
    (option_map (λ spot. let s : NewSpot = record { thing = x; k = count + 1; spot = spot } in s) o)
    ≡ o) [ None ↦ refl | Some spot ↦ refl ]

pub own_spot : (number count : ℕ) (before after : Option ℕ) (day : Option ℤ) (x : ℕ) (s : NewSpot)
    → new_spot number count before after day x ≡ Some s → s.thing ≡ x
own_spot number count before after day x s =
    elim (spot_from number before after day) as
    (λ o. option_map (λ spot. let t : NewSpot = record { thing = x; k = count + 1; spot = spot } in
    t) o ≡ Some s → s.thing ≡ x) [
      | None ↦ λ e. absurd (none-some _ e)
      | Some spot ↦ λ e. let made : NewSpot = record { thing = x; k = count + 1; spot = spot } in
          let same : made ≡ s = cc in sym (ap (λ (t : NewSpot). t.thing) same)
    ]

-- an entry that doesn't change the place writes no spot
pub same_place : (number : ℕ) (p : Option ℕ) (day : Option ℤ) → spot_from number p p day ≡ None
same_place number None day = refl
same_place number (Some p) None = refl
same_place number (Some p) (Some day) = let same : (p == p) ≡ true = grind (arith, nat_tests) in
    rw same refl

-- spots of a range of things are of things in the range
pub own_within : (f : ℕ → Option NewSpot) (a n things : ℕ) → IsOwn f → a + n ≤ things
    → All (λ s. s.thing < things) (filter_map f (range_with_len a n))
own_within f a zero things own high = All-nil (λ (s : NewSpot). s.thing < things)
own_within f a (suc n) things own high =
    elim (f a) as (λ o. f a ≡ o → All (λ s. s.thing < things)
    (cons_option o (filter_map f (range_with_len (a + 1) n)))) [
      | None ↦ λ e. own_within f (a + 1) n things own (omega arith)
      | Some s ↦ λ e. let t : s.thing ≡ a = own a s e in
          All-cons (λ (r : NewSpot). r.thing < things) s (filter_map f (range_with_len (a + 1) n))
          (omega arith) (own_within f (a + 1) n things own (omega arith))
    ] refl
