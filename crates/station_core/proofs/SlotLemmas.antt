-- Lemmas on the slots of a window.
use Rattle.std.proofs.Common.{◌≡◌, ◌≢◌, ℕ, ◌<◌, ◌≤◌, arith, sym, List, [], ◌∷◌, ◌++◌, length, drop}
use Rattle.std.proofs.Common.{replicate, Option, Some, None, refl, ap, ◌∙◌, zero, suc, get_or}
use Rattle.std.specs.Prelude.{slice_get, slice_set, option_and_then, unwrap_or, false}
use Rattle.std.proofs.lemmas.Option.{slice_get_past, slice_get_read}
use Rattle.circular_buffer.proofs.Places.{slice_get-set_same, slice_get-set_other}
use Rattle.station_core.specs.declared.TheConstants.{WINDOW, LAST}
use Rattle.circular_buffer.specs.Buffer.{Buffer, buffer}
use Rattle.std.proofs.lemmas.List.{length-replicate}
use Rattle.station_core.specs.Series.{Series, series, slot_at, series_at, window, FitsWindow}

-- the size of the window
pub window_is : window ≡ WINDOW
unfolding window
window_is = refl

module _ {M : Type 0} where
  pub slot_set_same : (xs : List (Option M)) (i : ℕ) (m : M) → i < length xs
      → slot_at (slice_set xs i (Some m)) i ≡ Some m
  slot_set_same xs i m h = ap (option_and_then (λ x. x)) (slice_get-set_same xs i (Some m) h)

  pub slot_set_other : (xs : List (Option M)) (i j : ℕ) (m : M) → j ≢ i
      → slot_at (slice_set xs i (Some m)) j ≡ slot_at xs j
  slot_set_other xs i j m h = ap (option_and_then (λ x. x)) (slice_get-set_other xs i j (Some m) h)

  slot_end : (xs : List (Option M)) (i : ℕ) → slot_at (xs ++ None ∷ []) i ≡ slot_at xs i
  slot_end [] zero = refl
  slot_end [] (suc i) = refl
  slot_end (x ∷ xs) zero = refl
  slot_end (x ∷ xs) (suc i) = slot_end xs i

  pub slot_shift : (xs : List (Option M)) (i : ℕ)
      → slot_at (drop 1 xs ++ None ∷ []) i ≡ slot_at xs (suc i)
  slot_shift [] zero = refl
  slot_shift [] (suc i) = refl
  slot_shift (x ∷ xs) i = slot_end xs i

  pub slot_empty : (n i : ℕ) → slot_at (replicate {A = Option M} n None) i ≡ None
  slot_empty zero i = refl
  slot_empty (suc n) zero = refl
  slot_empty (suc n) (suc i) = slot_empty n i

  nothing_moves : (xs : List (Option M)) → ((i : ℕ) → slot_at xs i ≡ None)
      → None ∷ xs ≡ xs ++ None ∷ []
  nothing_moves [] none = refl
  nothing_moves (x ∷ xs) none =
      ap (λ (o : Option M). None ∷ o ∷ xs) (none 0)
      ∙ ap (λ (ys : List (Option M)). None ∷ ys) (nothing_moves xs (λ i. none (suc i)))
      ∙ ap (λ (o : Option M). o ∷ (xs ++ None ∷ [])) (sym (none 0))

  -- if nothing is held after the first slot, emptying that slot moves all the others up
  pub moves_alone : (xs : List (Option M)) (first : Option M) → 0 < length xs → first ≡ None
      → ((i : ℕ) → 0 < i → slot_at xs i ≡ None) → slice_set xs 0 first ≡ drop 1 xs ++ None ∷ []
  moves_alone [] first some none behind = absurd (omega (arith, some))
  moves_alone (x ∷ xs) first some none behind =
      ap (λ (o : Option M). o ∷ xs) none ∙ nothing_moves xs (λ i. behind (suc i) (omega arith))

  -- the series of a station that exists
  pub series_at_there : (all : List (Series M)) (s : ℕ) (q : Series M) → slice_get all s ≡ Some q
      → series_at all s ≡ q
  series_at_there all s q h = ap (λ (o : Option (Series M)). unwrap_or o (series 0 false [])) h

  pub series_at_read : (all items : List (Series M)) (s : ℕ) (q : Series M) → items ≡ all
      → q ≡ get_or items s q → s < length all → series_at all s ≡ q
  series_at_read all items s q same read within =
      let here : s < length items = rw same within in
      rw (← same) (series_at_there items s q
      (slice_get_read items (length items) s q refl here read))

  -- a slot past the window's end
  pub slot_past : (xs : List (Option M)) (i : ℕ) → length xs ≤ i → slot_at xs i ≡ None
  slot_past xs i h = ap (option_and_then (λ x. x)) (slice_get_past xs i h)

  -- a ring with nothing held
  pub fits_empty : (k h w : ℕ) (ring : Buffer (Option M)) → k ≤ LAST → h ≤ LAST → w ≡ window
      → ring ≡ buffer (replicate w None) w → FitsWindow k h ring
  fits_empty k h w ring few last e same =
      rw same (record {
        count = few;
        last = last;
        width = length-replicate w None ∙ e;
        room = e;
        none_above = λ i _. slot_empty w i;
      })
