-- The spots of all things, thing by thing, ascend.
use Rattle.std.proofs.Common.{◌≡◌, ℕ, zero, suc, ◌+◌, ◌<◌, List, [], ◌∷◌, length, refl, arith}
use Rattle.std.proofs.Common.{Ordering, Less}
use Rattle.std.specs.List.{flat_map, range_with_len, AllByRecursion}
use Rattle.sqlite_trees.specs.Tree.{IsAscending}
use Rattle.sqlite_keyed.proofs.ListLemmas.{all-append, ascending-append}
use Rattle.nest_core.specs.Museum.{Museum}
use Rattle.posting_core.specs.declared.entry.Entry.{Entry}
use Rattle.posting_core.specs.declared.entry.Spot.{Spot}
use Rattle.posting_core.specs.declared.entry.NewSpot.{NewSpot}
use Rattle.posting_core.specs.History.{spots}
use Rattle.register_store.specs.StoredRows.{spots_of_thing, spots_by_thing}

-- under an order in which earlier things, and earlier spots of a thing, come first
module _ (cmp : NewSpot → NewSpot → Ordering) (by_thing : (a b : NewSpot) → a.thing < b.thing
    → cmp a b ≡ Less) (by_k : (a b : NewSpot) → a.thing ≡ b.thing → a.k < b.k
    → cmp a b ≡ Less) where
  abbrev Before : NewSpot → NewSpot → Type 0
  Before a b = cmp a b ≡ Less

  later : (a : NewSpot) (j : ℕ) (ss : List Spot) → a.k < j
      → AllByRecursion (Before a) (spots_of_thing a.thing j ss)
  later a j [] less = tt
  later a j (s ∷ ss) less = (
    by_k a (record { thing = a.thing; k = j; spot = s }) refl less,
    later a (j + 1) ss (omega arith),
  )

  of_thing : (x k : ℕ) (ss : List Spot) → IsAscending Before (spots_of_thing x k ss)
  of_thing x k [] = tt
  of_thing x k (s ∷ ss) = (
    later (record { thing = x; k = k; spot = s }) (k + 1) ss (omega arith),
    of_thing x (k + 1) ss,
  )

  above_thing : (a : NewSpot) (x k : ℕ) (ss : List Spot) → a.thing < x
      → AllByRecursion (Before a) (spots_of_thing x k ss)
  above_thing a x k [] less = tt
  above_thing a x k (s ∷ ss) less =
      (by_thing a (record { thing = x; k = k; spot = s }) less, above_thing a x (k + 1) ss less)

  above_things : (a : NewSpot) (f : ℕ → List Spot) (x n : ℕ) → a.thing < x
      → AllByRecursion (Before a) (flat_map (λ x. spots_of_thing x 1 (f x)) (range_with_len x n))
  above_things a f x zero less = tt
  above_things a f x (suc n) less =
      all-append (Before a) (spots_of_thing x 1 (f x)) _ (above_thing a x 1 (f x) less)
      (above_things a f (x + 1) n (omega arith))

  each_above : (f : ℕ → List Spot) (x k n : ℕ) (ss : List Spot)
      → AllByRecursion (λ a. AllByRecursion (Before a)
      (flat_map (λ x. spots_of_thing x 1 (f x)) (range_with_len (x + 1) n))) (spots_of_thing x k ss)
  each_above f x k n [] = tt
  each_above f x k n (s ∷ ss) = (
    above_things (record { thing = x; k = k; spot = s }) f (x + 1) n (omega arith),
    each_above f x (k + 1) n ss,
  )

  of_things : (f : ℕ → List Spot) (x n : ℕ)
      → IsAscending Before (flat_map (λ x. spots_of_thing x 1 (f x)) (range_with_len x n))
  of_things f x zero = tt
  of_things f x (suc n) = ascending-append Before (spots_of_thing x 1 (f x)) _ (of_thing x 1 (f x))
      (of_things f (x + 1) n) (each_above f x 1 n (f x))

  pub rows_ascend : (S : Museum) (P : List Entry) → IsAscending Before (spots_by_thing S P)
  rows_ascend S P = of_things (spots S P) 0 (length S.things)
