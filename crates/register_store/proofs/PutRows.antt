-- Rows that replace those with the same key.
use Rattle.std.specs.Prelude.{◌≡◌, ◌||◌, Bool, true, false, not, List, [], ◌∷◌, map, filter}
use Rattle.std.specs.Prelude.{if◌then◌else◌, refl}
use Rattle.std.proofs.Common.{ap, sym, subst, ◌∙◌}
use Rattle.std.specs.List.{list_any, AllByRecursion, IsDistinct}
use Rattle.std.specs.List.Sorted.{IsPermutation}
use Rattle.std.specs.Map.{keys_of}
use Rattle.std.proofs.lemmas.List.Sorted.{IsPermutation-refl, IsPermutation-trans}
use Rattle.std.proofs.lemmas.List.Sorted.{IsPermutation-cons, IsPermutation-middle}
use Rattle.indexmap.specs.IndexMap.{insert_entry}
use Rattle.sqlite_trees.specs.Tree.{IsAscending}
use Rattle.sqlite_keyed.proofs.ListLemmas.{all_weaker, filter_all, IsPermutation-same}
use Rattle.sqlite_keyed.proofs.ListLemmas.{IsPermutation-filter}
use Rattle.register_store.specs.StoredRows.{put, put_each}

module _ {R : Type 0} (same : R → R → Bool) where
  -- none of them has the same key
  abbrev pub IsFree : R → List R → Type 0
  IsFree r rows = AllByRecursion (λ q. same r q ≡ false) rows

  -- none has the same key as a later one
  abbrev pub AreOnce : List R → Type 0
  AreOnce rows = IsAscending (λ r q. same r q ≡ false) rows

  -- the row replaces one with the same key
  abbrev pub replaced : R → R → R
  replaced r q = if same r q then r else q

  pub put_same : (r : R) (a b : List R) → IsPermutation a b
      → IsPermutation (put same r a) (put same r b)
  put_same r a b alike = IsPermutation-cons r _ _
      (IsPermutation-filter (λ q. not (same r q)) a b alike)

  -- two lists with the same rows in different orders still have the same rows after others are put
  pub put_each_same : (rs a b : List R) → IsPermutation a b
      → IsPermutation (put_each same rs a) (put_each same rs b)
  put_each_same [] a b alike = alike
  put_each_same (r ∷ rs) a b alike =
      put_each_same rs (put same r a) (put same r b) (put_same r a b alike)

  all_stay : (r : R) (rows : List R) → IsFree r rows → filter (λ q. not (same r q)) rows ≡ rows
  all_stay r rows free = filter_all (λ q. not (same r q)) rows
      (all_weaker (λ q. same r q ≡ false) (λ q. not (same r q) ≡ true) (λ q e. ap not e) rows free)

  pub put_new : (r : R) (rows : List R) → IsFree r rows → put same r rows ≡ r ∷ rows
  put_new r rows free = ap (λ l. r ∷ l) (all_stay r rows free)

  none_replaced : (r : R) (rows : List R) → IsFree r rows → map (replaced r) rows ≡ rows
  none_replaced r [] free = refl
  none_replaced r (q ∷ rows) (e, free) = rw e (ap (λ l. q ∷ l) (none_replaced r rows free))

  -- the second of two rows moves to the front
  exchanged : (r q : R) (rows : List R) → IsPermutation (q ∷ r ∷ rows) (r ∷ q ∷ rows)
  exchanged r q rows = IsPermutation-middle (q ∷ []) r rows

  -- if no key is repeated, putting is replacing
  pub put_replaces : ((r q s : R) → same r q ≡ true → same q s ≡ false → same r s ≡ false)
      → (r : R) (rows : List R) → AreOnce rows → list_any (same r) rows ≡ true
      → IsPermutation (map (replaced r) rows) (put same r rows)
  put_replaces apart r [] once there = absurd (let both : true ≡ false = sym there in cc)
  put_replaces apart r (q ∷ rows) once there =
      elim (same r q) as (λ b. same r q ≡ b → (b || list_any (same r) rows) ≡ true
      → IsPermutation ((if b then r else q) ∷ map (replaced r) rows)
      (r ∷ (if not b then q ∷ filter (λ s. not (same r s)) rows else filter
      (λ s. not (same r s)) rows))) [
        | true ↦ λ e h.
            let free : IsFree r rows = all_weaker (λ s. same q s ≡ false) (λ s. same r s ≡ false)
            (λ s apart_from. apart r q s e apart_from) rows once.0 in
            IsPermutation-same _ _ (ap (λ l. r ∷ l)
            (none_replaced r rows free ∙ sym (all_stay r rows free)))
        | false ↦ λ e h. IsPermutation-trans _ _ _
            (IsPermutation-cons q _ _ (put_replaces apart r rows once.1 h)) (exchanged r q _)
      ] refl there

  -- a pair that a map inserts is put among its rows
  module _ {K V : Type 0} (eq : K → K → Bool) (exact : (k l : K) → eq k l ≡ true → k ≡ l) (row : K
      → V → R) (keyed : (k l : K) (v w : V) → same (row k v) (row l w) ≡ eq k l) where
    abbrev rows_of : List (K × V) → List R
    rows_of kept = map (λ e. row e.0 e.1) kept

    others : (k : K) (v : V) (kept : List (K × V))
        → AllByRecursion (λ l. eq k l ≡ false) (keys_of kept) → IsFree (row k v) (rows_of kept)
    others k v [] free = tt
    others k v (e ∷ kept) (apart, free) = (keyed k e.0 v e.1 ∙ apart, others k v kept free)

    pub inserted : (k : K) (v : V) (kept : List (K × V))
        → IsDistinct eq (keys_of (insert_entry eq kept k v))
        → IsPermutation (rows_of (insert_entry eq kept k v)) (put same (row k v) (rows_of kept))
    unfolding IsDistinct
    inserted k v [] distinct = IsPermutation-refl _
    inserted k v (e ∷ kept) distinct =
        elim (eq k e.0) as (λ b. eq k e.0 ≡ b
        → IsDistinct eq (keys_of (if b then (e.0, v) ∷ kept else e ∷ insert_entry eq kept k v))
        → IsPermutation (rows_of (if b then (e.0, v) ∷ kept else e ∷ insert_entry eq kept k v))
        (put same (row k v) (rows_of (e ∷ kept)))) [
          | true ↦ λ h d.
              let is : k ≡ e.0 = exact k e.0 h in
              let free : IsFree (row k v) (rows_of kept) =
              others k v kept (subst (λ l. AllByRecursion (λ m. eq l m ≡ false) (keys_of kept))
              (sym is) d.0) in
              let gone : same (row k v) (row e.0 e.1) ≡ true = keyed k e.0 v e.1 ∙ h in
              IsPermutation-same _ _
              (rw gone (ap (λ l. row l v ∷ rows_of kept) (sym is) ∙ ap (λ l. row k v ∷ l)
              (sym (all_stay (row k v) (rows_of kept) free))))
          | false ↦ λ h d.
              let stays : same (row k v) (row e.0 e.1) ≡ false = keyed k e.0 v e.1 ∙ h in
              rw stays (IsPermutation-trans _ _ _
              (IsPermutation-cons (row e.0 e.1) _ _ (inserted k v kept d.1))
              (exchanged (row k v) (row e.0 e.1) _))
        ] refl distinct

-- rows are put as the values that they stand for
module _ {A R : Type 0} (alike : A → A → Bool) (same : R → R → Bool) (row : A
    → R) (keyed : (a b : A) → same (row a) (row b) ≡ alike a b) where
  others_kept : (a : A) (held : List A)
      → map row (filter (λ b. not (alike a b)) held) ≡ filter (λ r. not (same (row a) r))
      (map row held)
  others_kept a [] = refl
  others_kept a (b ∷ held) =
      rw (keyed a b) (elim (alike a b) as
      (λ t. map row (if not t then b ∷ filter (λ c. not (alike a c)) held else filter
      (λ c. not (alike a c)) held)
      ≡ (if not t then row b ∷ filter (λ r. not (same (row a) r)) (map row held) else filter
      (λ r. not (same (row a) r)) (map row held))) [
        | true ↦ others_kept a held
        | false ↦ ap (λ l. row b ∷ l) (others_kept a held)
      ])

  pub put_mapped : (new held : List A)
      → map row (put_each alike new held) ≡ put_each same (map row new) (map row held)
  put_mapped [] held = refl
  put_mapped (a ∷ new) held = put_mapped new (put alike a held)
      ∙ ap (λ l. put_each same (map row new) (row a ∷ l)) (others_kept a held)
