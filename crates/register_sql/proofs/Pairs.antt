-- The two rows of `meta`, in either order.
use Rattle.std.proofs.Common.{zero, suc, Bool, true, false, ltb, ltb-true, ltb-false, ◌≤◌}
use Rattle.std.proofs.Common.{slice_index_or, ◌≡◌, ◌≢◌, ◌⊎◌, inl, inr, ◌<◌, ◌+◌, ℕ, pos, List, []}
use Rattle.std.proofs.Common.{◌∷◌, length, codes, refl, sym, ap, subst, ◌∙◌, arith}
use Rattle.std.specs.List.{AllByRecursion}
use Rattle.std.proofs.lemmas.List.Sorted.{IsPermutation-refl, IsPermutation-sym}
use Rattle.std.proofs.lemmas.List.Sorted.{IsPermutation-middle, length_permutation}
use Rattle.sqlite_trees.proofs.ListLemmas.{all-permutation}
use Rattle.sqlite.specs.declared.types.Value.TheVariants.{Int, Text}
use Rattle.sqlite.specs.Order.{Row}
use Rattle.std.specs.Bool.{Decides}
use Rattle.register_sql.specs.Says.{IsWhole, IsOther, HasOther}

default_free : (rows : List Row) (i : ℕ) (d e : Row) → i < length rows
    → slice_index_or rows i d ≡ slice_index_or rows i e
default_free [] i d e low = absurd (omega (arith, low))
default_free (x ∷ xs) zero d e low = refl
default_free (x ∷ xs) (suc i) d e low = default_free xs i d e (omega (arith, low))

abbrev version_row : Row
version_row = Text (codes "version") ∷ Int (pos 2) ∷ []

abbrev depth_row : ℕ → Row
depth_row depth = Text (codes "depth") ∷ Int (pos depth) ∷ []

pub one_order : (a b : Row) (depth : ℕ) → a ≡ version_row → b ≡ depth_row depth
    → IsWhole depth (a ∷ b ∷ [])
one_order a b depth p q = rw (p, q) (IsPermutation-refl _)

pub other_order : (a b : Row) (depth : ℕ) → b ≡ version_row → a ≡ depth_row depth
    → IsWhole depth (a ∷ b ∷ [])
other_order a b depth p q = rw (p, q) (IsPermutation-middle (version_row ∷ []) (depth_row depth) [])

abbrev IsEither : ℕ → Row → Type 0
IsEither depth r = (r ≡ version_row) ⊎ (r ≡ depth_row depth)

differ : (depth : ℕ) → version_row ≢ depth_row depth
differ depth is = absurd (let e = is in cc)

all_either : (depth : ℕ) (rows : List Row) → IsWhole depth rows
    → AllByRecursion (IsEither depth) rows
all_either depth rows h = all-permutation (IsEither depth) _ _ h (inl refl, (inr refl, tt))

not_alike : (depth : ℕ) (r : Row) (rows : List Row) → IsWhole depth rows
    → AllByRecursion (λ x. x ≡ r) rows → ⊥
not_alike depth r rows h all = let both =
    all-permutation (λ x. x ≡ r) _ _ (IsPermutation-sym _ _ h) all in
    differ depth (both.0 ∙ sym both.1.0)

pub either_order : (a b : Row) (depth : ℕ) → IsWhole depth (a ∷ b ∷ [])
    → ((a ≡ version_row) × (b ≡ depth_row depth)) ⊎ ((b ≡ version_row) × (a ≡ depth_row depth))
either_order a b depth h = go (all_either depth (a ∷ b ∷ []) h).0
    (all_either depth (a ∷ b ∷ []) h).1.0
  where
    go : IsEither depth a → IsEither depth b → ((a ≡ version_row) × (b ≡ depth_row depth))
        ⊎ ((b ≡ version_row) × (a ≡ depth_row depth))
    go (inl p) (inr q) = inl (p, q)
    go (inr p) (inl q) = inr (q, p)
    go (inl p) (inl q) = absurd (not_alike depth version_row (a ∷ b ∷ []) h (p, (q, tt)))
    go (inr p) (inr q) = absurd (not_alike depth (depth_row depth) (a ∷ b ∷ []) h (p, (q, tt)))

pub two_rows : (rows : List Row) (a b : Row) → 2 ≤ length rows → length rows < 3
    → a ≡ slice_index_or rows 0 a → b ≡ slice_index_or rows 1 b → rows ≡ a ∷ b ∷ []
two_rows [] a b low high p q = absurd (omega (arith, low))
two_rows (x ∷ []) a b low high p q = absurd (omega (arith, low))
two_rows (x ∷ y ∷ []) a b low high p q = rw (p, q) refl
two_rows (x ∷ y ∷ z ∷ more) a b low high p q = absurd (omega (arith, high))

pub else_pair : (rows : List Row) (a b : Row) (depth : ℕ) (first second : Bool) → rows ≡ a ∷ b ∷ []
    → first ≡ false → Decides first ((a ≡ version_row) × (b ≡ depth_row depth))
    → Decides second ((b ≡ version_row) × (a ≡ depth_row depth))
    → Decides second (IsWhole depth rows)
else_pair rows a b depth first second is unfit d e = (
  λ yes. let p = e.0 yes in subst (IsWhole depth) (sym is) (other_order a b depth p.0 p.1),
  λ h. go (either_order a b depth (subst (IsWhole depth) is h)),
)
  where
    go : ((a ≡ version_row) × (b ≡ depth_row depth)) ⊎ ((b ≡ version_row) × (a ≡ depth_row depth))
        → second ≡ true
    go (inl p) = absurd (let f : true ≡ false = sym (d.1 p) ∙ unfit in cc)
    go (inr p) = e.1 p

pub no_pair : (rows : List Row) (depth : ℕ) → length rows ≢ 2 → Decides false (IsWhole depth rows)
no_pair rows depth other = (
  (λ f. absurd (let e : false ≡ true = f in cc)),
  λ h. absurd (other (length_permutation _ _ h)),
)

pub none_next : (rows : List Row) (at : ℕ) (row : Row) → at < length rows
    → row ≡ slice_index_or rows at row → ¬ IsOther row
    → ((k : ℕ) (d : Row) → k < at → ¬ IsOther (slice_index_or rows k d)) → (k : ℕ) (d : Row)
    → k < at + 1 → ¬ IsOther (slice_index_or rows k d)
none_next rows at row inside is unfit before k d low other = go (ltb k at) refl
  where
    go : (t : Bool) → ltb k at ≡ t → ⊥
    go true less = before k d (ltb-true k at less) other
    go false more =
        let here : k ≡ at = omega (arith, low, ltb-false k at more) in
        let same : slice_index_or rows k d ≡ row =
        ap (λ i. slice_index_or rows i d) here ∙ default_free rows at d row inside ∙ sym is in
        unfit (subst IsOther same other)

pub none_at_all : (rows : List Row) (at : ℕ) → length rows ≤ at
    → ((k : ℕ) (d : Row) → k < at → ¬ IsOther (slice_index_or rows k d))
    → Decides false (HasOther rows)
none_at_all rows at low none = (
  (λ f. absurd (let e : false ≡ true = f in cc)),
  λ h. absurd (none h.0 h.1 (omega (arith, low, h.2)) (subst IsOther h.3 h.4)),
)
