-- The rows of a store of version 1, in either order, and rows without a version.
use Rattle.std.proofs.Common.{zero, suc, Bool, true, false, ltb, ltb-true, ltb-false, ◌≤◌}
use Rattle.std.proofs.Common.{slice_index_or, ◌≡◌, ◌≢◌, ◌⊎◌, inl, inr, ◌<◌, ◌+◌, ℕ, pos, List, []}
use Rattle.std.proofs.Common.{◌∷◌, length, codes, refl, sym, ap, subst, ◌∙◌, arith, map}
use Rattle.std.specs.Bool.{Decides}
use Rattle.std.specs.List.{AllByRecursion}
use Rattle.std.specs.List.Sorted.{IsPermutation}
use Rattle.std.proofs.lemmas.List.Sorted.{IsPermutation-refl, IsPermutation-sym}
use Rattle.std.proofs.lemmas.List.Sorted.{IsPermutation-middle, length_permutation}
use Rattle.sqlite_trees.proofs.ListLemmas.{all-permutation}
use Rattle.sqlite.specs.Order.{Row, column}
use Rattle.sqlite.specs.Edit.{id_in}
use Rattle.sqlite_value.specs.Order.{bytes}
use Rattle.register_store.specs.StoredRows.{MetaRow}
use Rattle.register_sql.specs.Ages.{version_row, LacksRow, IsFirst}
use Rattle.register_sql.specs.Rows.{meta_cells}
use Rattle.register_sql.specs.Migrating.{Lacks}

default_free : (rows : List Row) (i : ℕ) (d e : Row) → i < length rows
    → slice_index_or rows i d ≡ slice_index_or rows i e
default_free [] i d e low = absurd (omega (arith, low))
default_free (x ∷ xs) zero d e low = refl
default_free (x ∷ xs) (suc i) d e low = default_free xs i d e (omega (arith, low))

-- ---- the two rows of version 1

abbrev first_version : Row
first_version = meta_cells (version_row 1)

abbrev first_depth : Row
first_depth = let m : MetaRow = record { name = codes "depth"; val = pos 8 } in meta_cells m

pub one_order : (a b : Row) → a ≡ first_version → b ≡ first_depth → IsFirst (a ∷ b ∷ [])
one_order a b p q = rw (p, q) (IsPermutation-refl _)

other_order : (a b : Row) → b ≡ first_version → a ≡ first_depth → IsFirst (a ∷ b ∷ [])
other_order a b p q = rw (p, q) (IsPermutation-middle (first_version ∷ []) first_depth [])

abbrev IsEither : Row → Type 0
IsEither r = (r ≡ first_version) ⊎ (r ≡ first_depth)

differ : first_version ≢ first_depth
differ is = absurd (let e = is in cc)

all_either : (rows : List Row) → IsFirst rows → AllByRecursion IsEither rows
all_either rows h = all-permutation IsEither _ _ h (inl refl, (inr refl, tt))

not_alike : (r : Row) (rows : List Row) → IsFirst rows → AllByRecursion (λ x. x ≡ r) rows → ⊥
not_alike r rows h all = let both =
    all-permutation (λ x. x ≡ r) _ _ (IsPermutation-sym _ _ h) all in differ (both.0 ∙ sym both.1.0)

either_order : (a b : Row) → IsFirst (a ∷ b ∷ []) → ((a ≡ first_version) × (b ≡ first_depth))
    ⊎ ((b ≡ first_version) × (a ≡ first_depth))
either_order a b h = go (all_either (a ∷ b ∷ []) h).0 (all_either (a ∷ b ∷ []) h).1.0
  where
    go : IsEither a → IsEither b → ((a ≡ first_version) × (b ≡ first_depth))
        ⊎ ((b ≡ first_version) × (a ≡ first_depth))
    go (inl p) (inr q) = inl (p, q)
    go (inr p) (inl q) = inr (q, p)
    go (inl p) (inl q) = absurd (not_alike first_version (a ∷ b ∷ []) h (p, (q, tt)))
    go (inr p) (inr q) = absurd (not_alike first_depth (a ∷ b ∷ []) h (p, (q, tt)))

pub are_pair : (rows : List Row) (a b : Row) (first : Bool) → rows ≡ a ∷ b ∷ [] → first ≡ true
    → Decides first ((a ≡ first_version) × (b ≡ first_depth)) → Decides true (IsFirst rows)
are_pair rows a b first is fit d =
    ((λ _. let p = d.0 fit in subst IsFirst (sym is) (one_order a b p.0 p.1)), λ _. refl)

pub else_pair : (rows : List Row) (a b : Row) (first second : Bool) → rows ≡ a ∷ b ∷ []
    → first ≡ false → Decides first ((a ≡ first_version) × (b ≡ first_depth))
    → Decides second ((b ≡ first_version) × (a ≡ first_depth))
    → Decides second (IsFirst rows)
else_pair rows a b first second is unfit d e = (
  λ yes. let p = e.0 yes in subst IsFirst (sym is) (other_order a b p.0 p.1),
  λ h. go (either_order a b (subst IsFirst is h)),
)
  where
    go : ((a ≡ first_version) × (b ≡ first_depth)) ⊎ ((b ≡ first_version) × (a ≡ first_depth))
        → second ≡ true
    go (inl p) = absurd (let f : true ≡ false = sym (d.1 p) ∙ unfit in cc)
    go (inr p) = e.1 p

pub no_pair : (rows : List Row) → length rows ≢ 2 → Decides false (IsFirst rows)
no_pair rows other = (
  (λ f. absurd (let e : false ≡ true = f in cc)),
  λ h. absurd (other (length_permutation _ _ h)),
)

-- ---- no row has the version

pub none_next : (version : ℕ) (rows : List Row) (at : ℕ) (row : Row) → at < length rows
    → row ≡ slice_index_or rows at row → row ≢ meta_cells (version_row version)
    → ((k : ℕ) (d : Row) → k < at → slice_index_or rows k d ≢ meta_cells (version_row version))
    → (k : ℕ) (d : Row) → k < at + 1
    → slice_index_or rows k d ≢ meta_cells (version_row version)
none_next version rows at row inside is unfit before k d low said = go (ltb k at) refl
  where
    go : (t : Bool) → ltb k at ≡ t → ⊥
    go true less = before k d (ltb-true k at less) said
    go false more =
        let here : k ≡ at = omega (arith, low, ltb-false k at more) in
        let same : slice_index_or rows k d ≡ row =
        ap (λ i. slice_index_or rows i d) here ∙ default_free rows at d row inside ∙ sym is in
        unfit (sym same ∙ said)

pub none_at_all : (version : ℕ) (rows : List Row) (at : ℕ) → length rows ≤ at
    → ((k : ℕ) (d : Row) → k < at → slice_index_or rows k d ≢ meta_cells (version_row version))
    → Decides true (LacksRow version rows)
none_at_all version rows at low none =
    ((λ _ k d inside. none k d (omega (arith, low, inside))), λ _. refl)

pub one_says : (version : ℕ) (rows : List Row) (at : ℕ) (row : Row) → at < length rows
    → row ≡ slice_index_or rows at row → row ≡ meta_cells (version_row version)
    → Decides false (LacksRow version rows)
one_says version rows at row inside is fit = (
  (λ f. absurd (let e : false ≡ true = f in cc)),
  λ lacks. absurd (lacks at row inside (sym is ∙ fit)),
)

-- ---- the same of the rows of a content

all_lack : (v : ℕ) (rows : List Row) → LacksRow v rows
    → AllByRecursion (λ r. r ≢ meta_cells (version_row v)) rows
all_lack v [] h = tt
all_lack v (r ∷ rows) h =
    (h 0 r (omega arith), all_lack v rows (λ k d low. h (suc k) d (omega (arith, low))))

each_lacks : (v : ℕ) (rows : List Row) → AllByRecursion (λ r. r ≢ meta_cells (version_row v)) rows
    → LacksRow v rows
each_lacks v [] h k d low = absurd (omega (arith, low))
each_lacks v (r ∷ rows) h zero d low = h.0
each_lacks v (r ∷ rows) h (suc k) d low = each_lacks v rows h.1 k d (omega (arith, low))

meta_of : Row → MetaRow
meta_of r = record { name = bytes (column r 0); val = id_in (column r 1) }

one_meta : (m n : MetaRow) → meta_cells m ≡ meta_cells n → m ≡ n
unfolding meta_of
one_meta m n same = ap meta_of same

rows_lack : (v : ℕ) (ms : List MetaRow) → Lacks v ms
    → AllByRecursion (λ r. r ≢ meta_cells (version_row v)) (map meta_cells ms)
rows_lack v [] h = tt
rows_lack v (m ∷ ms) h = (λ same. h.0 (one_meta m (version_row v) same), rows_lack v ms h.1)

metas_lack : (v : ℕ) (ms : List MetaRow)
    → AllByRecursion (λ r. r ≢ meta_cells (version_row v)) (map meta_cells ms) → Lacks v ms
metas_lack v [] h = tt
metas_lack v (m ∷ ms) h = (λ same. h.0 (ap meta_cells same), metas_lack v ms h.1)

pub lacks_in : (v : ℕ) (ms : List MetaRow) (rows : List Row)
    → IsPermutation (map meta_cells ms) rows → LacksRow v rows → Lacks v ms
lacks_in v ms rows held h =
    metas_lack v ms (all-permutation _ _ _ (IsPermutation-sym _ _ held) (all_lack v rows h))

pub lacks_out : (v : ℕ) (ms : List MetaRow) (rows : List Row)
    → IsPermutation (map meta_cells ms) rows → Lacks v ms → LacksRow v rows
lacks_out v ms rows held h = each_lacks v rows (all-permutation _ _ _ held (rows_lack v ms h))
