-- Whether a store is new depends on its rows of `meta`.
use Rattle.std.proofs.Common.{◌≡◌, ◌≤◌, ◌==◌, ℕ, List, [], ◌∷◌, length, map, true, false, Bool}
use Rattle.std.proofs.Common.{refl, ap, subst, sym, ◌∙◌, arith}
use Rattle.std.specs.Bool.{Decides}
use Rattle.std.proofs.lemmas.Bool.{eqb-true}
use Rattle.std.specs.List.Sorted.{IsPermutation}
use Rattle.sqlite.specs.Order.{Row}
use Rattle.sqlite.specs.State.{State}
use Rattle.register_store.specs.Registers.{is_new}
use Rattle.register_store.specs.StoredRows.{Content}
use Rattle.register_sql.specs.Profiles.{IsProfile}
use Rattle.register_sql.specs.Rows.{IsStored, meta_cells}
use Rattle.register_sql.proofs.Binds.{part_of, sound_in}
use Rattle.register_sql.proofs.Profiles.{metas_read, none_new, some_old}

pub is_empty : (rows : List Row) → Decides (length rows == 0) (rows ≡ [])
is_empty [] = ((λ _. refl), λ _. refl)
is_empty (r ∷ rows) = (
  λ is. absurd (let none = eqb-true (length (r ∷ rows)) 0 is in omega (arith, none)),
  λ is. absurd (omega (arith, ap length is)),
)

pub new_by : (new : Bool) (old : State) (made : ℕ) → made ≤ 6 → (rows : List Row)
    → IsProfile old made rows → Decides new (rows ≡ []) → (c : Content) → IsStored old.now.trees c
    → Decides new (is_new c.meta ≡ true)
new_by new old made few rows profile none c stored = go new none
  where
    there : IsPermutation (map meta_cells c.meta) rows
    there = metas_read made old.now.trees c rows
        (part_of made few old.now.trees (sound_in made old profile.part) c stored)
        profile.read

    go : (b : Bool) → Decides b (rows ≡ []) → Decides b (is_new c.meta ≡ true)
    go true told = (
      λ _. ap is_new (none_new c.meta
          (subst (IsPermutation (map meta_cells c.meta)) (told.0 refl) there)),
      λ _. refl,
    )
    go false told =
        let no : is_new c.meta ≡ false =
        some_old c.meta rows (λ is. absurd (let e : false ≡ true = told.1 is in cc)) there in
        (λ is. absurd (let e : false ≡ true = is in cc), λ is. sym no ∙ is)
