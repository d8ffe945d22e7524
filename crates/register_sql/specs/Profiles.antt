-- Defines the checks that opening and migrating a store share.
use Rattle.std.specs.Prelude.{◌≡◌, ◌≢◌, ◌⊎◌, ℕ, List}
use Rattle.std.specs.List.Sorted.{IsPermutation}
use Rattle.nest_core.specs.Museum.{Museum}
use Rattle.sqlite.specs.Effect.{Database}
use Rattle.sqlite.specs.Order.{Row}
use Rattle.sqlite.specs.State.{State}
use Rattle.sqlite.specs.Tree.{Trees}
use Rattle.register_store.specs.declared.store_fault.StoreFault.{StoreFault}
use Rattle.register_store.specs.declared.store_fault.StoreFault.TheVariants.{NoMemory, Store}
use Rattle.register_store.specs.declared.store_fault.StoreFault.TheVariants.{OtherSetup, Damaged}
use Rattle.register_store.specs.declared.store_fault.StoreFault.TheVariants.{OtherVersion}
use Rattle.register_sql.specs.Queries.{IsPart, AreApart}
use Rattle.register_sql.specs.Says.{metas_in, HasSetup}
use Rattle.register_sql.specs.Tables.{IsNoStore}

-- The store has the first `made` tables, and these rows about itself, in any order.
pub record IsProfile (s : State) (made : ℕ) (metas : List Row) : Type 0 where
  pub part : IsPart made s
  pub read : IsPermutation (metas_in made s.now.trees) metas

-- Why a database has no profile: memory ran out, or its tables are those of no store.
abbrev pub IsProfileFault : Database → StoreFault → Type 0
IsProfileFault db NoMemory = Unit {0}
IsProfileFault db Store = IsNoStore db
IsProfileFault db OtherSetup = ⊥
IsProfileFault db (Damaged at) = ⊥
IsProfileFault db OtherVersion = ⊥

-- A store of the first `made` tables has this setup and the wanted tables, and its rowids are
-- numbers that differ.
pub record IsComplete (S : Museum) (made wanted : ℕ) (db : Trees) : Type 0 where
  pub setup : HasSetup S made db
  pub tables : made ≡ wanted
  pub apart : AreApart wanted db

-- Why it isn't complete, in this order: OtherSetup; Store, if it has other tables than the wanted
-- ones, or if its rowids are not numbers that differ.
abbrev pub IsCompareFault : Museum → ℕ → ℕ → Trees → StoreFault → Type 0
IsCompareFault S made wanted db NoMemory = Unit {0}
IsCompareFault S made wanted db OtherSetup = ¬ HasSetup S made db
IsCompareFault S made wanted db Store =
    HasSetup S made db × ((made ≢ wanted) ⊎ (¬ AreApart wanted db))
IsCompareFault S made wanted db (Damaged at) = ⊥
IsCompareFault S made wanted db OtherVersion = ⊥
