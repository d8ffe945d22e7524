-- The stores that are rejected with Store when they are bound.
use Rattle.std.proofs.Common.{◌≡◌, ◌≢◌, ◌≤◌, ◌⊎◌, ℕ, List, [], map, drop, refl, sym, ◌∙◌, ap}
use Rattle.std.proofs.Common.{subst, inl, inr, arith}
use Rattle.std.specs.List.Sorted.{IsPermutation}
use Rattle.nest_core.specs.Museum.{Museum}
use Rattle.sqlite.specs.Order.{Row}
use Rattle.sqlite.specs.State.{State}
use Rattle.register_store.specs.Registers.{is_new}
use Rattle.register_store.specs.StoredRows.{Content}
use Rattle.register_store.specs.declared.store_fault.StoreFault.{StoreFault}
use Rattle.register_store.specs.declared.store_fault.StoreFault.TheVariants.{NoMemory, Store}
use Rattle.register_store.specs.declared.store_fault.StoreFault.TheVariants.{OtherSetup, Damaged}
use Rattle.register_store.specs.declared.store_fault.StoreFault.TheVariants.{OtherVersion}
use Rattle.register_sql.specs.Binding.{IsRefused, IsUnfitFor}
use Rattle.register_sql.specs.Profiles.{IsProfile, IsProfileFault, IsCompareFault}
use Rattle.register_sql.specs.Queries.{IsPart, IsSame, AreApart}
use Rattle.register_sql.specs.Rows.{HasPart, IsStored, had, meta_cells}
use Rattle.register_sql.specs.Says.{IsIdentity, HasSetup}
use Rattle.register_sql.specs.Tables.{hub_schema}
use Rattle.register_sql.specs.declared.identity.Identity.TheVariants as told
use Rattle.register_sql.proofs.Binds.{part_of, sound_in, refused_as, other_fault}
use Rattle.register_sql.proofs.Prefixes.{same_count}
use Rattle.register_sql.proofs.Profiles.{none_new, whole_meta, has_the_setup, lacks_the_setup}
use Rattle.register_sql.proofs.Rising.{same_then, trees_same}

pub memory_is_not_store : NoMemory ≢ Store
memory_is_not_store is = cc

pub refused_unfit : (S : Museum) (old new : State) → IsSame old new → IsUnfitFor S old.now
    → IsRefused S old new Store
refused_unfit S old new same unfit =
    record { same = same; cause = λ c held. tt; unfit = λ is. unfit }

-- a new store
pub new_unfit : (S : Museum) (made : ℕ) → made ≤ 6 → (old : State) → IsPart made old
    → had 1 made (old.now.trees 0) ≡ [] → ¬ AreApart made old.now.trees → IsUnfitFor S old.now
new_unfit S made few old part none other =
    let held : (c : Content) → IsStored old.now.trees c → HasPart made old.now.trees c =
    part_of made few old.now.trees (sound_in made old part) in
    inr (inl (record {
      new = λ c stored. ap is_new (none_new c.meta
          (subst (λ l. IsPermutation (map meta_cells c.meta) (map (drop 1) l)) none
          (held c stored).meta));
      unfit = (made, part.schema, other);
    }))

-- an old one
old_unfit : (S : Museum) (made depth : ℕ) → made ≤ 6 → (old : State) (rows : List Row)
    → IsProfile old made rows → IsIdentity rows (told.Bound depth) → HasSetup S made old.now.trees
    → (made ≢ 6) ⊎ (¬ AreApart 6 old.now.trees) → IsUnfitFor S old.now
old_unfit S made depth few old rows profile is has unfit =
    let db = old.now.trees in
    let held : (c : Content) → IsStored db c → HasPart made db c =
    part_of made few db (sound_in made old profile.part) in
    inr (inr (record {
      whole = λ c stored.
          (depth, is.0, whole_meta made db rows depth profile.read is c (held c stored));
      setup = λ c stored. has_the_setup S made db has c (held c stored);
      unfit = unfit_tables unfit;
    }))
  where
    unfit_tables : (made ≢ 6) ⊎ (¬ AreApart 6 old.now.trees)
        → (old.now.schema ≢ hub_schema) ⊎ (¬ AreApart 6 old.now.trees)
    unfit_tables (inl other) = inl (λ six. other
        (same_count made 6 few (omega arith) (sym profile.part.schema ∙ six)))
    unfit_tables (inr other) = inr other

-- a database without a profile
pub no_profile : (S : Museum) (old new : State) (fault : StoreFault) → IsSame old new
    → IsProfileFault old.now fault → IsRefused S old new fault
no_profile S old new NoMemory same why = record {
  same = same;
  cause = λ c held. tt;
  unfit = λ is. absurd (memory_is_not_store is);
}
no_profile S old new Store same why = refused_unfit S old new same (inl why)
no_profile S old new OtherSetup same why = absurd why
no_profile S old new (Damaged at) same why = absurd why
no_profile S old new OtherVersion same why = absurd why

-- an old store that isn't complete
not_complete : (S : Museum) (made depth : ℕ) → made ≤ 6 → (old new : State) (rows : List Row)
    (fault : StoreFault) → IsProfile old made rows → IsIdentity rows (told.Bound depth)
    → IsSame old new → IsCompareFault S made 6 old.now.trees fault → IsRefused S old new fault
not_complete S made depth few old new rows NoMemory profile is same why =
    no_profile S old new NoMemory same tt
not_complete S made depth few old new rows Store profile is same why =
    refused_unfit S old new same (old_unfit S made depth few old rows profile is why.0 why.1)
not_complete S made depth few old new rows OtherSetup profile is same why =
    refused_as S made few old new OtherSetup profile.part same (λ c held. (
      (depth, is.0, whole_meta made old.now.trees rows depth profile.read is c held),
      lacks_the_setup S made old.now.trees why c held,
    )) (other_fault OtherSetup refl)
not_complete S made depth few old new rows (Damaged at) profile is same why = absurd why
not_complete S made depth few old new rows OtherVersion profile is same why = absurd why

pub refused_old : (S : Museum) (made depth : ℕ) → made ≤ 6 → (old mid new : State)
    (rows : List Row) (fault : StoreFault) → IsProfile old made rows
    → IsIdentity rows (told.Bound depth) → IsSame old mid
    → IsCompareFault S made 6 mid.now.trees fault → IsSame mid new → IsRefused S old new fault
refused_old S made depth few old mid new rows fault profile is first why second =
    not_complete S made depth few old new rows fault profile is (same_then old mid new first second)
    (subst (λ db. IsCompareFault S made 6 db fault) (trees_same old mid first) why)
