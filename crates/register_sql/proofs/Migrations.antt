-- The version of a store decides whether it is migrated, and which rows it then has.
use Rattle.std.proofs.Common.{◌≡◌, ◌≢◌, ◌⊎◌, inl, inr, ◌≤◌, ℕ, List, [], ◌∷◌, length, map, reverse}
use Rattle.std.proofs.Common.{true, false, All, Ok, Err, Result, IfOk, OnOk, refl, sym, ap, subst}
use Rattle.std.proofs.Common.{◌∙◌, arith}
use Rattle.std.specs.List.Sorted.{IsPermutation}
use Rattle.std.proofs.lemmas.List.Sorted.{IsPermutation-refl, IsPermutation-sym}
use Rattle.std.proofs.lemmas.List.Sorted.{IsPermutation-trans, IsPermutation-map}
use Rattle.std.proofs.lemmas.List.Sorted.{IsPermutation-reverse, All-permutation}
use Rattle.nest_core.specs.Museum.{Museum}
use Rattle.posting_core.specs.Lawful.{IsLawful}
use Rattle.posting_core.specs.declared.entry.Entry.{Entry}
use Rattle.sqlite.proofs.StateLemmas.{survives_then}
use Rattle.sqlite.specs.Effect.{Database}
use Rattle.sqlite.specs.Order.{Row}
use Rattle.sqlite.specs.State.{State, HasCleanDisk, Survives}
use Rattle.sqlite.specs.Tree.{Trees}
use Rattle.register_store.proofs.TermRows.{next_terms}
use Rattle.register_store.specs.Registers.{is_new, is_of_listing}
use Rattle.register_store.specs.StoredRows.{Content, HasList, rows_of_setup, rows_of_terms}
use Rattle.register_store.specs.declared.store_fault.StoreFault.{StoreFault}
use Rattle.register_store.specs.declared.store_fault.StoreFault.TheVariants.{NoMemory, Store}
use Rattle.register_store.specs.declared.store_fault.StoreFault.TheVariants.{OtherSetup, Damaged}
use Rattle.register_store.specs.declared.store_fault.StoreFault.TheVariants.{OtherVersion}
use Rattle.register_sql.specs.Ages.{first_meta, IsFirst, IsAged}
use Rattle.register_sql.specs.Early.{IsEarlyOf, IsFirstEarlyWrong}
use Rattle.register_sql.specs.Migrating.{Lacks, IsOfFirst, IsMigrateFault, AreFirstApart, IsUnfit}
use Rattle.register_sql.specs.Migrating.{IsFirstOf, IsRaisable, IsRaised, IsLeft, LeavesMoved}
use Rattle.register_sql.specs.Migrating.{ComesMigrated, IsLifted, LeavesLifted, days_given}
use Rattle.register_sql.specs.Migrating.{migrated, lifted}
use Rattle.register_sql.specs.Profiles.{IsProfile, IsProfileFault, IsComplete, IsCompareFault}
use Rattle.register_sql.specs.Queries.{IsPart, IsSame, AreApart}
use Rattle.register_sql.specs.Rows.{HasPart, AreRows, IsStored, Apart, meta_cells}
use Rattle.register_sql.specs.Says.{HasOther, HasSetup, metas_in}
use Rattle.register_sql.specs.Tables.{prefix}
use Rattle.register_sql.specs.declared.version.Age.TheVariants as age
use Rattle.register_sql.proofs.Profiles.{metas_read, same_metas, none_new, some_old, none_other}
use Rattle.register_sql.proofs.Profiles.{told_other, has_the_setup, lacks_the_setup}
use Rattle.register_sql.proofs.Binds.{part_of, sound_in, other_fault}
use Rattle.register_sql.proofs.Contents.{content_in, same_part}
use Rattle.register_sql.proofs.Prefixes.{same_count}
use Rattle.register_sql.proofs.Raised.{lifted_is}
use Rattle.register_sql.proofs.Rising.{part_same, same_then, trees_same}
use Rattle.register_sql.proofs.Unfit.{memory_is_not_store}
use Rattle.register_sql.proofs.Ages.{lacks_in, lacks_out}

-- ---- the law

pub given_are_of_looking_back : (S : Museum) (depth : ℕ) (P : List Entry) → IsLawful S depth P
    → IsPermutation (rows_of_terms P) (days_given P)
given_are_of_looking_back S depth [] lawful = IsPermutation-refl []
given_are_of_looking_back S depth (e ∷ P) lawful =
    next_terms S depth P e (days_given P) lawful.0 lawful.1
    (given_are_of_looking_back S depth P lawful.1)

-- ---- the version decides

module _ (S : Museum) (made : ℕ) (db : Trees) (rows : List Row)
    (read : IsPermutation (metas_in made db) rows) where
  pub says_nothing : IsAged rows age.New → (c : Content) → HasPart made db c
      → IsMigrateFault S c OtherVersion
  says_nothing is c held =
      inl (ap is_new (none_new c.meta
      (subst (IsPermutation (map meta_cells c.meta)) is (metas_read made db c rows held read))))

  pub says_other : IsAged rows age.Other → (c : Content) → HasPart made db c
      → IsMigrateFault S c OtherVersion
  says_other is c held =
      let metas = metas_read made db c rows held read in
      inr (
        told_other S made db rows read is.0 c held,
        lacks_in 1 c.meta rows metas is.1,
        lacks_in 2 c.meta rows metas is.2,
      )

  pub says_second : IsAged rows age.Second → (c : Content) → HasPart made db c → ¬ Lacks 2 c.meta
  says_second is c held lacks =
      is (lacks_out 2 c.meta rows (metas_read made db c rows held read) lacks)

  pub says_damaged : IsAged rows age.Damaged → (c : Content) → HasPart made db c
      → IsMigrateFault S c (Damaged 0)
  says_damaged is c held =
      let metas = metas_read made db c rows held read in
      inl (
        refl,
        record {
          old = some_old c.meta rows is.0 metas;
          known = λ other lacks. absurd (let none : ¬ HasOther rows = λ has. is.3 has
              (lacks_out 1 c.meta rows metas lacks) in let e : true ≡ false =
              sym other ∙ none_other rows c.meta metas none in cc);
          lacks = lacks_in 2 c.meta rows metas is.1;
          broken =
              λ whole. is.2 (IsPermutation-trans _ _ _
              (IsPermutation-map meta_cells _ _ whole) metas);
        },
      )

pub first_there : (made : ℕ) (old mid : State) → IsSame old mid → (rows : List Row)
    → IsPermutation (metas_in made old.now.trees) rows → IsAged rows age.First
    → IsFirst (metas_in made mid.now.trees)
first_there made old mid same rows read is =
    subst (λ db. IsFirst (metas_in made db)) (sym (trees_same old mid same))
    (IsPermutation-trans _ _ _ is (IsPermutation-sym _ _ read))

first_metas : (made : ℕ) (db : Trees) → IsFirst (metas_in made db) → (c : Content)
    → HasPart made db c → IsPermutation first_meta c.meta
first_metas made db is c held =
    same_metas _ _ (metas_in made db) is
    (metas_read made db c (metas_in made db) held (IsPermutation-refl _))

pub left_as : (S : Museum) (made : ℕ) → made ≤ 6 → (old new : State) (fault : StoreFault)
    → IsPart made old → IsSame old new
    → ((c : Content) → HasPart made old.now.trees c → IsMigrateFault S c fault) → fault ≢ Store
    → IsLeft S old new fault
left_as S made few old new fault part same cause other =
    record {
      same = same;
      cause = λ c held. cause c
          (part_of made few old.now.trees (sound_in made old part) c held);
      unfit =
          λ is. absurd (other is);
    }

pub left_unfit : (S : Museum) (old new : State) → IsSame old new → IsUnfit S old.now
    → IsLeft S old new Store
left_unfit S old new same unfit = record { same = same; cause = λ c held. tt; unfit = λ is. unfit }

pub left_no_profile : (S : Museum) (old new : State) (fault : StoreFault) → IsSame old new
    → IsProfileFault old.now fault → IsLeft S old new fault
left_no_profile S old new NoMemory same why =
    record { same = same; cause = λ c held. tt; unfit = λ is. absurd (memory_is_not_store is) }
left_no_profile S old new Store same why = left_unfit S old new same (inl why)
left_no_profile S old new OtherSetup same why = absurd why
left_no_profile S old new (Damaged at) same why = absurd why
left_no_profile S old new OtherVersion same why = absurd why

-- a store of version 1 that can't be migrated
pub unfit_first : (S : Museum) (made : ℕ) → made ≤ 6 → (old : State) → IsPart made old
    → IsFirst (metas_in made old.now.trees) → HasSetup S made old.now.trees
    → (made ≢ 5) ⊎ (¬ AreFirstApart old.now.trees) → IsUnfit S old.now
unfit_first S made few old part first has unfit =
    let db = old.now.trees in
    let held : (c : Content) → IsStored db c → HasPart made db c =
    part_of made few db (sound_in made old part) in
    inr (record {
      meta = λ c stored. first_metas made db first c (held c stored);
      setup = λ c stored. has_the_setup S made db has c (held c stored);
      unfit = unfit_tables unfit;
    })
  where
    unfit_tables : (made ≢ 5) ⊎ (¬ AreFirstApart old.now.trees)
        → (old.now.schema ≢ prefix 5) ⊎ (¬ AreFirstApart old.now.trees)
    unfit_tables (inl other) =
        inl (λ five. other (same_count made 5 few (omega arith) (sym part.schema ∙ five)))
    unfit_tables (inr other) = inr other

pub left_first : (S : Museum) (made : ℕ) → made ≤ 6 → (old new : State) (fault : StoreFault)
    → IsPart made old → IsFirst (metas_in made old.now.trees) → IsSame old new
    → IsCompareFault S made 5 old.now.trees fault → IsLeft S old new fault
left_first S made few old new NoMemory part first same why =
    left_no_profile S old new NoMemory same tt
left_first S made few old new Store part first same why =
    left_unfit S old new same (unfit_first S made few old part first why.0 (unfit why.1))
  where
    unfit : (made ≢ 5) ⊎ (¬ AreApart 5 old.now.trees)
        → (made ≢ 5) ⊎ (¬ AreFirstApart old.now.trees)
    unfit (inl other) = inl other
    unfit (inr other) = inr (λ apart. other apart.1)
left_first S made few old new OtherSetup part first same why =
    left_as S made few old new OtherSetup part same (λ c held. (
      first_metas made old.now.trees first c held,
      lacks_the_setup S made old.now.trees why c held,
    )) (other_fault OtherSetup refl)
left_first S made few old new (Damaged at) part first same why = absurd why
left_first S made few old new OtherVersion part first same why = absurd why

-- one with equal rowids in `meta`
pub left_apart : (S : Museum) (made : ℕ) (old mid new : State) → IsPart made old
    → IsFirst (metas_in made old.now.trees) → IsComplete S made 5 old.now.trees → IsSame old mid
    → IsSame mid new → ¬ Apart (mid.now.trees 0) → IsLeft S old new Store
left_apart S made old mid new part first complete same then other =
    left_unfit S old new (same_then old mid new same then)
    (unfit_first S made (omega (arith, complete.tables)) old part first complete.setup
    (inr (λ apart. other (subst (λ (k : Database). Apart (k.trees 0)) (sym same.now) apart.0))))

pub second_as : (S : Museum) (made : ℕ) → made ≤ 6 → (old new : State) (rows : List Row)
    → IsProfile old made rows → IsSame old new → IsAged rows age.Second → IsRaised S old new
second_as S made few old new rows profile same is =
    let db = old.now.trees in
    inr (record {
      same = same;
      second = λ c held. says_second S made db rows profile.read is c
          (part_of made few db (sound_in made old profile.part) c held);
    })

-- ---- the rows that the transaction writes

module _ (S : Museum) (entries : List Entry) (old : State) (is : IsRaisable S old)
    (listed : (c : Content) → HasPart 5 old.now.trees c → HasList (reverse entries) c)
    (known : All (IsEarlyOf (length S.stations)) entries)
    (next : Trees) (lifts : (c : Content) → HasPart 5 old.now.trees c
    → AreRows next (lifted entries c)) where
  first : (c : Content) × HasPart 5 old.now.trees c
  first = content_in 5 (omega arith) old.now.trees (sound_in 5 old is.part) is.apart.setup.ints
      is.apart.postings.ints

  first_is : IsOfFirst S (reverse entries) first.0
  first_is = record {
    meta = is.first.meta first.0 first.1;
    setup = is.first.setup first.0 first.1;
    list = listed first.0 first.1;
    known = All-permutation (IsEarlyOf (length S.stations)) entries _
        (IsPermutation-reverse entries) known;
  }

  moved_content : (d : Content) × AreRows next d
  moved_content = (
    migrated (reverse entries) first.0,
    subst (AreRows next) (lifted_is entries first.0) (lifts first.0 first.1),
  )

  moved_comes : (d : Content) → AreRows next d → ComesMigrated S old.now.trees d
  unfolding moved_content
  moved_comes d h = (
    first.0,
    record { made = 5; few = omega arith; sound = sound_in 5 old is.part; rows = first.1 },
    (reverse entries, first_is, same_part 6 next moved_content.0 d moved_content.1 h),
  )

pub moved_of : (S : Museum) (entries : List Entry) (old mid new : State) → IsRaisable S old
    → IsSame old mid → ((c : Content) → HasPart 5 old.now.trees c → HasList (reverse entries) c)
    → All (IsEarlyOf (length S.stations)) entries
    → IsLifted entries mid new → IsRaised S old new
moved_of S entries old mid new is same listed known did =
    let lifts : (c : Content) → HasPart 5 old.now.trees c
    → AreRows new.now.trees (lifted entries c) =
    λ c held. did.rows c (subst (λ (k : Database). HasPart 5 k.trees c) (sym same.now) held) in
    inl (record {
      was_open = is.part.is_open;
      ready = record { is_open = did.is_open; settled = sym did.committed; whole = did.whole };
      content = moved_content S entries old is listed known new.now.trees lifts;
      comes = moved_comes S entries old is listed known new.now.trees lifts;
    })

leaves_of : (S : Museum) (entries : List Entry) (old mid : State) → IsRaisable S old
    → IsSame old mid → ((c : Content) → HasPart 5 old.now.trees c → HasList (reverse entries) c)
    → All (IsEarlyOf (length S.stations)) entries
    → (db : Trees) → LeavesLifted entries mid db → LeavesMoved S old db
leaves_of S entries old mid is same listed known db did =
    let lifts : (c : Content) → HasPart 5 old.now.trees c → AreRows db (lifted entries c) =
    λ c held. did.rows c (subst (λ (k : Database). HasPart 5 k.trees c) (sym same.now) held) in
    record {
      sound = did.sound;
      content = moved_content S entries old is listed known db lifts;
      comes = moved_comes S entries old is listed known db lifts;
    }

pub moved_survives : (S : Museum) (entries : List Entry) (old mid new : State)
    → (HasCleanDisk old → IsRaisable S old) → Survives old mid (λ _. ⊥)
    → (HasCleanDisk mid → IsSame old mid)
    → (HasCleanDisk mid → (c : Content) → HasPart 5 old.now.trees c → HasList (reverse entries) c)
    → All (IsEarlyOf (length S.stations)) entries → Survives mid new (LeavesLifted entries mid)
    → Survives old new (LeavesMoved S old)
moved_survives S entries old mid new is first same listed known second =
    survives_then old mid new _ _ (LeavesMoved S old) (λ _ db none. absurd none) (λ clean db did.
    let now : HasCleanDisk mid = omega (arith, second.clean, clean) in
    leaves_of S entries old mid (is (omega (arith, first.clean, now))) (same now) (listed now) known
    db did) first second

pub raisable_on : (S : Museum) (made : ℕ) (old mid new : State) → IsPart made old
    → IsFirst (metas_in made old.now.trees) → IsComplete S made 5 old.now.trees → IsSame old mid
    → IsSame mid new → Apart (mid.now.trees 0) → IsRaisable S new
raisable_on S made old mid new part first complete same then metas =
    let both = same_then old mid new same then in
    let db = old.now.trees in
    let five : IsFirst (metas_in 5 db) =
    subst (λ k. IsFirst (metas_in k db)) complete.tables first in
    let has : HasSetup S 5 db = subst (λ k. HasSetup S k db) complete.tables complete.setup in
    let there : IsFirstOf S db =
    record { meta = first_metas 5 db five; setup = has_the_setup S 5 db has } in
    record {
      part = part_same 5 old new (subst (λ k. IsPart k old) complete.tables part) both;
      meta_apart = subst (λ (k : Database). Apart (k.trees 0)) (sym then.now) metas;
      apart = subst (λ (k : Database). AreApart 5 k.trees) (sym both.now) complete.apart;
      first = subst (λ (k : Database). IsFirstOf S k.trees) (sym both.now) there;
    }

pub metas_there : (old mid : State) → IsSame old mid → Apart (old.now.trees 0)
    → Apart (mid.now.trees 0)
metas_there old mid same apart = subst (λ (k : Database). Apart (k.trees 0)) (sym same.now) apart

pub lines_there : (old mid : State) → IsSame old mid → AreApart 5 old.now.trees
    → Apart (mid.now.trees 7)
lines_there old mid same apart =
    subst (λ (k : Database). Apart (k.trees 7)) (sym same.now) apart.lines

-- the entries can't be listed
list_cause : (S : Museum) (c : Content) (fault : StoreFault) → is_of_listing fault ≡ true
    → IsPermutation first_meta c.meta → IsPermutation (rows_of_setup S) c.setup
    → ((at : ℕ) → fault ≡ Damaged at → IsFirstEarlyWrong (length S.stations) at c)
    → IsMigrateFault S c fault
list_cause S c NoMemory is meta setup why = tt
list_cause S c Store is meta setup why = tt
list_cause S c OtherSetup is meta setup why = absurd (let e : false ≡ true = is in cc)
list_cause S c (Damaged at) is meta setup why = inr (meta, setup, why at refl)
list_cause S c OtherVersion is meta setup why = absurd (let e : false ≡ true = is in cc)

pub list_left : (S : Museum) (stations : ℕ) (fault : StoreFault) (old new : State)
    → stations ≡ length S.stations → IsRaisable S old → IsSame old new → is_of_listing fault ≡ true
    → fault ≢ Store
    → ((at : ℕ) → fault ≡ Damaged at → (c : Content) → HasPart 5 old.now.trees c
    → IsFirstEarlyWrong stations at c) → IsLeft S old new fault
list_left S stations fault old new are raisable same is other why =
    left_as S 5 (omega arith) old new fault raisable.part same
    (λ c held. list_cause S c fault is (raisable.first.meta c held) (raisable.first.setup c held)
    (λ at fit. subst (λ n. IsFirstEarlyWrong n at c) are (why at fit c held)))
    other

-- ---- after a read that changed nothing

pub raised_on : (S : Museum) (old mid new : State) → IsSame old mid → IsRaised S mid new
    → IsRaised S old new
raised_on S old mid new same (inl it) = inl (record {
  was_open = same.was_open;
  ready = it.ready;
  content = it.content;
  comes = λ d h. subst (λ (k : Database). ComesMigrated S k.trees d) same.now (it.comes d h);
})
raised_on S old mid new same (inr it) =
    inr (record {
      same = same_then old mid new same it.same;
      second = λ c h. it.second c (subst (λ (k : Database). IsStored k.trees c) (sym same.now) h);
    })

pub left_on : (S : Museum) (old mid new : State) (fault : StoreFault) → IsSame old mid
    → IsLeft S mid new fault → IsLeft S old new fault
left_on S old mid new fault same it = record {
  same = same_then old mid new same it.same;
  cause = λ c h. it.cause c (subst (λ (k : Database). IsStored k.trees c) (sym same.now) h);
  unfit = λ is. subst (IsUnfit S) same.now (it.unfit is);
}

leaves_on : (S : Museum) (old mid : State) → IsSame old mid → (db : Trees) → LeavesMoved S mid db
    → LeavesMoved S old db
leaves_on S old mid same db it =
    record {
      sound = it.sound;
      content = it.content;
      comes = λ d h. subst (λ (k : Database). ComesMigrated S k.trees d) same.now (it.comes d h);
    }

pub crash_on : (S : Museum) (old mid new : State) → Survives old mid (λ _. ⊥)
    → (HasCleanDisk mid → IsSame old mid) → Survives mid new (LeavesMoved S mid)
    → Survives old new (LeavesMoved S old)
crash_on S old mid new first same second =
    survives_then old mid new _ _ (LeavesMoved S old) (λ _ db none. absurd none)
    (λ clean db is. leaves_on S old mid (same (omega (arith, second.clean, clean))) db is)
    first second

pub weaker_ok : {X E : Type 0} (P Q : Type 0) → (P → Q) → (r : Result (Result X StoreFault) E)
    → IfOk r (λ a. OnOk a P) → IfOk r (λ a. OnOk a Q)
weaker_ok P Q h (Ok (Ok x)) is = h is
weaker_ok P Q h (Ok (Err fault)) is = tt
weaker_ok P Q h (Err e) is = tt
