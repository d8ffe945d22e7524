-- Binding changes a store's rows as a register promises.
use Rattle.std.proofs.Common.{◌≡◌, ◌≢◌, ◌≤◌, ℕ, List, [], ◌∷◌, ◌++◌, map, drop, true, false, Ok}
use Rattle.std.proofs.Common.{Err, Result, IfOk, IfErr, refl, sym, ap, subst, ◌∙◌, arith}
use Rattle.std.proofs.Common.{append-nil}
use Rattle.std.specs.List.Sorted.{IsPermutation}
use Rattle.std.proofs.lemmas.List.Sorted.{IsPermutation-refl, IsPermutation-trans}
use Rattle.std.proofs.lemmas.List.Sorted.{IsPermutation-map, length_permutation}
use Rattle.nest_core.specs.Museum.{Museum}
use Rattle.nest_core.specs.SetupTexts.{setup_rows}
use Rattle.sqlite.proofs.StateLemmas.{survives_then, survives_weaker}
use Rattle.sqlite.specs.Effect.{Database}
use Rattle.sqlite.specs.Order.{Row}
use Rattle.sqlite.specs.State.{State, HasCleanDisk, Survives}
use Rattle.sqlite.specs.Tree.{Trees}
use Rattle.sqlite_catalog.specs.Listing.{IsSound}
use Rattle.register_store.specs.Registers.{is_new, is_failure, bound_by, bound_to, IsBindFault}
use Rattle.register_store.specs.StoredRows.{Content, MetaRow, AreSame, IsBoundTo, rows_of_setup}
use Rattle.register_store.specs.StoredRows.{rows_of_meta}
use Rattle.register_store.specs.declared.store_fault.StoreFault.{StoreFault}
use Rattle.register_store.specs.declared.store_fault.StoreFault.TheVariants.{Store}
use Rattle.register_sql.specs.Binding.{IsRefused, IsBoundAs, IsUnfitFor, LeavesBound, ComesBound}
use Rattle.register_sql.specs.Making.{MakesWhole, IsMadeWhole, LeavesMade, setup_from}
use Rattle.register_sql.specs.Posting.{IsWhole}
use Rattle.register_sql.specs.Profiles.{IsProfile, IsComplete}
use Rattle.register_sql.specs.Queries.{IsPart, IsSame, AreApart}
use Rattle.register_sql.specs.Rows.{HasPart, AreRows, IsStored, had, meta_cells, setup_cells}
use Rattle.register_sql.specs.Says.{IsIdentity, HasSetup, metas_in}
use Rattle.register_sql.specs.Tables.{prefix}
use Rattle.register_sql.specs.declared.identity.Identity.TheVariants as told
use Rattle.register_sql.proofs.Contents.{content_in, same_part, one_prefix}
use Rattle.register_sql.proofs.Rising.{part_same, same_then, trees_same}
use Rattle.register_sql.proofs.Profiles.{none_new, told_new, whole_meta, setup_rows_are}
use Rattle.register_sql.proofs.Profiles.{has_the_setup}

-- ---- bound

-- a database that is known to hold these rows holds them as a store of this many tables
pub part_of : (made : ℕ) → made ≤ 6 → (db : Trees) → IsSound (prefix made) db → (c : Content)
    → IsStored db c → HasPart made db c
part_of made few db sound c q =
    subst (λ k. HasPart k db c) (one_prefix q.made made q.few few db q.sound sound) q.rows

pub refused_as : (S : Museum) (made : ℕ) → made ≤ 6 → (old new : State) (fault : StoreFault)
    → IsPart made old → IsSame old new
    → ((c : Content) → HasPart made old.now.trees c → IsBindFault S c fault) → fault ≢ Store
    → IsRefused S old new fault
refused_as S made few old new fault part same cause other = record {
  same = same;
  cause = λ c held. cause c (part_of made few old.now.trees
      (subst (λ k. IsSound k old.now.trees) part.schema part.sound) c held);
  unfit = λ is. absurd (other is);
}

pub other_fault : (fault : StoreFault) → is_failure fault ≡ false → fault ≢ Store
other_fault fault other is = absurd (let e : false ≡ true = sym other ∙ ap is_failure is in cc)

pub same_all : (c : Content) → AreSame c c
same_all c = record {
  setup = IsPermutation-refl c.setup;
  meta = IsPermutation-refl c.meta;
  postings = IsPermutation-refl c.postings;
  spots = IsPermutation-refl c.spots;
  lines =
      IsPermutation-refl c.lines;
  terms = IsPermutation-refl c.terms;
}

old_stays : (S : Museum) (c : Content) → is_new c.meta ≡ false → AreSame (bound_to S c) c
old_stays S c old = subst (λ b. AreSame (bound_by b S c) c) (sym old) (same_all c)

old_meta : (depth : ℕ) (ms : List MetaRow) → IsPermutation (rows_of_meta depth) ms
    → is_new ms ≡ false
old_meta depth [] h = absurd (omega (arith, length_permutation _ _ h))
old_meta depth (m ∷ ms) h = refl

pub sound_in : (made : ℕ) (s : State) → IsPart made s → IsSound (prefix made) s.now.trees
sound_in made s part = subst (λ k. IsSound k s.now.trees) part.schema part.sound

-- an old store of this version, with this setup
complete_old : (S : Museum) (depth : ℕ) (old new : State) (rows : List Row) → IsPart 6 old
    → IsPermutation (metas_in 6 old.now.trees) rows → IsIdentity rows (told.Bound depth)
    → HasSetup S 6 old.now.trees → AreApart 6 old.now.trees → IsSame old new
    → IsBoundAs S depth old new
complete_old S depth old new rows part read is has apart same =
    let db = old.now.trees in
    let sound = sound_in 6 old part in
    let back : new.now ≡ old.now = same.now in
    let whole : IsWhole old.now = record {
      schema = part.schema;
      sound = part.sound;
      lines = apart.lines;
      terms = apart.terms;
    } in
    let on : (d : Content) → AreRows new.now.trees d → AreRows db d =
    λ d h. subst (λ (k : Database). AreRows k.trees d) back h in
    let metas : (d : Content) → AreRows db d → IsPermutation (rows_of_meta depth) d.meta =
    whole_meta 6 db rows depth read is in
    let first = content_in 6 (omega arith) db sound apart.setup.ints apart.postings.ints in
    record {
      was_open = same.was_open;
      ready = record {
        is_open = same.is_open;
        settled = back ∙ part.settled ∙ sym same.committed;
        whole = subst IsWhole (sym back) whole;
      };
      content = (first.0, subst (λ (k : Database). AreRows k.trees first.0) (sym back) first.1);
      comes = λ d h. (
        d,
        record { made = 6; few = omega arith; sound = sound; rows = on d h },
        old_stays S d (old_meta depth d.meta (metas d (on d h))),
      );
      bound = λ d h. record {
        setup = has_the_setup S 6 db has d (on d h);
        meta = metas d (on d h);
        limit = is.0;
      };
    }

pub bound_old : (S : Museum) (made depth : ℕ) (old mid new : State) (rows : List Row)
    → IsProfile old made rows → IsIdentity rows (told.Bound depth) → IsSame old mid
    → IsComplete S made 6 mid.now.trees → IsSame mid new → IsBoundAs S depth old new
bound_old S made depth old mid new rows profile is first complete second =
    let there : IsComplete S made 6 old.now.trees =
    subst (IsComplete S made 6) (trees_same old mid first) complete in
    complete_old S depth old new rows (subst (λ k. IsPart k old) there.tables profile.part)
    (subst (λ k. IsPermutation (metas_in k old.now.trees) rows) there.tables profile.read) is
    (subst (λ k. HasSetup S k old.now.trees) there.tables there.setup) there.apart
    (same_then old mid new first second)

-- the rows of a new store after binding
made_rows : (S : Museum) (made : ℕ) (db next : Trees) (c : Content) → had 1 made (db 0) ≡ []
    → HasPart made db c → MakesWhole made (setup_from 1 (setup_rows S)) (rows_of_meta 12) db next
    → AreRows next (record c { setup = rows_of_setup S; meta = rows_of_meta 12 })
made_rows S made db next c none held makes = record {
  meta = subst (λ l. IsPermutation l (map (drop 1) (next 0)))
      (append-nil (map meta_cells (rows_of_meta 12)))
      (subst (λ l. IsPermutation (map meta_cells (rows_of_meta 12) ++ map (drop 1) l)
      (map (drop 1) (next 0))) none makes.meta);
  setup = IsPermutation-trans _ _ _ (IsPermutation-map setup_cells _ _ (setup_rows_are S))
      makes.setup_is;
  postings = rw makes.postings held.postings;
  spots = rw makes.spots held.spots;
  lines = rw makes.lines held.lines;
  terms = rw makes.terms held.terms;
}

new_takes : (S : Museum) (c : Content) → c.meta ≡ []
    → bound_to S c ≡ record c { setup = rows_of_setup S; meta = rows_of_meta 12 }
new_takes S c none = ap (λ ms. bound_by (is_new ms) S c) none

-- binding a store without rows about itself
module _ (S : Museum) (made : ℕ) (few : made ≤ 6) (old : State) (part : IsPart made old)
    (none : had 1 made (old.now.trees 0) ≡ []) (apart : AreApart made old.now.trees)
    (next : Trees) (makes : MakesWhole made (setup_from 1 (setup_rows S)) (rows_of_meta 12)
    old.now.trees next) where
  first : (c : Content) × HasPart made old.now.trees c
  first = content_in made few old.now.trees (sound_in made old part) apart.setup.ints
      apart.postings.ints

  made_content : (d : Content) × AreRows next d
  made_content = (
    record first.0 { setup = rows_of_setup S; meta = rows_of_meta 12 },
    made_rows S made old.now.trees next first.0 none first.1 makes,
  )

  empty_meta : first.0.meta ≡ []
  empty_meta = none_new first.0.meta
      (subst (λ l. IsPermutation (map meta_cells first.0.meta) (map (drop 1) l)) none first.1.meta)

  made_comes : (d : Content) → AreRows next d → ComesBound S old.now.trees d
  unfolding made_content
  made_comes d h = (
    first.0,
    record { made = made; few = few; sound = sound_in made old part; rows = first.1 },
    subst (λ c. AreSame c d) (sym (new_takes S first.0 empty_meta))
        (same_part 6 next made_content.0 d made_content.1 h),
  )

  made_bound : (d : Content) → AreRows next d → IsBoundTo S 12 d
  unfolding made_content
  made_bound d h =
      let same = same_part 6 next made_content.0 d made_content.1 h in
      record { setup = same.setup; meta = same.meta; limit = refl }

pub bound_new : (S : Museum) (made : ℕ) → made ≤ 6 → (old new : State) → IsPart made old
    → had 1 made (old.now.trees 0) ≡ [] → AreApart made old.now.trees
    → IsMadeWhole made (setup_from 1 (setup_rows S)) (rows_of_meta 12) old new
    → IsBoundAs S 12 old new
bound_new S made few old new part none apart is =
    let next = new.now.trees in
    record {
      was_open = part.is_open;
      ready = record {
        is_open = is.is_open;
        settled = sym is.committed;
        whole = record {
          schema = is.schema;
          sound = is.sound;
          lines = rw is.rows.lines apart.lines;
          terms = rw is.rows.terms apart.terms;
        };
      };
      content = made_content S made few old part none apart next is.rows;
      comes = made_comes S made few old part none apart next is.rows;
      bound = made_bound S made few old part none apart next is.rows;
    }

pub leaves_new : (S : Museum) (made : ℕ) → made ≤ 6 → (old : State) → IsPart made old
    → had 1 made (old.now.trees 0) ≡ [] → AreApart made old.now.trees
    → (db : Trees) → LeavesMade made (setup_from 1 (setup_rows S)) (rows_of_meta 12) old db
    → LeavesBound S old db
leaves_new S made few old part none apart db is = record {
  sound = is.sound;
  content = made_content S made few old part none apart db is.rows;
  comes = made_comes S made few old part none apart db is.rows;
}

-- ---- after a read that changed nothing

pub bound_on : (S : Museum) (depth : ℕ) (old mid new : State) → IsSame old mid
    → IsBoundAs S depth mid new → IsBoundAs S depth old new
bound_on S depth old mid new same is = record {
  was_open = same.was_open;
  ready = is.ready;
  content = is.content;
  comes = λ d h. subst (λ (k : Database). ComesBound S k.trees d) same.now (is.comes d h);
  bound = is.bound;
}

pub refused_on : (S : Museum) (old mid new : State) (fault : StoreFault) → IsSame old mid
    → IsRefused S mid new fault → IsRefused S old new fault
refused_on S old mid new fault same is = record {
  same = record {
    was_open = same.was_open;
    is_open = is.same.is_open;
    now = is.same.now ∙ same.now;
    committed = is.same.committed ∙ same.committed;
  };
  cause = λ c h. is.cause c (subst (λ (k : Database). IsStored k.trees c) (sym same.now) h);
  unfit = λ store. subst (IsUnfitFor S) same.now (is.unfit store);
}

pub leaves_on : (S : Museum) (old mid : State) → IsSame old mid → (db : Trees)
    → LeavesBound S mid db → LeavesBound S old db
leaves_on S old mid same db is =
    record {
      sound = is.sound;
      content = is.content;
      comes = λ d h. subst (λ (k : Database). ComesBound S k.trees d) same.now (is.comes d h);
    }

pub nothing_left : (old new : State) (P : Trees → Type 0) → Survives old new (λ _. ⊥)
    → Survives old new P
nothing_left old new P h = survives_weaker old new _ P (λ _ db none. absurd none) h

-- ---- the steps of binding, one after another

pub part_on : (made : ℕ) (old mid : State) (P : Trees → Type 0)
    → (HasCleanDisk old → IsPart made old) → Survives old mid P
    → (HasCleanDisk mid → IsSame old mid) → HasCleanDisk mid → IsPart made mid
part_on made old mid P part survives same clean =
    part_same made old mid (part (omega (arith, survives.clean, clean))) (same clean)

pub apart_there : (made : ℕ) (old mid : State) → IsSame old mid → AreApart made old.now.trees
    → AreApart made mid.now.trees
apart_there made old mid same apart =
    subst (λ (k : Database). AreApart made k.trees) (sym same.now) apart

-- a new store is made after a read that changed nothing
module _ (S : Museum) (made : ℕ) (few : made ≤ 6) (old mid new : State) (texts : List (List ℕ))
    (are : texts ≡ setup_rows S)
    (part : HasCleanDisk old → IsPart made old) (none : HasCleanDisk old
    → had 1 made (old.now.trees 0) ≡ []) (first : Survives old mid (λ _. ⊥))
    (same : HasCleanDisk mid → IsSame old mid) (apart : HasCleanDisk mid
    → AreApart made old.now.trees) where
  early : HasCleanDisk mid → HasCleanDisk old
  early clean = omega (arith, first.clean, clean)

  none_there : HasCleanDisk mid → had 1 made (mid.now.trees 0) ≡ []
  none_there clean = subst (λ (k : Database). had 1 made (k.trees 0) ≡ []) (sym (same clean).now)
      (none (early clean))

  pub new_survives : Survives mid new (LeavesMade made (setup_from 1 texts) (rows_of_meta 12) mid)
      → Survives old new (LeavesBound S old)
  new_survives second =
      survives_then old mid new _ _ (LeavesBound S old) (λ _ db none. absurd none) (λ clean db is.
      let now : HasCleanDisk mid = omega (arith, second.clean, clean) in
      leaves_on S old mid (same now) db
      (leaves_new S made few mid (part_same made old mid (part (early now)) (same now))
      (none_there now) (apart_there made old mid (same now) (apart now)) db
      (subst (λ ts. LeavesMade made (setup_from 1 ts) (rows_of_meta 12) mid db) are is)))
      first second

  pub new_is_bound : HasCleanDisk mid
      → IsMadeWhole made (setup_from 1 texts) (rows_of_meta 12) mid new → IsBoundAs S 12 old new
  new_is_bound now is =
      bound_on S 12 old mid new (same now)
      (bound_new S made few mid new (part_same made old mid (part (early now)) (same now))
      (none_there now) (apart_there made old mid (same now) (apart now))
      (subst (λ ts. IsMadeWhole made (setup_from 1 ts) (rows_of_meta 12) mid new) are is))

-- ---- the rows about the store decide

pub new_there : (made : ℕ) (old mid : State) → IsSame old mid → (rows : List Row)
    → IsPermutation (metas_in made old.now.trees) rows → IsIdentity rows told.New
    → had 1 made (mid.now.trees 0) ≡ []
new_there made old mid same rows read is =
    ap (λ db. had 1 made (db 0)) (trees_same old mid same)
    ∙ told_new made old.now.trees rows read is

-- an answer's clauses, weakened
pub weaker : {X E : Type 0} (P Q : X → Type 0) → ((x : X) → P x → Q x)
    → (r : Result (Result X StoreFault) E) → IfOk r (λ a. IfOk a P) → IfOk r (λ a. IfOk a Q)
weaker P Q h (Ok (Ok x)) is = h x is
weaker P Q h (Ok (Err fault)) is = tt
weaker P Q h (Err e) is = tt

pub weaker_err : {X E : Type 0} (P Q : StoreFault → Type 0)
    → ((fault : StoreFault) → P fault → Q fault) → (r : Result (Result X StoreFault) E)
    → IfOk r (λ a. IfErr a P) → IfOk r (λ a. IfErr a Q)
weaker_err P Q h (Ok (Ok x)) is = tt
weaker_err P Q h (Ok (Err fault)) is = h fault is
weaker_err P Q h (Err e) is = tt

pub crash_on : (S : Museum) (old mid new : State) → Survives old mid (λ _. ⊥)
    → (HasCleanDisk mid → IsSame old mid) → Survives mid new (LeavesBound S mid)
    → Survives old new (LeavesBound S old)
crash_on S old mid new first same second =
    survives_then old mid new _ _ (LeavesBound S old) (λ _ db none. absurd none)
    (λ clean db is. leaves_on S old mid (same (omega (arith, second.clean, clean))) db is)
    first second
