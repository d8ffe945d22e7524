-- A store that has a lawful list can be opened.
use Rattle.std.proofs.Common.{◌≡◌, ◌≤◌, ◌⊎◌, inl, inr, Bool, ℕ, true, false, List, [], ◌∷◌, ◌++◌}
use Rattle.std.proofs.Common.{length, refl, sym, subst, ap, ◌∙◌, arith}
use Rattle.std.proofs.lemmas.Bool.{false≢true}
use Rattle.std.specs.List.{AllByRecursion}
use Rattle.std.specs.List.Sorted.{IsPermutation}
use Rattle.std.proofs.lemmas.List.Elements.{All-from_recursion}
use Rattle.std.proofs.lemmas.List.Sorted.{IsPermutation-sym, IsPermutation-trans}
use Rattle.std.proofs.lemmas.List.Sorted.{length_permutation, list_any-IsPermutation}
use Rattle.nest_core.specs.declared.growth.Growth.{Growth}
use Rattle.nest_core.specs.Museum.{Museum}
use Rattle.posting_core.specs.declared.entry.Entry.{Entry}
use Rattle.posting_core.specs.declared.message.Message.{Message}
use Rattle.posting_core.specs.declared.entry.Changes.{Changes}
use Rattle.posting_core.specs.declared.verdict.Verdict.{Verdict}
use Rattle.posting_core.specs.Book.{Book, changes_of}
use Rattle.posting_core.specs.Growing.{HasGrown}
use Rattle.posting_core.specs.Lawful.{Follows, IsLawful}
use Rattle.register_store.specs.declared.store_fault.StoreFault.{StoreFault}
use Rattle.register_store.specs.declared.store_fault.StoreFault.TheVariants.{NoMemory, Store}
use Rattle.register_store.specs.declared.store_fault.StoreFault.TheVariants.{OtherSetup, Damaged}
use Rattle.register_store.specs.declared.store_fault.StoreFault.TheVariants.{OtherVersion}
use Rattle.register_store.specs.StoredRows.{Content, AreSame, MetaRow, HasRows, IsStoreOf}
use Rattle.register_store.specs.StoredRows.{rows_of_meta}
use Rattle.register_store.specs.Registers.{is_failure, is_new, bound_by, bound_to}
use Rattle.register_store.specs.Registers.{has_other_version, IsOfStation}
use Rattle.register_store.specs.Holdings.{Holding, Comes, IsPosted}
use Rattle.register_store.proofs.HoldingLemmas.{has_more}
use Rattle.register_store.proofs.OneList.{one_list}
use Rattle.register_store.proofs.WholeLists.{never_wrong}
use Rattle.station_core.specs.Runs.{Arrived}
use Rattle.hub_core.proofs.StoreLemmas.{one_depth, entry_with, left_in, either_in, posted_book}
use Rattle.hub_core.proofs.StoreLemmas.{stored_book}
use Rattle.hub_core.specs.Points.{arrival_of, entry_of, post}
use Rattle.hub_core.specs.Posting.{Posts, LeavesUnposted}
use Rattle.hub_core.specs.StandsFor.{HasStore, HasSomeStore, HasEither}
use Rattle.hub_core.specs.Openings.{IsFirstUnlawful, HasWrongRow, HasTooFew, HasWrongEntry}
use Rattle.hub_core.specs.Openings.{HasOtherRows, IsOpenFault, OpensAgain, IsNotOpened}

-- more entries come after the newest growth, too
pub still_grown : (gs : List Growth) (m n : ℕ) → m ≤ n → HasGrown gs m → HasGrown gs n
still_grown [] m n more grown = tt
still_grown (g ∷ gs) m n more grown = omega (arith, more, grown)

pub grown_on : (L L' : Book) → L'.museum ≡ L.museum → length L.posted ≤ length L'.posted
    → HasGrown L.museum.growths (length L.posted) → HasGrown L'.museum.growths (length L'.posted)
grown_on L L' same more grown =
    subst (λ (S : Museum). HasGrown S.growths (length L'.posted)) (sym same)
    (still_grown L.museum.growths (length L.posted) (length L'.posted) more grown)

-- the entries of a lawful list are of its stations
of_stations : (S : Museum) (depth : ℕ) (P : List Entry) → IsLawful S depth P
    → AllByRecursion (IsOfStation (length S.stations)) P
of_stations S depth [] law = tt
of_stations S depth (e ∷ P) law = let next = law.0.next in (
  record { known = law.0.known; first = omega (arith, next); few = law.0.few },
  of_stations S depth P law.1,
)

follows_in : (S : Museum) (depth : ℕ) (before after : List Entry) (e : Entry)
    → IsLawful S depth (after ++ e ∷ before) → Follows S depth before e
follows_in S depth before [] e law = law.0
follows_in S depth before (f ∷ after) e law = follows_in S depth before after e law.1

module _ (S : Museum) (depth : ℕ) (P : List Entry) (c : Content) (law : IsLawful S depth P)
    (store : IsStoreOf S depth P c) where
  is_old : is_new c.meta ≡ false
  is_old = by c.meta store.bound.meta
    where
      by : (meta : List MetaRow) → IsPermutation (rows_of_meta depth) meta → is_new meta ≡ false
      by [] same = absurd (omega (arith, length_permutation (rows_of_meta depth) [] same))
      by (row ∷ rows) same = refl

  -- a bound store stays as it is
  stays : bound_to S c ≡ c
  stays = ap (λ b. bound_by b S c) is_old

  no_other_version : has_other_version c.meta ≡ true → ⊥
  no_other_version h =
      let none : has_other_version (rows_of_meta depth) ≡ false = refl in
      let same : has_other_version (rows_of_meta depth) ≡ has_other_version c.meta =
      list_any-IsPermutation _ (rows_of_meta depth) c.meta store.bound.meta in
      absurd (cc)

  no_wrong_row : (at : ℕ) → HasWrongRow S c at → ⊥
  no_wrong_row at h = never_wrong (length S.stations) at P c store.list
      (All-from_recursion (IsOfStation (length S.stations)) P (of_stations S depth P law)) h.2

  no_wrong_entry : (at : ℕ) → HasWrongEntry S c at → ⊥
  no_wrong_entry at h =
      let list : h.entries ≡ P = one_list h.entries P c h.list store.list in
      let limit : h.depth ≡ depth = one_depth h.depth depth
      (IsPermutation-trans _ _ _ h.bound.meta (IsPermutation-sym _ _ store.bound.meta)) in
      let wrong : IsFirstUnlawful S depth P at =
      subst (λ d. IsFirstUnlawful S d P at) limit
      (subst (λ (O : List Entry). IsFirstUnlawful S h.depth O at) list h.wrong) in
      wrong.wrong (follows_in S depth wrong.before wrong.after wrong.entry
      (subst (IsLawful S depth) wrong.all law))

  no_too_few : (at : ℕ) → HasGrown S.growths (length P) → HasTooFew S c at → ⊥
  no_too_few at grown h =
      let list : h.entries ≡ P = one_list h.entries P c h.list store.list in
      h.few (subst (λ (O : List Entry). HasGrown S.growths (length O)) (sym list) grown)

  no_other_rows : (at : ℕ) → HasOtherRows S c at → ⊥
  no_other_rows at h =
      let list : h.entries ≡ P = one_list h.entries P c h.list store.list in
      h.wrong (subst (λ (O : List Entry). HasRows S O c) (sym list) store.rows)

-- the store of a lawful list has none of the causes
pub opens : (S : Museum) (depth : ℕ) (P : List Entry) (c : Content) (fault : StoreFault)
    → IsLawful S depth P → HasGrown S.growths (length P) → IsStoreOf S depth P c
    → IsOpenFault S c fault → is_failure fault ≡ true
opens S depth P c NoMemory law grown store h = refl
opens S depth P c Store law grown store h = refl
opens S depth P c OtherVersion law grown store h =
    absurd (no_other_version S depth P c law store h)
opens S depth P c OtherSetup law grown store h = absurd (h.1 store.bound.setup)
opens S depth P c (Damaged at) law grown store (inl h) =
    absurd (h.3 (depth, store.bound.limit, store.bound.meta))
opens S depth P c (Damaged at) law grown store (inr (inl h)) =
    absurd (no_wrong_row S depth P c law store at
    (subst (λ (d : Content). HasWrongRow S d at) (stays S depth P c law store) h))
opens S depth P c (Damaged at) law grown store (inr (inr (inl h))) =
    absurd (no_too_few S depth P c law store at grown
    (subst (λ (d : Content). HasTooFew S d at) (stays S depth P c law store) h))
opens S depth P c (Damaged at) law grown store (inr (inr (inr (inl h)))) =
    absurd (no_wrong_entry S depth P c law store at
    (subst (λ (d : Content). HasWrongEntry S d at) (stays S depth P c law store) h))
opens S depth P c (Damaged at) law grown store (inr (inr (inr (inr h)))) =
    absurd (no_other_rows S depth P c law store at
    (subst (λ (d : Content). HasOtherRows S d at) (stays S depth P c law store) h))

module _ (store : Holding) where
  -- a store with the book's list
  pub some_of_store : (book : Book) → IsLawful book.museum book.depth book.posted
      → HasStore store book → HasSomeStore store book
  some_of_store book law has = has_more store _ (λ c. (P : List Entry)
      × (length book.posted ≤ length P) × IsLawful book.museum book.depth P
      × IsStoreOf book.museum book.depth P c)
      (λ c is. (book.posted, omega arith, law, is)) has

  -- a store with a ledger's list, or with that list and one entry that may follow
  some_of_either : (L L' : Book) (next : Arrived Message) → IsLawful L.museum L.depth L.posted
      → Follows L.museum L.depth L.posted (entry_of L.museum L.depth L.posted next)
      → L' ≡ L → HasEither store L.museum L.depth L.posted next → HasSomeStore store L'
  some_of_either L L' next law follows same either =
      subst (λ (b : Book). HasSomeStore store b) (sym same)
      (has_more store _ (λ c. (P : List Entry) × (length L.posted ≤ length P)
      × IsLawful L.museum L.depth P × IsStoreOf L.museum L.depth P c) (λ c has. elim has [
        | inl is ↦ (L.posted, omega arith, law, is)
        | inr is ↦ (post L.museum L.depth L.posted next, omega arith, (follows, law), is)
      ]) either)

  -- a store with a lawful list that is as long opens again
  pub some_opens : (book : Book) → HasGrown book.museum.growths (length book.posted)
      → HasSomeStore store book → OpensAgain store book.museum
  some_opens book grown has =
      has_more store _ (λ c. (fault : StoreFault) → IsOpenFault book.museum c fault
      → is_failure fault ≡ true) (λ c some fault h. opens book.museum book.depth some.0 c fault
      some.2 (still_grown book.museum.growths (length book.posted) (length some.0) some.1 grown)
      some.3 h) has

-- a message that isn't posted leaves a store with a lawful list
pub unposted : (old new : Holding) (L L' : Book) (next : Arrived Message)
    → IsLawful L.museum L.depth L.posted
    → Follows L.museum L.depth L.posted (entry_of L.museum L.depth L.posted next)
    → L' ≡ L → (HasStore old L → HasEither new L.museum L.depth L.posted next)
    → LeavesUnposted old new L L' next
unposted old new L L' next law follows same left =
    record {
      ledger = same;
      left = left;
      lawful = λ had. some_of_either new L L' next law follows
          same (left had);
    }

abbrev with_verdict : Entry → Verdict → Entry
with_verdict e v = record { station = e.station; n = e.n; message = e.message; verdict = v }

-- the store after an entry that may follow
module _ (old new : Holding) (L L' : Book) (e : Entry) (changes : Changes)
    (lawful : IsLawful L.museum L.depth L.posted) (follows : Follows L.museum L.depth L.posted e)
    (planned : changes ≡ changes_of L e.message) where
  -- The entry has the verdict of its changes, which is that of the rules.
  own : e ≡ entry_with (arrival_of e) changes
  own = ap (with_verdict e) (follows.judged ∙ ap (λ (x : Changes). x.verdict) (sym planned))

  next : Follows L.museum L.depth L.posted (entry_of L.museum L.depth L.posted (arrival_of e))
  next = subst (λ (x : Entry). Follows L.museum L.depth L.posted x)
      (ap (with_verdict e) follows.judged) follows

  posting : Comes old new (IsPosted e changes)
      → Comes old new (IsPosted (entry_with (arrival_of e) changes) changes)
  posting comes = subst (λ (x : Entry). Comes old new (IsPosted x changes)) own comes

  -- the register failed
  pub unstored : Comes old new (λ c d. AreSame c d ⊎ IsPosted e changes c d)
      → LeavesUnposted old new L L (arrival_of e)
  unstored comes = unposted old new L L (arrival_of e) lawful next refl
      (λ had. left_in old new L (arrival_of e) changes lawful next planned had
      (subst (λ (x : Entry). Comes old new (λ c d. AreSame c d ⊎ IsPosted x changes c d)) own
      comes))

  -- the ledger failed
  pub unapplied : L' ≡ L → Comes old new (IsPosted e changes)
      → LeavesUnposted old new L L' (arrival_of e)
  unapplied same comes = unposted old new L L' (arrival_of e) lawful next same
      (λ had. either_in old new L (arrival_of e) changes lawful next planned had (posting comes))

  -- neither failed
  pub posts : L' ≡ record L { posted = e ∷ L.posted } → Comes old new (IsPosted e changes)
      → Posts old new L L' (arrival_of e)
  posts is comes =
      let is' : L' ≡ record L { posted = entry_with (arrival_of e) changes ∷ L.posted } =
      is ∙ ap (λ (x : Entry). record L { posted = x ∷ L.posted }) own in
      record {
        ledger = posted_book L (arrival_of e) changes planned L' is';
        stored = λ had. stored_book old new L (arrival_of e) changes lawful next planned had L' is'
            (posting comes);
      }

-- opening the store fails for no other reason
pub fails_so : (old new : Holding) (S T : Museum) (fault : StoreFault) → S ≡ T → OpensAgain old T
    → Comes old new (IsNotOpened S fault) → new.is_quiet → is_failure fault ≡ true
fails_so old new S T fault same again comes quiet = by (is_failure fault) refl
  where
    by : (b : Bool) → is_failure fault ≡ b → is_failure fault ≡ true
    by true on = on
    by false off =
        absurd (again.some (comes.quiet quiet) (comes.some quiet (λ d held.
        let (c, was, cause) = comes.from quiet d held in
        let on = again.each (comes.quiet quiet) c was fault
        (subst (λ (M : Museum). IsOpenFault M c fault) same cause.0) in
        absurd (false≢true (sym off ∙ on)))))
