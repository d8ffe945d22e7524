-- The opening of a store, call by call.
use Rattle.std.proofs.Common.{◌≡◌, ℕ, List, length, Bool, Result, Err, true, false, inl, inr, subst}
use Rattle.std.proofs.Common.{sym, refl}
use Rattle.std.specs.Prelude.{All, reverse}
use Rattle.std.specs.Result.{IsErrAnd}
use Rattle.std.proofs.lemmas.List.{length-reverse}
use Rattle.std.proofs.lemmas.Result.{err_from_is_err_and}
use Rattle.nest_core.specs.Museum.{Museum}
use Rattle.posting_core.specs.declared.entry.Entry.{Entry}
use Rattle.posting_core.specs.Book.{Book}
use Rattle.posting_core.specs.Growing.{HasGrown}
use Rattle.posting_core.specs.Lawful.{IsLawful}
use Rattle.station_core.specs.declared.Start.{Start}
use Rattle.register_store.specs.declared.store_fault.StoreFault.{StoreFault}
use Rattle.register_store.specs.declared.store_fault.StoreFault.TheVariants.{NoMemory, Store}
use Rattle.register_store.specs.declared.store_fault.StoreFault.TheVariants.{OtherSetup, Damaged}
use Rattle.register_store.specs.declared.store_fault.StoreFault.TheVariants.{OtherVersion}
use Rattle.register_store.specs.StoredRows.{Content, AreSame, IsBoundTo, HasList, HasRows}
use Rattle.register_store.specs.Registers.{CountsRefusal, is_new, bound_by, bound_to, IsBindFault}
use Rattle.register_store.specs.Registers.{IsOfStation, IsListFault}
use Rattle.register_store.specs.Holdings.{Holding, Each, Has, Comes, IsBound, IsNotBound}
use Rattle.register_store.proofs.Kept.{same_back, same_then}
use Rattle.register_store.proofs.HoldingLemmas.{comes_has, comes_on, comes_so, same_bound}
use Rattle.register_store.proofs.HoldingLemmas.{same_list, same_rows_held, same_wrong}
use Rattle.hub_core.specs.Openings.{IsJudged, IsJudgeFault, IsOpenFault, IsNotOpened}
use Rattle.hub_core.specs.Openings.{IsRestoreFault, IsRowsFault}
use Rattle.hub_core.specs.StandsFor.{HasStore}

comes_more : (old new : Holding) (F G : Content → Content → Type 0)
    → ((c d : Content) → F c d → G c d) → Comes old new F → Comes old new G
comes_more old new F G more comes = record {
  quiet = comes.quiet;
  some = comes.some;
  from = λ quiet d held. let (c, was, step) = comes.from quiet d held in (c, was, more c d step);
}

-- a cause for which a store isn't bound is one for which it isn't opened
bind_fault : (S : Museum) (c : Content) (fault : StoreFault) → IsBindFault S c fault
    → IsOpenFault S c fault
bind_fault S c NoMemory h = tt
bind_fault S c Store h = tt
bind_fault S c OtherSetup h = h
bind_fault S c (Damaged at) h = inl h
bind_fault S c OtherVersion h = h

pub not_bound : (old new : Holding) (S : Museum) (fault : StoreFault)
    → Comes old new (IsNotBound S fault) → Comes old new (IsNotOpened S fault)
not_bound old new S fault comes =
    comes_more old new (IsNotBound S fault) (IsNotOpened S fault) (λ c d step. (
      bind_fault S c fault step.0,
      elim step.1 [
        | inl same ↦ inl same
        | inr bound ↦ inr bound.1
      ],
    )) comes

-- a store that is bound and has the list
pub record IsListed (store : Holding) (S : Museum) (depth : ℕ) (P : List Entry) : Type 0 where
  pub bound : Has store (IsBoundTo S depth)
  pub list : Each store (HasList P)

bound_still : (old new : Holding) (S : Museum) (depth : ℕ) → Comes old new AreSame
    → Has old (IsBoundTo S depth) → Has new (IsBoundTo S depth)
bound_still old new S depth still has =
    comes_has old new AreSame (IsBoundTo S depth) (IsBoundTo S depth)
    (λ c d is step. same_bound c d step S depth is) still has

pub is_listed : (old new : Holding) (S : Museum) (depth : ℕ) (P : List Entry)
    → Has old (IsBoundTo S depth) → Comes old new AreSame → Each new (HasList P)
    → IsListed new S depth P
is_listed old new S depth P bound still list =
    record { bound = bound_still old new S depth still bound; list = list }

pub listed_still : (old new : Holding) (S : Museum) (depth : ℕ) (P : List Entry)
    → IsListed old S depth P → Comes old new AreSame → IsListed new S depth P
listed_still old new S depth P listed still = record {
  bound = bound_still old new S depth still listed.bound;
  list = λ quiet d held. let (c, was, step) = still.from quiet d held in
      same_list c d step P (listed.list (still.quiet quiet) c was);
}

pub still_on : (a b c : Holding) → Comes a b AreSame → Comes b c AreSame → Comes a c AreSame
still_on a b c first next = comes_on a b c AreSame AreSame AreSame
    (λ x y z step last. same_then x y z step last) first next

-- a wrong row
list_fault : (S : Museum) (depth stations : ℕ) (c : Content) (fault : StoreFault)
    → stations ≡ length S.stations → IsBoundTo S depth c → IsListFault stations c fault
    → IsRestoreFault S c fault
list_fault S depth stations c NoMemory is bound h = tt
list_fault S depth stations c Store is bound h = tt
list_fault S depth stations c OtherSetup is bound h = h
list_fault S depth stations c (Damaged at) is bound h =
    inl (depth, bound, subst (λ n. IsListFault n c (Damaged at)) is h)
list_fault S depth stations c OtherVersion is bound h = h

pub not_listed : (old new : Holding) (S : Museum) (depth stations : ℕ) (fault : StoreFault)
    → stations ≡ length S.stations → Has old (IsBoundTo S depth) → Comes old new AreSame
    → Each new (λ c. IsListFault stations c fault)
    → Each new (λ c. IsRestoreFault S c fault)
not_listed old new S depth stations fault is bound still each =
    λ quiet c held. list_fault S depth stations c fault is
    ((bound_still old new S depth still bound).each quiet c held) (each quiet c held)

-- the entries in the other order
pub back_grown : (S : Museum) (xs : List Entry) → HasGrown S.growths (length xs)
    → HasGrown S.growths (length (reverse xs))
back_grown S xs grown = subst (λ n. HasGrown S.growths n) (sym (length-reverse xs)) grown

-- too few entries
pub not_enough : (store : Holding) (S : Museum) (depth : ℕ) (P : List Entry)
    → IsListed store S depth P → All (IsOfStation (length S.stations)) P
    → (HasGrown S.growths (length P) → ⊥) → Each store (λ c. IsRestoreFault S c (Damaged 0))
not_enough store S depth P listed of few =
    λ quiet c held. inr (inl (record {
      zero = refl;
      depth = depth;
      bound = listed.bound.each quiet c held;
      entries = P;
      list = listed.list quiet c held;
      stationed = of;
      few = few;
    }))

-- a wrong entry
judge_fault : (S : Museum) (depth : ℕ) (c : Content) (P : List Entry) (fault : StoreFault)
    → IsBoundTo S depth c → HasList P c → All (IsOfStation (length S.stations)) P
    → HasGrown S.growths (length P) → IsJudgeFault S depth P fault → IsRestoreFault S c fault
judge_fault S depth c P NoMemory bound list of grown h = tt
judge_fault S depth c P Store bound list of grown h = absurd h
judge_fault S depth c P OtherVersion bound list of grown h = h
judge_fault S depth c P OtherSetup bound list of grown h = h
judge_fault S depth c P (Damaged at) bound list of grown h =
    inr (inr (inl (record {
      depth = depth;
      bound = bound;
      entries = P;
      list = list;
      stationed = of;
      grown = grown;
      wrong = h;
    })))

pub not_judged : (store : Holding) (S : Museum) (depth : ℕ) (P : List Entry) (fault : StoreFault)
    → IsListed store S depth P → All (IsOfStation (length S.stations)) P
    → HasGrown S.growths (length P) → IsJudgeFault S depth P fault
    → Each store (λ c. IsRestoreFault S c fault)
not_judged store S depth P fault listed of grown wrong =
    λ quiet c held. judge_fault S depth c P fault (listed.bound.each quiet c held)
    (listed.list quiet c held) of grown wrong

-- facts about a ledger with the list
module _ (L : Book) (P : List Entry) (starts : List Start) (L' : Book)
    (judged : IsJudged L P starts L') where
  rows_fault : (c : Content) (fault : StoreFault) → HasGrown L.museum.growths (length P)
      → IsBoundTo L.museum L.depth c → HasList P c
      → IsRowsFault L'.museum L'.posted c fault → IsRestoreFault L.museum c fault
  rows_fault c NoMemory grown bound list h = tt
  rows_fault c Store grown bound list h = tt
  rows_fault c OtherVersion grown bound list h = h
  rows_fault c OtherSetup grown bound list h = h
  rows_fault c (Damaged at) grown bound list h = inr (inr (inr (record {
    zero = h.0;
    depth = L.depth;
    bound = bound;
    entries = P;
    list = list;
    lawful = lawful;
    grown = grown;
    wrong = λ has. h.1 (subst (λ (S : Museum). HasRows S L'.posted c) (sym judged.museum)
        (subst (λ (Q : List Entry). HasRows L.museum Q c) (sym judged.posted) has));
  })))
    where
      lawful : IsLawful L.museum L.depth P
      lawful = subst (λ (S : Museum). IsLawful S L.depth P) judged.museum
          (subst (λ n. IsLawful L'.museum n P) judged.depth
          (subst (λ (Q : List Entry). IsLawful L'.museum L'.depth Q) judged.posted judged.lawful))

  pub not_agreed : (store : Holding) (fault : StoreFault) → IsListed store L.museum L.depth P
      → HasGrown L.museum.growths (length P)
      → Each store (λ c. IsRowsFault L'.museum L'.posted c fault)
      → Each store (λ c. IsRestoreFault L.museum c fault)
  not_agreed store fault listed grown wrong =
      λ quiet c held. rows_fault c fault grown (listed.bound.each quiet c held)
      (listed.list quiet c held) (wrong quiet c held)

  pub judged_grown : HasGrown L.museum.growths (length P)
      → HasGrown L'.museum.growths (length L'.posted)
  judged_grown grown = subst (λ (S : Museum). HasGrown S.growths (length L'.posted))
      (sym judged.museum) (subst (λ (Q : List Entry). HasGrown L.museum.growths (length Q))
      (sym judged.posted) grown)

  pub restored_store : (store : Holding) → IsListed store L.museum L.depth P
      → Each store (HasRows L'.museum L'.posted) → HasStore store L'
  restored_store store listed rows = record {
    some = listed.bound.some;
    each = λ quiet c held. record {
      bound = subst (λ (S : Museum). IsBoundTo S L'.depth c) (sym judged.museum)
          (subst (λ n. IsBoundTo L.museum n c) (sym judged.depth) (listed.bound.each quiet c held));
      list = subst (λ (Q : List Entry). HasList Q c) (sym judged.posted) (listed.list quiet c held);
      rows = rows quiet c held;
    };
  }

-- the same rows have the same fault
same_fault : (S : Museum) (c d : Content) (fault : StoreFault) → AreSame c d
    → IsRestoreFault S c fault → IsRestoreFault S d fault
same_fault S c d NoMemory same h = tt
same_fault S c d Store same h = tt
same_fault S c d OtherSetup same h = h
same_fault S c d OtherVersion same h = h
same_fault S c d (Damaged at) same (inl h) =
    inl (h.0, same_bound c d same S h.0 h.1, same_wrong c d same (length S.stations) at h.2)
same_fault S c d (Damaged at) same (inr (inl h)) = inr (inl (record {
  zero = h.zero;
  depth = h.depth;
  bound = same_bound c d same S h.depth h.bound;
  entries = h.entries;
  list = same_list c d same h.entries h.list;
  stationed = h.stationed;
  few = h.few;
}))
same_fault S c d (Damaged at) same (inr (inr (inl h))) = inr (inr (inl (record {
  depth = h.depth;
  bound = same_bound c d same S h.depth h.bound;
  entries = h.entries;
  list = same_list c d same h.entries h.list;
  stationed = h.stationed;
  grown = h.grown;
  wrong = h.wrong;
})))
same_fault S c d (Damaged at) same (inr (inr (inr h))) = inr (inr (inr (record {
  zero = h.zero;
  depth = h.depth;
  bound = same_bound c d same S h.depth h.bound;
  entries = h.entries;
  list = same_list c d same h.entries h.list;
  lawful = h.lawful;
  grown = h.grown;
  wrong = λ has. h.wrong (same_rows_held d c (same_back _ _ same) S h.entries has);
})))

restore_fault : (S : Museum) (c : Content) (fault : StoreFault)
    → IsRestoreFault S (bound_to S c) fault → IsOpenFault S c fault
restore_fault S c NoMemory h = tt
restore_fault S c Store h = tt
restore_fault S c OtherSetup h = absurd h
restore_fault S c (Damaged at) h = inr h
restore_fault S c OtherVersion h = absurd h

-- bound, and unchanged since then
bound_on : (old mid new : Holding) (S : Museum) → Comes old mid (IsBound S) → Comes mid new AreSame
    → Comes old new (IsBound S)
bound_on old mid new S bound still =
    comes_on old mid new (IsBound S) AreSame (IsBound S)
    (λ x y z step same. same_then (bound_to S x) y z step same) bound still

pub not_restored : (old mid new : Holding) (S : Museum) (fault : StoreFault)
    → Comes old mid (IsBound S) → Comes mid new AreSame → Each new (λ c. IsRestoreFault S c fault)
    → Comes old new (IsNotOpened S fault)
not_restored old mid new S fault bound still each =
    comes_so old new (IsBound S) (IsNotOpened S fault) (λ c. IsRestoreFault S c fault)
    (λ c d step h. (
      restore_fault S c fault
          (same_fault S d (bound_to S c) fault (same_back _ _ step) h),
      inr step,
    ))
    (bound_on old mid new S bound still) each

-- the list before the store was bound
list_before : (S : Museum) (c : Content) (P : List Entry) → HasList P (bound_to S c) → HasList P c
list_before S c P has = by (is_new c.meta) has
  where
    by : (b : Bool) → HasList P (bound_by b S c) → HasList P c
    by true has = record { rows = has.rows; each = has.each; all = has.all }
    by false has = has

-- an opened store
pub restored_from : (old mid new : Holding) (S : Museum) (L : Book) → Comes old mid (IsBound S)
    → Comes mid new AreSame → HasStore new L
    → Comes old new (λ c d. HasList L.posted c × IsBound S c d)
restored_from old mid new S L bound still stored =
    comes_so old new (IsBound S) (λ c d. HasList L.posted c × IsBound S c d) (HasList L.posted)
    (λ c d step has. (
      list_before S c L.posted
          (same_list d (bound_to S c) (same_back _ _ step) L.posted has),
      step,
    ))
    (bound_on old mid new S bound still) (λ quiet c held. (stored.each quiet c held).list)

-- one call counts no Store fault, and the next call fails
pub counts_err : (T U : Type 0) (old mid new : ℕ) (x : StoreFault) (r : Result U StoreFault)
    → mid ≡ old → CountsRefusal {T = T} mid new (Err x) → IsErrAnd r (λ y. y ≡ x)
    → CountsRefusal old new r
counts_err T U old mid new x r same counts is =
    let (y, err, told) = err_from_is_err_and r is in
    subst (λ (q : Result U StoreFault). CountsRefusal old new q) (sym err)
    (subst (λ z. CountsRefusal {T = U} old new (Err z)) (sym told)
    (subst (λ n. CountsRefusal {T = U} n new (Err x)) same (untyped x counts)))
  where
    untyped : (z : StoreFault) → CountsRefusal {T = T} mid new (Err z)
        → CountsRefusal {T = U} mid new (Err z)
    untyped NoMemory h = h
    untyped Store h = h
    untyped OtherSetup h = h
    untyped (Damaged at) h = h
    untyped OtherVersion h = h
