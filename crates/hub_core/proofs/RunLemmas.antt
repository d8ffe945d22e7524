-- A run: the hub over nothing posted, and the lines after the head.
use Rattle.std.proofs.Common.{◌≡◌, ◌≢◌, ◌≤◌, ◌∙◌, ℕ, if◌then◌else◌, false, inl, inr, ◌∷◌, true}
use Rattle.std.proofs.Common.{true≢false, List, [], length, length-append, Option, None, Some}
use Rattle.std.proofs.Common.{Result, Err, IfErr, IsErrAnd, refl, ap, sym, subst, arith}
use Rattle.std.specs.Prelude.{IfSome, nat_lt}
use Rattle.std.specs.Option.{option_map}
use Rattle.std.proofs.lemmas.Bool.Decides.{nat_tests}
use Rattle.nest_core.specs.SetupRows.{rows_of, museum_of, setup_fault}
use Rattle.hub_core.specs.declared.stream.head.TheConstants.{LONGEST_HEAD}
use Rattle.std.specs.Io.KnownBytes.{Appends, IsAtEnd}
use Rattle.std.proofs.lemmas.List.{nil_from_length}
use Rattle.std.proofs.lemmas.List.Sorted.{IsPermutation-refl, IsPermutation-sym}
use Rattle.std.proofs.lemmas.List.Sorted.{IsPermutation-trans, length_permutation}
use Rattle.nest_core.specs.Museum.{Museum}
use Rattle.posting_core.specs.declared.entry.Entry.{Entry}
use Rattle.posting_core.specs.Growing.{HasGrown}
use Rattle.posting_core.specs.Book.{Book}
use Rattle.posting_core.specs.Messages.{is_sign_off}
use Rattle.station_core.specs.Progress.{AllMatch}
use Rattle.register_store.specs.declared.plain.TheConstants.{NEW_DEPTH}
use Rattle.register_store.specs.declared.store_fault.StoreFault.{StoreFault}
use Rattle.register_store.specs.declared.store_fault.StoreFault.TheVariants as store
use Rattle.register_store.specs.StoredRows.{Content, AreSame, HasList, HasRows}
use Rattle.register_store.specs.Registers.{bound_to}
use Rattle.register_store.specs.declared.no_store.NoStore.{NoStore}
use Rattle.register_store.specs.Holdings.{Holding}
use Rattle.register_store.specs.NoStore.{in_no_store}
use Rattle.register_store.specs.Plain.{Kept, in_memory}
use Rattle.register_store.specs.Holdings.{Comes}
use Rattle.register_store.proofs.Kept.{same_itself}
use Rattle.register_store.proofs.OneList.{as_many}
use Rattle.hub_core.specs.declared.hub.answer.Arrival.{Arrival}
use Rattle.hub_core.specs.declared.replay_fault.ReplayFault.{ReplayFault}
use Rattle.hub_core.specs.declared.replay_fault.ReplayFault.TheVariants as replay
use Rattle.hub_core.specs.declared.run_fault.RunFault.{RunFault}
use Rattle.hub_core.specs.declared.run_fault.RunFault.TheVariants.{NoMemory, Store, ReadFailed}
use Rattle.hub_core.specs.declared.run_fault.RunFault.TheVariants.{WriteFailed, Setup, HeadTooLong}
use Rattle.hub_core.specs.Faults.{CountsReplay}
use Rattle.hub_core.specs.Lines.{head, after_head}
use Rattle.hub_core.specs.Points.{point}
use Rattle.hub_core.specs.StandsFor.{State, StandsFor, IsFresh}
use Rattle.hub_core.specs.Openings.{IsOpenFault, IsSessionFault, CountsFault, Opened, IsNotOpened}
use Rattle.hub_core.specs.Replayed.{Answered, AfterFault}
use Rattle.hub_core.specs.WholeRun.{head_fault, setup_in, run_text, run_fault, TakesHead}
use Rattle.hub_core.specs.WholeRun.{OpensHub, InLines}
use Rattle.hub_core.proofs.StoreLemmas.{one_depth}
use Rattle.hub_core.proofs.Written.{if_err}
use Rattle.hub_core.proofs.ReplayLemmas.{whole_input}

-- a content without rows
abbrev pub nothing : Content
nothing = record { setup = []; meta = []; postings = []; spots = []; lines = []; terms = [] }

-- a store without rows has no entries
no_entries : (P : List Entry) (c : Content) → c.postings ≡ [] → HasList P c → length P ≡ 0
no_entries P c none list =
    let many = as_many P list.rows list.each in
    let same = length_permutation list.rows c.postings list.all in
    let zero = ap length none in
    omega arith

-- why a register without rows can't be opened
session_fault : (S : Museum) (fault : StoreFault) → IsOpenFault S nothing fault
    → CountsFault 0 0 fault → IsSessionFault S fault
session_fault S store.NoMemory cause count = tt
session_fault S store.Store cause count = absurd (omega (arith, count))
session_fault S store.OtherVersion cause count = absurd (true≢false (sym cause))
session_fault S store.OtherSetup cause count =
    absurd (omega (arith, length_permutation _ _ cause.0.2))
session_fault S (store.Damaged at) (inl cause) count = absurd (true≢false cause.1)
session_fault S (store.Damaged at) (inr (inl (depth, bound, wrong))) count =
    let none = length_permutation _ _ wrong.all in
    let some = ap length wrong.first.split in
    absurd (omega (arith, length-append wrong.first.before (wrong.first.row ∷ wrong.first.after)))
session_fault S (store.Damaged at) (inr (inr (inl cut))) count =
    let none = no_entries cut.entries (bound_to S nothing) refl cut.list in
    (cut.zero, λ grown. cut.few (subst (HasGrown S.growths) (sym none) grown))
session_fault S (store.Damaged at) (inr (inr (inr (inl wrong)))) count =
    let none = no_entries wrong.entries (bound_to S nothing) refl wrong.list in
    let some = ap length wrong.wrong.all in
    absurd (omega (arith, length-append wrong.wrong.after (wrong.wrong.entry ∷ wrong.wrong.before)))
session_fault S (store.Damaged at) (inr (inr (inr (inr wrong)))) count =
    let none = nil_from_length wrong.entries
    (no_entries wrong.entries (bound_to S nothing) refl wrong.list) in
    let has : HasRows S [] (bound_to S nothing) =
    record {
      spots = IsPermutation-refl [];
      lines = IsPermutation-refl [];
      terms = IsPermutation-refl [];
    } in
    absurd (wrong.wrong (subst (λ P. HasRows S P (bound_to S nothing)) (sym none) has))

-- nothing, in any order
only_nothing : (c : Content) → AreSame nothing c → c ≡ nothing
only_nothing c same =
    let setup = nil_from_length c.setup (length_permutation _ _ same.setup) in
    let meta = nil_from_length c.meta (length_permutation _ _ same.meta) in
    let postings = nil_from_length c.postings (length_permutation _ _ same.postings) in
    let spots = nil_from_length c.spots (length_permutation _ _ same.spots) in
    let lines = nil_from_length c.lines (length_permutation _ _ same.lines) in
    let terms = nil_from_length c.terms (length_permutation _ _ same.terms) in
    rw (setup, meta, postings, spots, lines, terms) refl

-- a hub opened over a register without rows
pub opened_fresh : (S : Museum) (register : Kept) (hub : State Kept) → register.content ≡ nothing
    → Opened in_memory S register hub → IsFresh in_memory hub S
opened_fresh S register hub new opened =
    let (c, was, step) = opened.comes.from tt hub.register.content
    (same_itself hub.register.content) in
    let is : c ≡ nothing = only_nothing c (subst (λ (k : Content). AreSame k c) new was) in
    let store = opened.stands.stored.each tt hub.register.content
    (same_itself hub.register.content) in
    let empty : hub.book.posted ≡ [] =
    nil_from_length hub.book.posted
    (no_entries hub.book.posted c (ap (λ (k : Content). k.postings) is) step.0) in
    let at : AreSame (bound_to S nothing) hub.register.content =
    subst (λ (k : Content). AreSame (bound_to S k) hub.register.content) is step.1 in
    let meta = IsPermutation-trans _ _ _ store.bound.meta (IsPermutation-sym _ _ at.meta) in
    record {
      museum = opened.setup;
      depth = one_depth hub.book.depth NEW_DEPTH meta;
      stands = subst (λ (P : List Entry). StandsFor in_memory hub P []) empty opened.stands;
    }

-- the same hub without its store
pub fresh_without : {R : Type 0} (holding : R → Holding) (S : Museum) (hub : State R)
    (new : State NoStore) → IsFresh holding hub S → new.sequences ≡ hub.sequences
    → new.book ≡ hub.book → new.down ≡ hub.down → IsFresh in_no_store new S
fresh_without holding S hub new fresh sequences book down =
    record {
      museum = ap (λ (B : Book). B.museum) book ∙ fresh.museum;
      depth = ap (λ (B : Book). B.depth) book ∙ fresh.depth;
      stands = record {
        up = down ∙ fresh.stands.up;
        list = subst (λ (B : Book). B.posted ≡ (point B.museum B.depth [] []).posted) (sym book)
            fresh.stands.list;
        series = subst (λ (B : Book). AllMatch is_sign_off (point B.museum B.depth [] []).taken
            new.sequences) (sym book)
            (subst (AllMatch is_sign_off (point hub.book.museum hub.book.depth [] []).taken)
            (sym sequences) fresh.stands.series);
        stored = record { some = λ quiet. absurd quiet; each = λ quiet. absurd quiet };
      };
    }

-- a hub that could not be opened over it
pub session_not_opened : (S : Museum) (register left : Kept) (fault : StoreFault)
    → register.content ≡ nothing
    → Comes (in_memory register) (in_memory left) (IsNotOpened S fault)
    → CountsFault 0 0 fault → IsSessionFault S fault
session_not_opened S register left fault new comes count =
    let (c, was, cause) = comes.from tt left.content (same_itself left.content) in
    let is : c ≡ nothing = only_nothing c (subst (λ (k : Content). AreSame k c) new was) in
    session_fault S fault (subst (λ (k : Content). IsOpenFault S k fault) is cause.0) count

-- opened with the head that was read
pub opens_hub : (i i1 : Option (List ℕ)) (taken given : List ℕ) (setup : Museum)
    (hub : State NoStore) → given ≡ taken → TakesHead i i1 taken
    → setup_fault given ≡ None → setup ≡ museum_of (rows_of given)
    → IsFresh in_no_store hub setup → OpensHub i i1 hub
opens_hub None i1 taken given setup hub at takes none is fresh = tt
opens_hub (Some bytes) i1 taken given setup hub at (is_head, short, left) none is fresh =
    let all : given ≡ head bytes = at ∙ is_head in
    let few : length (head bytes) ≤ LONGEST_HEAD =
    subst (λ (l : List ℕ). length l ≤ LONGEST_HEAD) is_head short in
    let within : nat_lt LONGEST_HEAD (length (head bytes)) ≡ false = grind (arith, nat_tests) in
    let whole : setup_fault (head bytes) ≡ None =
    subst (λ (l : List ℕ). setup_fault l ≡ None) all none in (
      ap (λ t. if t then Some HeadTooLong else option_map Setup (setup_fault (head bytes))) within
          ∙ ap (option_map Setup) whole,
      left,
      subst (λ (S : Museum). IsFresh in_no_store hub S)
          (is ∙ ap (λ (l : List ℕ). museum_of (rows_of l)) all) fresh,
    )

-- the lines after the head are all answered
pub lines_answered : (i i1 i2 o o' : Option (List ℕ)) (hub new : State NoStore)
    → OpensHub i i1 hub → ((O : List Entry) (A : List Arrival) → StandsFor in_no_store hub O A
    → Answered hub.book.museum hub.book.depth O A i1 i2 o o' in_no_store new true)
    → IfSome i (λ bytes. (head_fault (head bytes) ≡ None) × IsAtEnd i2
    × Appends o o' (run_text bytes))
lines_answered None i1 i2 o o' hub new opens answered = tt
lines_answered (Some bytes) i1 i2 o o' hub new opens answered =
    let fresh = opens.2 in
    let all : Answered (setup_in bytes) NEW_DEPTH [] [] (Some (after_head bytes)) i2 o o'
    in_no_store new true =
    subst (λ (S : Museum). Answered S NEW_DEPTH [] [] (Some (after_head bytes)) i2 o o' in_no_store
    new true) fresh.museum
    (subst (λ depth. Answered hub.book.museum depth [] [] (Some (after_head bytes)) i2 o o'
    in_no_store new true) fresh.depth
    (subst (λ (left : Option (List ℕ)). Answered hub.book.museum hub.book.depth [] [] left i2 o o'
    in_no_store new true) opens.1 (answered [] [] fresh.stands))) in
    let whole = whole_input (setup_in bytes) NEW_DEPTH [] [] (Some (after_head bytes)) i2 o o'
    in_no_store new all in
    (opens.0, whole.0, whole.1)

-- a fault in the lines
pub lines_fault : (i i1 i2 o o' : Option (List ℕ)) (hub new : State NoStore) (fault : ReplayFault)
    → OpensHub i i1 hub
    → ((O : List Entry) (A : List Arrival) → StandsFor in_no_store hub O A
    → AfterFault hub.book.museum hub.book.depth O A i1 i2 o o' in_no_store new fault)
    → InLines i i2 o o' fault
lines_fault None i1 i2 o o' hub new fault opens after = tt
lines_fault (Some bytes) i1 i2 o o' hub new fault opens after =
    let fresh = opens.2 in (
      opens.0,
      (
        new,
        subst (λ (S : Museum). AfterFault S NEW_DEPTH [] [] (Some (after_head bytes)) i2 o o'
            in_no_store new fault) fresh.museum
            (subst (λ depth. AfterFault hub.book.museum depth [] [] (Some (after_head bytes)) i2 o
            o' in_no_store new fault) fresh.depth
            (subst (λ (left : Option (List ℕ)). AfterFault hub.book.museum hub.book.depth [] [] left
            i2 o o' in_no_store new fault) opens.1 (after [] [] fresh.stands))),
      ),
    )

-- a register that never returned Store causes no Store fault
pub no_store : {U : Type 0} (r : Result U RunFault) (met : ReplayFault)
    → IsErrAnd r (λ fault. fault ≡ run_fault met) → CountsReplay {T = U} 0 0 (Err met)
    → IfErr r (λ fault. fault ≢ Store)
no_store r replay.NoMemory is count =
    if_err r (λ fault. fault ≢ Store) NoMemory is (λ same. absurd (cc))
no_store r replay.Store is count = absurd (omega (arith, count))
no_store r replay.ReadFailed is count =
    if_err r (λ fault. fault ≢ Store) ReadFailed is (λ same. absurd (cc))
no_store r replay.WriteFailed is count =
    if_err r (λ fault. fault ≢ Store) WriteFailed is (λ same. absurd (cc))
