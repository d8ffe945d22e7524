-- The entries read from the rows are those that a content has.
use Rattle.std.proofs.Common.{◌<◌, ◌≤◌, ◌+◌, ◌^◌, ◌≡◌, ◌≢◌, ℕ, zero, suc, List, [], ◌∷◌, ◌++◌}
use Rattle.std.proofs.Common.{length, map, reverse, take, drop, get_or, Bool, true, false, cond}
use Rattle.std.proofs.Common.{refl, sym, ap, subst, ◌∙◌, arith, is_lt, Ok, Err, Result, IfOk, IfErr}
use Rattle.std.proofs.Common.{All}
use Rattle.std.specs.List.Sorted.{IsPermutation, IsSorted, IsSortedByKey}
use Rattle.std.specs.Ordering.{int_cmp}
use Rattle.std.specs.Str.{is_utf8}
use Rattle.std.proofs.lemmas.Str.{IsUtf8-from_is_utf8}
use Rattle.std.proofs.lemmas.List.{get_or-map, length-map, reverse-append, length-reverse}
use Rattle.std.proofs.lemmas.List.{length-take-le, take_all}
use Rattle.std.proofs.lemmas.List.Sorted.{IsPermutation-map, IsPermutation-trans, IsPermutation-sym}
use Rattle.std.proofs.lemmas.List.Sorted.{IsPermutation-reverse, All-permutation}
use Rattle.itertools.proofs.KMergeLemmas.{lift-permutation}
use Rattle.sqlite.specs.Edit.{id_in}
use Rattle.sqlite.specs.Order.{Row, column}
use Rattle.sqlite.specs.Tree.{Trees}
use Rattle.sqlite_value.proofs.OrderLemmas.{value_cmp-Int}
use Rattle.sqlite_value.specs.Order.{bytes}
use Rattle.posting_core.specs.VerdictNames.{verdict_number}
use Rattle.posting_core.specs.declared.entry.Entry.{Entry}
use Rattle.posting_core.specs.declared.verdict.Verdict.{Verdict}
use Rattle.posting_core.specs.declared.verdict.Verdict.TheVariants as v
use Rattle.register_store.proofs.Lists.{taken_next, split_at}
use Rattle.register_store.proofs.OneList.{as_many}
use Rattle.register_store.specs.Kinds.{of_bytes, of_read}
use Rattle.register_store.specs.Registers.{is_of_listing, IsOfStation, IsWrongRow, IsWrongAt}
use Rattle.register_store.specs.Registers.{IsListFault, IsFirstWrong}
use Rattle.register_store.specs.StoredRows.{Content, PostingRow, IsPostingRow, ArePostings, HasList}
use Rattle.register_store.specs.declared.store_fault.StoreFault.{StoreFault}
use Rattle.register_store.specs.declared.store_fault.StoreFault.TheVariants.{NoMemory, Store}
use Rattle.register_store.specs.declared.store_fault.StoreFault.TheVariants.{OtherSetup, Damaged}
use Rattle.register_store.specs.declared.store_fault.StoreFault.TheVariants.{OtherVersion}
use Rattle.register_sql.specs.Queries.{shown_in}
use Rattle.register_sql.specs.Rows.{AreRows, posting_cells}
use Rattle.register_sql.specs.Shown.{shown_posting, posting_shown, FitsPosting, id_cmp}
use Rattle.register_sql.specs.declared.queries.Query.TheVariants.{Postings}
use Rattle.register_sql.proofs.Removed.{map_twice}

few_verdicts : (x : Verdict) → verdict_number x ≤ 25
few_verdicts v.Applied = omega arith
few_verdicts v.UnknownThing = omega arith
few_verdicts v.UnknownPlace = omega arith
few_verdicts v.ElsewherePlace = omega arith
few_verdicts v.UnknownContainer = omega arith
few_verdicts v.UnknownLoan = omega arith
few_verdicts v.LoanKnown = omega arith
few_verdicts v.InsidePartner = omega arith
few_verdicts v.NoObjects = omega arith
few_verdicts v.NotObject = omega arith
few_verdicts v.Repeated = omega arith
few_verdicts v.WrongOwner = omega arith
few_verdicts v.BadTerm = omega arith
few_verdicts v.AlreadyAuthorised = omega arith
few_verdicts v.NotAuthorised = omega arith
few_verdicts v.WrongDirection = omega arith
few_verdicts v.NotHere = omega arith
few_verdicts v.ContainerNotHere = omega arith
few_verdicts v.Cycle = omega arith
few_verdicts v.TooDeep = omega arith
few_verdicts v.NotWithPartner = omega arith
few_verdicts v.AlreadyHere = omega arith
few_verdicts v.NotListed = omega arith
few_verdicts v.WrongStage = omega arith
few_verdicts v.TermOver = omega arith
few_verdicts v.NotLater = omega arith

-- bytes that are read as a message are UTF-8
reads_utf8 : (bytes : List ℕ) (m : _) → of_bytes bytes ≡ Ok m → is_utf8 bytes ≡ true
reads_utf8 bytes m h = go (is_utf8 bytes) h
  where
    go : (b : Bool) → cond b (of_read (Rattle.serde_json.specs.Read.read bytes))
        (Err Rattle.register_store.specs.declared.fault.ReadFault.TheVariants.NotJson)
        ≡ Ok m → b ≡ true
    go true h = refl
    go false h = absurd (let e = h in cc)

-- a row that can't be read is no row of an entry
pub unread_is_wrong : (stations number : ℕ) (p : PostingRow) → stations < 2 ^ 32 → ¬ FitsPosting p
    → IsWrongRow stations number p
unread_is_wrong stations number p few unfit e is of = unfit (record {
  id = (number, is.id);
  station = (e.station, is.station, omega (arith, of.known, few));
  n = (e.n, is.n, omega (arith, of.few));
  verdict = (verdict_number e.verdict, is.verdict, omega (arith, few_verdicts e.verdict));
  body = IsUtf8-from_is_utf8 p.body (reads_utf8 p.body e.message is.reads_back);
})

-- a returned row is that of one posting alone
pub one_shown : (p q : PostingRow) → posting_shown p ≡ posting_shown q → p ≡ q
one_shown p q same =
    ap (λ (r : Row). let back : PostingRow = record {
      id = id_in (column r 0);
      station = id_in (column r 1);
      n = id_in (column r 2);
      body = bytes (column r 3);
      verdict =
          id_in (column r 4);
    } in back) same

-- the rows of a content that holds the table, in the order in which they were read
pub postings_read : (db : Trees) (rows : List Row) (c : Content) → AreRows db c
    → IsPermutation (shown_in Postings db) rows → (ps : List PostingRow)
    × (map posting_shown ps ≡ rows) × IsPermutation c.postings ps
postings_read db rows c held read =
    let moved : IsPermutation (map posting_shown c.postings) (map shown_posting (db 3)) =
    subst (λ l. IsPermutation l (map shown_posting (db 3)))
    (map_twice shown_posting posting_cells c.postings)
    (IsPermutation-map shown_posting _ _ held.postings) in
    lift-permutation posting_shown c.postings rows (IsPermutation-trans _ _ _ moved read)

pub in_order : (ps : List PostingRow) → IsSorted id_cmp (map posting_shown ps)
    → IsSortedByKey (λ (p : PostingRow). p.id) int_cmp ps
in_order ps sorted k d low high =
    let many : length (map posting_shown ps) ≡ length ps = length-map ps posting_shown in
    let first = get_or-map posting_shown ps k d (posting_shown d) (omega (arith, low)) in
    let second = get_or-map posting_shown ps (k + 1) d (posting_shown d) high in
    ap is_lt (sym (value_cmp-Int (get_or ps (k + 1) d).id (get_or ps k d).id)) ∙ rw (first, second)
    at (sorted k (posting_shown d) (omega (arith, low, many)) (omega (arith, high, many)))

-- ---- one more entry

pub taken_shown : (ps : List PostingRow) (rows : List Row) (i : ℕ) (row : Row) (d : PostingRow)
    → map posting_shown ps ≡ rows → i < length rows → row ≡ get_or rows i row
    → posting_shown (get_or ps i d) ≡ row
taken_shown ps rows i row d are low is =
    let many : length ps ≡ length rows = sym (length-map ps posting_shown) ∙ ap length are in
    sym (get_or-map posting_shown ps i d row (omega (arith, low, many))) ∙ ap (λ l. get_or l i row)
    are ∙ sym is

pub next_entry : (entries more : List Entry) (ps : List PostingRow) (i : ℕ) (e : Entry)
    (p : PostingRow) → i < length ps → p ≡ get_or ps i p → more ≡ entries ++ e ∷ []
    → IsPostingRow (i + 1) e p
    → ArePostings (reverse entries) (reverse (take i ps))
    → ArePostings (reverse more) (reverse (take (i + 1) ps))
next_entry entries more ps i e p less is pushed kept before =
    let count : length (reverse entries) ≡ i =
    as_many (reverse entries) (reverse (take i ps)) before ∙ length-reverse (take i ps)
    ∙ length-take-le i ps (omega arith) in
    subst (λ l. ArePostings (reverse l) (reverse (take (i + 1) ps))) (sym pushed)
    (subst (λ l. ArePostings l (reverse (take (i + 1) ps))) (sym (reverse-append entries (e ∷ [])))
    (subst (λ l. ArePostings (e ∷ reverse entries) (reverse l)) (sym (taken_next ps i p less is))
    (subst (λ l. ArePostings (e ∷ reverse entries) l) (sym (reverse-append (take i ps) (p ∷ [])))
    (subst (λ n. IsPostingRow (n + 1) e p) (sym count) kept, before))))

pub default_free : (ps : List PostingRow) (i : ℕ) (d e : PostingRow) → i < length ps
    → get_or ps i d ≡ get_or ps i e
default_free [] i d e low = absurd (omega (arith, low))
default_free (x ∷ xs) zero d e low = refl
default_free (x ∷ xs) (suc i) d e low = default_free xs i d e (omega (arith, low))

-- the posting that the row is returned for
abbrev pub back : Row → PostingRow
back r = record {
  id = id_in (column r 0);
  station = id_in (column r 1);
  n = id_in (column r 2);
  body = bytes (column r 3);
  verdict = id_in (column r 4);
}

pub same_length : (ps : List PostingRow) (rows : List Row) → map posting_shown ps ≡ rows
    → length ps ≡ length rows
same_length ps rows are = sym (length-map ps posting_shown) ∙ ap length are

pub next_listed : (entries more : List Entry) (rows : List Row) (ps : List PostingRow) (i : ℕ)
    (e : Entry) (row : Row) → map posting_shown ps ≡ rows → i < length rows
    → row ≡ get_or rows i row → more ≡ entries ++ e ∷ []
    → ((p : PostingRow) → posting_shown p ≡ row → IsPostingRow (i + 1) e p)
    → ArePostings (reverse entries) (reverse (take i ps))
    → ArePostings (reverse more) (reverse (take (i + 1) ps))
next_listed entries more rows ps i e row are low is pushed keeps before =
    let p = get_or ps i (back row) in
    let less : i < length ps = omega (arith, low, same_length ps rows are) in
    next_entry entries more ps i e p less (default_free ps i (back row) p less) pushed
    (keeps p (taken_shown ps rows i row (back row) are low is)) before

pub wrong_at : (stations : ℕ) (rows : List Row) (ps : List PostingRow) (i : ℕ) (row : Row)
    (entries : List Entry) → map posting_shown ps ≡ rows → i < length rows → row ≡ get_or rows i row
    → ArePostings (reverse entries) (reverse (take i ps)) → All (IsOfStation stations) entries
    → ((p : PostingRow) → posting_shown p ≡ row → IsWrongRow stations (i + 1) p)
    → IsWrongAt stations (i + 1) ps
wrong_at stations rows ps i row entries are low is kept stationed wrong =
    let p = get_or ps i (back row) in
    let less : i < length ps = omega (arith, low, same_length ps rows are) in
    record {
      before = take i ps;
      row = p;
      after = drop (i + 1) ps;
      split = split_at ps i p less (default_free ps i (back row) p less);
      number = ap (λ n. n + 1) (length-take-le i ps (omega arith));
      entries = reverse entries;
      right = kept;
      stationed = All-permutation (IsOfStation stations) entries _
          (IsPermutation-reverse entries) stationed;
      wrong = wrong p (taken_shown ps rows i row (back row) are low is);
    }

all_taken : (ps : List PostingRow) (rows : List Row) (i : ℕ) → map posting_shown ps ≡ rows
    → length rows ≤ i → take i ps ≡ ps
all_taken ps rows i are high = take_all i ps (omega (arith, high, same_length ps rows are))

pub listed_all : (entries : List Entry) (rows : List Row) (ps : List PostingRow) (i : ℕ)
    → map posting_shown ps ≡ rows → length rows ≤ i
    → ArePostings (reverse entries) (reverse (take i ps))
    → ArePostings (reverse entries) (reverse ps)
listed_all entries rows ps i are high kept =
    subst (λ l. ArePostings (reverse entries) (reverse l)) (all_taken ps rows i are high) kept

-- ---- the same for a content

pub listed_of : (db : Trees) (rows : List Row) (entries : List Entry)
    → IsPermutation (shown_in Postings db) rows
    → ((ps : List PostingRow) → map posting_shown ps ≡ rows
    → ArePostings (reverse entries) (reverse ps))
    → (c : Content) → AreRows db c → HasList (reverse entries) c
listed_of db rows entries read kept c held =
    let it = postings_read db rows c held read in
    record {
      rows = reverse it.0;
      each = kept it.0 it.1;
      all = IsPermutation-trans _ it.0 _ (IsPermutation-sym _ _ (IsPermutation-reverse it.0))
          (IsPermutation-sym _ _ it.2);
    }

pub first_wrong : (db : Trees) (rows : List Row) (stations at : ℕ)
    → IsPermutation (shown_in Postings db) rows → IsSorted id_cmp rows
    → ((ps : List PostingRow) → map posting_shown ps ≡ rows → IsWrongAt stations at ps)
    → (c : Content) → AreRows db c → IsFirstWrong stations at c
first_wrong db rows stations at read sorted wrong c held =
    let it = postings_read db rows c held read in
    record {
      rows = it.0;
      all = IsPermutation-sym _ _ it.2;
      order = in_order it.0 (subst (IsSorted id_cmp) (sym it.1) sorted);
      first = wrong it.0 it.1;
    }

-- why the entries can't be listed
pub list_fault : (db : Trees) (rows : List Row) (stations : ℕ) (fault : StoreFault)
    → IsPermutation (shown_in Postings db) rows → IsSorted id_cmp rows
    → (fault ≢ NoMemory → (at : ℕ) × (fault ≡ Damaged at)
    × ((ps : List PostingRow) → map posting_shown ps ≡ rows → IsWrongAt stations at ps))
    → (c : Content) → AreRows db c → IsListFault stations c fault
list_fault db rows stations NoMemory read sorted why c held = tt
list_fault db rows stations Store read sorted why c held = tt
list_fault db rows stations OtherSetup read sorted why c held =
    absurd (let it = why (λ e. cc) in let e = it.1 in cc)
list_fault db rows stations (Damaged at) read sorted why c held =
    let it = why (λ e. cc) in
    let same : it.0 ≡ at = let e = it.1 in cc in
    subst (λ n. IsFirstWrong stations n c) same
    (first_wrong db rows stations it.0 read sorted it.2 c held)
list_fault db rows stations OtherVersion read sorted why c held =
    absurd (let it = why (λ e. cc) in let e = it.1 in cc)

pub list_faults : (fault : StoreFault) (P : ℕ → Type 0)
    → (fault ≢ NoMemory → (at : ℕ) × (fault ≡ Damaged at) × P at) → is_of_listing fault ≡ true
list_faults NoMemory P why = refl
list_faults Store P why = refl
list_faults OtherSetup P why = absurd (let it = why (λ e. cc) in let e = it.1 in cc)
list_faults (Damaged at) P why = refl
list_faults OtherVersion P why = absurd (let it = why (λ e. cc) in let e = it.1 in cc)

pub if_ok : {A E : Type 0} {P Q : A → Type 0} (r : Result A E) → ((a : A) → P a → Q a)
    → IfOk r P → IfOk r Q
if_ok (Ok a) f h = f a h
if_ok (Err e) f h = tt

pub if_err : {A E : Type 0} {P Q : E → Type 0} (r : Result A E) → ((e : E) → P e → Q e)
    → IfErr r P → IfErr r Q
if_err (Ok a) f h = tt
if_err (Err e) f h = f e h
