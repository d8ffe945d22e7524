-- The first entry that version 1 can't have, and why the entries of such a store can't be listed.
use Rattle.std.proofs.Common.{◌<◌, ◌+◌, ◌≡◌, ◌≢◌, ℕ, List, length, map, reverse, take, drop, get_or}
use Rattle.std.proofs.Common.{true, false, sym, ap, subst, ◌∙◌, arith, All}
use Rattle.std.specs.List.Sorted.{IsPermutation, IsSorted}
use Rattle.std.proofs.lemmas.List.{length-take-le}
use Rattle.std.proofs.lemmas.List.Sorted.{IsPermutation-map, IsPermutation-trans, IsPermutation-sym}
use Rattle.std.proofs.lemmas.List.Sorted.{IsPermutation-reverse, All-permutation}
use Rattle.itertools.proofs.KMergeLemmas.{lift-permutation}
use Rattle.sqlite.specs.Order.{Row}
use Rattle.sqlite.specs.Tree.{Trees}
use Rattle.posting_core.specs.declared.entry.Entry.{Entry}
use Rattle.register_store.proofs.Lists.{split_at}
use Rattle.register_store.proofs.OneList.{one_entry}
use Rattle.register_store.specs.Registers.{IsWrongRow}
use Rattle.register_store.specs.StoredRows.{Content, PostingRow, IsPostingRow, ArePostings, HasList}
use Rattle.register_store.specs.declared.store_fault.StoreFault.{StoreFault}
use Rattle.register_store.specs.declared.store_fault.StoreFault.TheVariants.{NoMemory, Damaged}
use Rattle.register_sql.specs.Early.{is_early, IsEarlyOf, IsWrongEarly, IsEarlyWrongAt}
use Rattle.register_sql.specs.Early.{IsFirstEarlyWrong}
use Rattle.register_sql.specs.Queries.{shown_in}
use Rattle.register_sql.specs.Rows.{HasPart, posting_cells}
use Rattle.register_sql.specs.Shown.{shown_posting, posting_shown, id_cmp}
use Rattle.register_sql.specs.declared.queries.Query.TheVariants.{Postings}
use Rattle.register_sql.proofs.Postings.{back, taken_shown, default_free, same_length, in_order}
use Rattle.register_sql.proofs.Removed.{map_twice}

-- a row that is no entry at all is no entry of version 1
pub wrong_early : (stations number : ℕ) (p : PostingRow) → IsWrongRow stations number p
    → IsWrongEarly stations number p
wrong_early stations number p wrong e keeps known = wrong e keeps known.stationed

-- a row is wrong if its only entry isn't of version 1
pub late_is_wrong : (stations number : ℕ) (e : Entry) (p : PostingRow) → IsPostingRow number e p
    → is_early e ≡ false → IsWrongEarly stations number p
late_is_wrong stations number e p keeps late f other known =
    absurd (let no : false ≡ true = sym late ∙ ap is_early (one_entry number e f p keeps other)
    ∙ known.early in cc)

pub early_wrong_at : (stations : ℕ) (rows : List Row) (ps : List PostingRow) (i : ℕ) (row : Row)
    (entries : List Entry) → map posting_shown ps ≡ rows → i < length rows → row ≡ get_or rows i row
    → ArePostings (reverse entries) (reverse (take i ps)) → All (IsEarlyOf stations) entries
    → ((p : PostingRow) → posting_shown p ≡ row → IsWrongEarly stations (i + 1) p)
    → IsEarlyWrongAt stations (i + 1) ps
early_wrong_at stations rows ps i row entries are low is kept known wrong =
    let p = get_or ps i (back row) in
    let less : i < length ps = omega (arith, low, same_length ps rows are) in
    record {
      before = take i ps;
      row = p;
      after = drop (i + 1) ps;
      split = split_at ps i p less (default_free ps i (back row) p less);
      number = ap (λ n. n + 1) (length-take-le i ps (omega arith));
      entries = reverse entries;
      right = kept;
      known = All-permutation (IsEarlyOf stations) entries _ (IsPermutation-reverse entries) known;
      wrong = wrong p (taken_shown ps rows i row (back row) are low is);
    }

-- the rows of a content of version 1, in the order in which they were read
postings_read : (db : Trees) (rows : List Row) (c : Content) → HasPart 5 db c
    → IsPermutation (shown_in Postings db) rows → (ps : List PostingRow)
    × (map posting_shown ps ≡ rows) × IsPermutation c.postings ps
postings_read db rows c held read =
    let moved : IsPermutation (map posting_shown c.postings) (map shown_posting (db 3)) =
    subst (λ l. IsPermutation l (map shown_posting (db 3)))
    (map_twice shown_posting posting_cells c.postings)
    (IsPermutation-map shown_posting _ _ held.postings) in
    lift-permutation posting_shown c.postings rows (IsPermutation-trans _ _ _ moved read)

pub early_listed : (db : Trees) (rows : List Row) (entries : List Entry)
    → IsPermutation (shown_in Postings db) rows
    → ((ps : List PostingRow) → map posting_shown ps ≡ rows
    → ArePostings (reverse entries) (reverse ps))
    → (c : Content) → HasPart 5 db c → HasList (reverse entries) c
early_listed db rows entries read kept c held =
    let it = postings_read db rows c held read in
    record {
      rows = reverse it.0;
      each = kept it.0 it.1;
      all = IsPermutation-trans _ it.0 _ (IsPermutation-sym _ _ (IsPermutation-reverse it.0))
          (IsPermutation-sym _ _ it.2);
    }

first_wrong : (db : Trees) (rows : List Row) (stations at : ℕ)
    → IsPermutation (shown_in Postings db) rows → IsSorted id_cmp rows
    → ((ps : List PostingRow) → map posting_shown ps ≡ rows → IsEarlyWrongAt stations at ps)
    → (c : Content) → HasPart 5 db c → IsFirstEarlyWrong stations at c
first_wrong db rows stations at read sorted wrong c held =
    let it = postings_read db rows c held read in
    record {
      rows = it.0;
      all = IsPermutation-sym _ _ it.2;
      order = in_order it.0 (subst (IsSorted id_cmp) (sym it.1) sorted);
      first = wrong it.0 it.1;
    }

pub early_fault : (db : Trees) (rows : List Row) (stations : ℕ) (fault : StoreFault)
    → IsPermutation (shown_in Postings db) rows → IsSorted id_cmp rows
    → (fault ≢ NoMemory → (at : ℕ) × (fault ≡ Damaged at)
    × ((ps : List PostingRow) → map posting_shown ps ≡ rows → IsEarlyWrongAt stations at ps))
    → (at : ℕ) → fault ≡ Damaged at → (c : Content) → HasPart 5 db c
    → IsFirstEarlyWrong stations at c
early_fault db rows stations fault read sorted why at is c held =
    let it = why (λ none. absurd (let e : Damaged at ≡ NoMemory = sym is ∙ none in cc)) in
    let same : it.0 ≡ at = let e : Damaged it.0 ≡ Damaged at = sym it.1 ∙ is in cc in
    subst (λ n. IsFirstEarlyWrong stations n c) same
    (first_wrong db rows stations it.0 read sorted it.2 c held)
