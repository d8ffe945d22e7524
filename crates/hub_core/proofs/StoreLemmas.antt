-- The rows of a register for a posted list, after one more posting.
use Rattle.std.proofs.Common.{◌≡◌, ℕ, nat_abs, map, ◌+◌, if◌then◌else◌, List, [], ◌∷◌, ◌++◌, length}
use Rattle.std.proofs.Common.{Result, Ok, ◌⊎◌, inl, inr, ap, ◌∙◌, sym, subst, arith}
use Rattle.std.specs.Prelude.{reverse}
use Rattle.std.specs.List.Sorted.{IsPermutation}
use Rattle.std.proofs.lemmas.List.Sorted.{IsPermutation-cons, sum_by-IsPermutation}
use Rattle.nest_core.specs.Museum.{Museum}
use Rattle.posting_core.specs.declared.message.Message.{Message}
use Rattle.posting_core.specs.declared.entry.Entry.{Entry}
use Rattle.posting_core.specs.declared.entry.Changes.{Changes}
use Rattle.posting_core.specs.declared.entry.NewSpot.{NewSpot}
use Rattle.posting_core.specs.declared.entry.NewLine.{NewLine}
use Rattle.posting_core.specs.Book.{Book, changes_of, new_lines}
use Rattle.posting_core.specs.Lawful.{Follows, IsLawful}
use Rattle.posting_core.specs.VerdictNames.{is_applied}
use Rattle.station_core.specs.Runs.{Arrived}
use Rattle.register_store.specs.StoredRows.{Content, MetaRow, PostingRow, AreSame, IsPostingRow}
use Rattle.register_store.specs.StoredRows.{IsStoreOf, written, spot_row, line_row, is_same_line}
use Rattle.register_store.specs.StoredRows.{rows_of_meta, rows_of_spots, rows_of_lines, put_each}
use Rattle.register_store.specs.StoredRows.{with_posted}
use Rattle.register_store.specs.Holdings.{Holding, Has, Comes, IsPosted}
use Rattle.register_store.proofs.HoldingLemmas.{comes_has, has_more, same_store}
use Rattle.register_store.proofs.LineRows.{next_line_rows}
use Rattle.register_store.proofs.SpotRows.{next_spot_rows}
use Rattle.register_store.proofs.TermRows.{next_terms}
use Rattle.hub_core.specs.Points.{entry_of, post}
use Rattle.hub_core.specs.declared.hub.answer.HubFault.{HubFault}
use Rattle.hub_core.specs.Faults.{CountsStore}
use Rattle.hub_core.specs.StandsFor.{HasStore, HasEither}

-- the rows of a list, with one more entry
store_next : (S : Museum) (depth : ℕ) (P : List Entry) (e : Entry) (row : PostingRow)
    (changes : Changes) (c : Content)
    → IsLawful S depth P → Follows S depth P e → IsPostingRow (length P + 1) e row
    → written S P e ≡ changes.spots
    → (if is_applied e.verdict then new_lines S P e.message else []) ≡ changes.lines
    → IsStoreOf S depth P c → IsStoreOf S depth (e ∷ P) (with_posted row e changes c)
store_next S depth P e row changes c lawful follows is wrote lined store = record {
  bound = record { setup = store.bound.setup; meta = store.bound.meta; limit = store.bound.limit };
  list = record {
    rows = row ∷ store.list.rows;
    each = (is, store.list.each);
    all = IsPermutation-cons row _ _ store.list.all;
  };
  rows = record {
    spots = subst (λ (xs : List NewSpot). IsPermutation (rows_of_spots S (e ∷ P))
        (map spot_row (reverse xs) ++ c.spots)) wrote
        (next_spot_rows S P e c.spots store.rows.spots);
    lines = subst (λ (ls : List NewLine). IsPermutation (rows_of_lines S (e ∷ P))
        (put_each is_same_line (map line_row ls) c.lines)) lined
        (next_line_rows S depth P e c.lines follows lawful store.rows.lines);
    terms = next_terms S depth P e c.terms follows lawful store.rows.terms;
  };
}

-- if the changes are those of the message
pub store_posted : (L : Book) (r : Arrived Message) (changes : Changes) (row : PostingRow)
    (c : Content) → IsLawful L.museum L.depth L.posted
    → Follows L.museum L.depth L.posted (entry_of L.museum L.depth L.posted r)
    → changes ≡ changes_of L r.message
    → IsPostingRow changes.entry (record {
      station = r.station;
      n = r.n;
      message = r.message;
      verdict = changes.verdict;
    }) row → IsStoreOf L.museum L.depth L.posted c
    → IsStoreOf L.museum L.depth (post L.museum L.depth L.posted r)
    (with_posted row (record {
      station = r.station;
      n = r.n;
      message = r.message;
      verdict = changes.verdict;
    }) changes c)
store_posted L r changes row c lawful follows planned is store =
    subst (λ v. IsStoreOf L.museum L.depth (post L.museum L.depth L.posted r)
    (with_posted row (record { station = r.station; n = r.n; message = r.message; verdict = v })
    changes c)) (ap (λ (x : Changes). x.verdict) (sym planned))
    (store_next L.museum L.depth L.posted (entry_of L.museum L.depth L.posted r) row changes c
    lawful follows
    (subst (λ (x : Changes). IsPostingRow x.entry
    (record { station = r.station; n = r.n; message = r.message; verdict = x.verdict })
    row) planned is)
    (ap (λ (x : Changes). x.spots) (sym planned))
    (ap (λ (x : Changes). x.lines) (sym planned)) store)

-- a store has only one depth limit
pub one_depth : (d e : ℕ) → IsPermutation (rows_of_meta d) (rows_of_meta e) → d ≡ e
one_depth d e same = let sums = sum_by-IsPermutation (λ (row : MetaRow). nat_abs row.val) _ _ same
    in omega arith

-- the entry of a message, as the register takes it
abbrev pub entry_with : Arrived Message → Changes → Entry
entry_with r changes = record {
  station = r.station;
  n = r.n;
  message = r.message;
  verdict = changes.verdict;
}

-- the ledger with the entry of the changes
pub posted_book : (L : Book) (r : Arrived Message) (changes : Changes)
    → changes ≡ changes_of L r.message → (L' : Book)
    → L' ≡ record L { posted = entry_with r changes ∷ L.posted }
    → L' ≡ record L { posted = post L.museum L.depth L.posted r }
posted_book L r changes planned L' is =
    is ∙ ap (λ (x : Changes). record L { posted = entry_with r x ∷ L.posted }) planned

-- a store with the ledger's rows
pub either_of : (store : Holding) (L : Book) (r : Arrived Message) → HasStore store L
    → HasEither store L.museum L.depth L.posted r
either_of store L r has = has_more store (IsStoreOf L.museum L.depth L.posted)
    (λ c. IsStoreOf L.museum L.depth L.posted c
    ⊎ IsStoreOf L.museum L.depth (post L.museum L.depth L.posted r) c) (λ c is. inl is) has

module _ (old new : Holding) (L : Book) (r : Arrived Message) (changes : Changes)
    (lawful : IsLawful L.museum L.depth L.posted)
    (follows : Follows L.museum L.depth L.posted (entry_of L.museum L.depth L.posted r))
    (planned : changes ≡ changes_of L r.message) (has : HasStore old L) where
  -- one more posting
  step_posted : (c d : Content) → IsStoreOf L.museum L.depth L.posted c
      → IsPosted (entry_with r changes) changes c d
      → IsStoreOf L.museum L.depth (post L.museum L.depth L.posted r) d
  step_posted c d store step =
      same_store (with_posted step.0 (entry_with r changes) changes c) d step.2 L.museum L.depth
      (post L.museum L.depth L.posted r)
      (store_posted L r changes step.0 c lawful follows planned step.1 store)

  -- the store after the posting
  pub stored_in : Comes old new (IsPosted (entry_with r changes) changes)
      → Has new (IsStoreOf L.museum L.depth (post L.museum L.depth L.posted r))
  stored_in comes = comes_has old new (IsPosted (entry_with r changes) changes)
      (IsStoreOf L.museum L.depth L.posted)
      (IsStoreOf L.museum L.depth (post L.museum L.depth L.posted r)) step_posted comes has

  -- and after a posting that failed
  pub left_in : Comes old new (λ c d. AreSame c d ⊎ IsPosted (entry_with r changes) changes c d)
      → HasEither new L.museum L.depth L.posted r
  left_in comes =
      comes_has old new (λ c d. AreSame c d ⊎ IsPosted (entry_with r changes) changes c d)
      (IsStoreOf L.museum L.depth L.posted) (λ c. IsStoreOf L.museum L.depth L.posted c
      ⊎ IsStoreOf L.museum L.depth (post L.museum L.depth L.posted r) c)
      (λ c d store step. elim step [
        | inl same ↦ inl (same_store c d same L.museum L.depth L.posted store)
        | inr more ↦ inr (step_posted c d store more)
      ]) comes has

  pub either_in : Comes old new (IsPosted (entry_with r changes) changes)
      → HasEither new L.museum L.depth L.posted r
  either_in comes = has_more new (IsStoreOf L.museum L.depth (post L.museum L.depth L.posted r))
      (λ c. IsStoreOf L.museum L.depth L.posted c
      ⊎ IsStoreOf L.museum L.depth (post L.museum L.depth L.posted r) c) (λ c is. inr is)
      (stored_in comes)

  -- the same, for the ledger after it
  pub stored_book : (L' : Book) → L' ≡ record L { posted = entry_with r changes ∷ L.posted }
      → Comes old new (IsPosted (entry_with r changes) changes) → HasStore new L'
  stored_book L' is comes = subst (λ (b : Book). HasStore new b)
      (sym (posted_book L r changes planned L' is)) (stored_in comes)

-- a call that succeeds counts no Store fault
pub counts_ok : {T : Type 0} (old new : ℕ) (r : Result T HubFault) (x : T) → r ≡ Ok x
    → CountsStore old new r → new ≡ old
counts_ok {T} old new r x is = subst (λ (q : Result T HubFault). CountsStore old new q → new ≡ old)
    (sym is) (λ h. h)
