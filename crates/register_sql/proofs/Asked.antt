-- The meaning of each query of the store, and the columns that it returns.
use Rattle.std.proofs.Common.{◌≡◌, ◌≤◌, ℕ, zero, suc, List, [], ◌∷◌, codes, map, true, false, Ok}
use Rattle.std.proofs.Common.{Err, Result, IfOk, OnOk, Vec, refl, sym, subst, ◌∙◌, arith}
use Rattle.std.specs.List.Sorted.{IsPermutation}
use Rattle.std.specs.declared.alloc.Global.{Global}
use Rattle.sqlite.specs.Listing.{understood}
use Rattle.sqlite.specs.Order.{Row}
use Rattle.sqlite.specs.State.{State, Shown, IsUnchanged}
use Rattle.sqlite.specs.Term.{Term, col}
use Rattle.sqlite.specs.declared.error.Error.{Error}
use Rattle.sqlite_tied.specs.Compute.{everything}
use Rattle.register_sql.specs.Queries.{text_of, tree_of, least_of, shown_by, shows_id, shown_in}
use Rattle.register_sql.specs.Queries.{IsInOrder, IsSame}
use Rattle.register_sql.specs.Tables.{prefix}
use Rattle.register_sql.specs.declared.queries.Query.{Query}
use Rattle.register_sql.specs.declared.queries.Query.TheVariants.{Metas, Setups, Postings, Spots}
use Rattle.register_sql.specs.declared.queries.Query.TheVariants.{Lines, Terms, MetaIds, SetupIds}
use Rattle.register_sql.specs.declared.queries.Query.TheVariants.{PostingIds, LineIds, TermIds}
use Rattle.register_sql.proofs.Listings.{IsListing, shows_of, lists, lists_same, lists_sorted}
use Rattle.register_sql.proofs.Texts.{ordered_by_rowid}

abbrev pub columns_of : Query → List Term
columns_of Metas = col 1 1 ∷ col 1 2 ∷ []
columns_of Setups = col 1 0 ∷ col 1 2 ∷ []
columns_of Postings = col 1 0 ∷ col 1 2 ∷ col 1 3 ∷ col 1 4 ∷ col 1 5 ∷ []
columns_of Spots = col 1 1 ∷ col 1 2 ∷ col 1 3 ∷ col 1 4 ∷ col 1 5 ∷ []
columns_of Lines = col 1 1 ∷ col 1 2 ∷ col 1 3 ∷ []
columns_of Terms = col 1 1 ∷ col 1 2 ∷ []
columns_of MetaIds = col 1 0 ∷ []
columns_of SetupIds = col 1 0 ∷ []
columns_of PostingIds = col 1 0 ∷ []
columns_of LineIds = col 1 0 ∷ []
columns_of TermIds = col 1 0 ∷ []

abbrev pub names_of : Query → List (List ℕ)
names_of Metas = codes "name" ∷ codes "val" ∷ []
names_of Setups = codes "id" ∷ codes "txt" ∷ []
names_of Postings = codes "id" ∷ codes "station" ∷ codes "n" ∷ codes "body" ∷ codes "verdict" ∷ []
names_of Spots = codes "thing" ∷ codes "k" ∷ codes "entry" ∷ codes "place" ∷ codes "day" ∷ []
names_of Lines = codes "loan" ∷ codes "object" ∷ codes "stage" ∷ []
names_of Terms = codes "loan" ∷ codes "day" ∷ []
names_of MetaIds = codes "rowid" ∷ []
names_of SetupIds = codes "id" ∷ []
names_of PostingIds = codes "id" ∷ []
names_of LineIds = codes "rowid" ∷ []
names_of TermIds = codes "rowid" ∷ []

abbrev IsListed : Query → ℕ → Type 0
IsListed query made = IsListing (prefix made) (text_of query) (tree_of query) (columns_of query)
    (names_of query)

asks_metas : (made : ℕ) → 1 ≤ made → made ≤ 6 → IsListed Metas made
unfolding understood everything
asks_metas zero some few = absurd (omega (arith, some))
asks_metas (suc zero) some few =
    record { command = refl; unlisted = refl; plain = (refl, refl); bare = λ db. refl }
asks_metas (suc (suc zero)) some few =
    record { command = refl; unlisted = refl; plain = (refl, refl); bare = λ db. refl }
asks_metas (suc (suc (suc zero))) some few =
    record { command = refl; unlisted = refl; plain = (refl, refl); bare = λ db. refl }
asks_metas (suc (suc (suc (suc zero)))) some few =
    record { command = refl; unlisted = refl; plain = (refl, refl); bare = λ db. refl }
asks_metas (suc (suc (suc (suc (suc zero))))) some few =
    record { command = refl; unlisted = refl; plain = (refl, refl); bare = λ db. refl }
asks_metas (suc (suc (suc (suc (suc (suc zero)))))) some few =
    record { command = refl; unlisted = refl; plain = (refl, refl); bare = λ db. refl }
asks_metas (suc (suc (suc (suc (suc (suc (suc made))))))) some few = absurd (omega (arith, few))

asks_setups : (made : ℕ) → 2 ≤ made → made ≤ 6 → IsListed Setups made
unfolding understood everything
asks_setups zero some few = absurd (omega (arith, some))
asks_setups (suc zero) some few = absurd (omega (arith, some))
asks_setups (suc (suc zero)) some few =
    record { command = refl; unlisted = refl; plain = (refl, refl); bare = λ db. refl }
asks_setups (suc (suc (suc zero))) some few =
    record { command = refl; unlisted = refl; plain = (refl, refl); bare = λ db. refl }
asks_setups (suc (suc (suc (suc zero)))) some few =
    record { command = refl; unlisted = refl; plain = (refl, refl); bare = λ db. refl }
asks_setups (suc (suc (suc (suc (suc zero))))) some few =
    record { command = refl; unlisted = refl; plain = (refl, refl); bare = λ db. refl }
asks_setups (suc (suc (suc (suc (suc (suc zero)))))) some few =
    record { command = refl; unlisted = refl; plain = (refl, refl); bare = λ db. refl }
asks_setups (suc (suc (suc (suc (suc (suc (suc made))))))) some few = absurd (omega (arith, few))

asks_postings : (made : ℕ) → 5 ≤ made → made ≤ 6 → IsListed Postings made
unfolding understood everything
asks_postings zero some few = absurd (omega (arith, some))
asks_postings (suc zero) some few = absurd (omega (arith, some))
asks_postings (suc (suc zero)) some few = absurd (omega (arith, some))
asks_postings (suc (suc (suc zero))) some few = absurd (omega (arith, some))
asks_postings (suc (suc (suc (suc zero)))) some few = absurd (omega (arith, some))
asks_postings (suc (suc (suc (suc (suc zero))))) some few =
    record { command = refl; unlisted = refl; plain = (refl, refl); bare = λ db. refl }
asks_postings (suc (suc (suc (suc (suc (suc zero)))))) some few =
    record { command = refl; unlisted = refl; plain = (refl, refl); bare = λ db. refl }
asks_postings (suc (suc (suc (suc (suc (suc (suc made))))))) some few = absurd (omega (arith, few))

asks_spots : (made : ℕ) → 6 ≤ made → made ≤ 6 → IsListed Spots made
unfolding understood everything
asks_spots zero some few = absurd (omega (arith, some))
asks_spots (suc zero) some few = absurd (omega (arith, some))
asks_spots (suc (suc zero)) some few = absurd (omega (arith, some))
asks_spots (suc (suc (suc zero))) some few = absurd (omega (arith, some))
asks_spots (suc (suc (suc (suc zero)))) some few = absurd (omega (arith, some))
asks_spots (suc (suc (suc (suc (suc zero))))) some few = absurd (omega (arith, some))
asks_spots (suc (suc (suc (suc (suc (suc zero)))))) some few =
    record { command = refl; unlisted = refl; plain = (refl, refl); bare = λ db. refl }
asks_spots (suc (suc (suc (suc (suc (suc (suc made))))))) some few = absurd (omega (arith, few))

asks_lines : (made : ℕ) → 6 ≤ made → made ≤ 6 → IsListed Lines made
unfolding understood everything
asks_lines zero some few = absurd (omega (arith, some))
asks_lines (suc zero) some few = absurd (omega (arith, some))
asks_lines (suc (suc zero)) some few = absurd (omega (arith, some))
asks_lines (suc (suc (suc zero))) some few = absurd (omega (arith, some))
asks_lines (suc (suc (suc (suc zero)))) some few = absurd (omega (arith, some))
asks_lines (suc (suc (suc (suc (suc zero))))) some few = absurd (omega (arith, some))
asks_lines (suc (suc (suc (suc (suc (suc zero)))))) some few =
    record { command = refl; unlisted = refl; plain = (refl, refl); bare = λ db. refl }
asks_lines (suc (suc (suc (suc (suc (suc (suc made))))))) some few = absurd (omega (arith, few))

asks_terms : (made : ℕ) → 6 ≤ made → made ≤ 6 → IsListed Terms made
unfolding understood everything
asks_terms zero some few = absurd (omega (arith, some))
asks_terms (suc zero) some few = absurd (omega (arith, some))
asks_terms (suc (suc zero)) some few = absurd (omega (arith, some))
asks_terms (suc (suc (suc zero))) some few = absurd (omega (arith, some))
asks_terms (suc (suc (suc (suc zero)))) some few = absurd (omega (arith, some))
asks_terms (suc (suc (suc (suc (suc zero))))) some few = absurd (omega (arith, some))
asks_terms (suc (suc (suc (suc (suc (suc zero)))))) some few =
    record { command = refl; unlisted = refl; plain = (refl, refl); bare = λ db. refl }
asks_terms (suc (suc (suc (suc (suc (suc (suc made))))))) some few = absurd (omega (arith, few))

asks_metaids : (made : ℕ) → 1 ≤ made → made ≤ 6 → IsListed MetaIds made
unfolding understood everything
asks_metaids zero some few = absurd (omega (arith, some))
asks_metaids (suc zero) some few =
    record { command = refl; unlisted = refl; plain = (refl, refl); bare = λ db. refl }
asks_metaids (suc (suc zero)) some few =
    record { command = refl; unlisted = refl; plain = (refl, refl); bare = λ db. refl }
asks_metaids (suc (suc (suc zero))) some few =
    record { command = refl; unlisted = refl; plain = (refl, refl); bare = λ db. refl }
asks_metaids (suc (suc (suc (suc zero)))) some few =
    record { command = refl; unlisted = refl; plain = (refl, refl); bare = λ db. refl }
asks_metaids (suc (suc (suc (suc (suc zero))))) some few =
    record { command = refl; unlisted = refl; plain = (refl, refl); bare = λ db. refl }
asks_metaids (suc (suc (suc (suc (suc (suc zero)))))) some few =
    record { command = refl; unlisted = refl; plain = (refl, refl); bare = λ db. refl }
asks_metaids (suc (suc (suc (suc (suc (suc (suc made))))))) some few = absurd (omega (arith, few))

asks_setupids : (made : ℕ) → 2 ≤ made → made ≤ 6 → IsListed SetupIds made
unfolding understood everything
asks_setupids zero some few = absurd (omega (arith, some))
asks_setupids (suc zero) some few = absurd (omega (arith, some))
asks_setupids (suc (suc zero)) some few =
    record { command = refl; unlisted = refl; plain = (refl, refl); bare = λ db. refl }
asks_setupids (suc (suc (suc zero))) some few =
    record { command = refl; unlisted = refl; plain = (refl, refl); bare = λ db. refl }
asks_setupids (suc (suc (suc (suc zero)))) some few =
    record { command = refl; unlisted = refl; plain = (refl, refl); bare = λ db. refl }
asks_setupids (suc (suc (suc (suc (suc zero))))) some few =
    record { command = refl; unlisted = refl; plain = (refl, refl); bare = λ db. refl }
asks_setupids (suc (suc (suc (suc (suc (suc zero)))))) some few =
    record { command = refl; unlisted = refl; plain = (refl, refl); bare = λ db. refl }
asks_setupids (suc (suc (suc (suc (suc (suc (suc made))))))) some few = absurd (omega (arith, few))

asks_postingids : (made : ℕ) → 3 ≤ made → made ≤ 6 → IsListed PostingIds made
unfolding understood everything
asks_postingids zero some few = absurd (omega (arith, some))
asks_postingids (suc zero) some few = absurd (omega (arith, some))
asks_postingids (suc (suc zero)) some few = absurd (omega (arith, some))
asks_postingids (suc (suc (suc zero))) some few =
    record { command = refl; unlisted = refl; plain = (refl, refl); bare = λ db. refl }
asks_postingids (suc (suc (suc (suc zero)))) some few =
    record { command = refl; unlisted = refl; plain = (refl, refl); bare = λ db. refl }
asks_postingids (suc (suc (suc (suc (suc zero))))) some few =
    record { command = refl; unlisted = refl; plain = (refl, refl); bare = λ db. refl }
asks_postingids (suc (suc (suc (suc (suc (suc zero)))))) some few =
    record { command = refl; unlisted = refl; plain = (refl, refl); bare = λ db. refl }
asks_postingids (suc (suc (suc (suc (suc (suc (suc made))))))) some few =
    absurd (omega (arith, few))

asks_lineids : (made : ℕ) → 5 ≤ made → made ≤ 6 → IsListed LineIds made
unfolding understood everything
asks_lineids zero some few = absurd (omega (arith, some))
asks_lineids (suc zero) some few = absurd (omega (arith, some))
asks_lineids (suc (suc zero)) some few = absurd (omega (arith, some))
asks_lineids (suc (suc (suc zero))) some few = absurd (omega (arith, some))
asks_lineids (suc (suc (suc (suc zero)))) some few = absurd (omega (arith, some))
asks_lineids (suc (suc (suc (suc (suc zero))))) some few =
    record { command = refl; unlisted = refl; plain = (refl, refl); bare = λ db. refl }
asks_lineids (suc (suc (suc (suc (suc (suc zero)))))) some few =
    record { command = refl; unlisted = refl; plain = (refl, refl); bare = λ db. refl }
asks_lineids (suc (suc (suc (suc (suc (suc (suc made))))))) some few = absurd (omega (arith, few))

asks_termids : (made : ℕ) → 6 ≤ made → made ≤ 6 → IsListed TermIds made
unfolding understood everything
asks_termids zero some few = absurd (omega (arith, some))
asks_termids (suc zero) some few = absurd (omega (arith, some))
asks_termids (suc (suc zero)) some few = absurd (omega (arith, some))
asks_termids (suc (suc (suc zero))) some few = absurd (omega (arith, some))
asks_termids (suc (suc (suc (suc zero)))) some few = absurd (omega (arith, some))
asks_termids (suc (suc (suc (suc (suc zero))))) some few = absurd (omega (arith, some))
asks_termids (suc (suc (suc (suc (suc (suc zero)))))) some few =
    record { command = refl; unlisted = refl; plain = (refl, refl); bare = λ db. refl }
asks_termids (suc (suc (suc (suc (suc (suc (suc made))))))) some few = absurd (omega (arith, few))

pub listed : (query : Query) (made : ℕ) → least_of query ≤ made → made ≤ 6 → IsListed query made
listed Metas = asks_metas
listed Setups = asks_setups
listed Postings = asks_postings
listed Spots = asks_spots
listed Lines = asks_lines
listed Terms = asks_terms
listed MetaIds = asks_metaids
listed SetupIds = asks_setupids
listed PostingIds = asks_postingids
listed LineIds = asks_lineids
listed TermIds = asks_termids

shows_is : (query : Query) → shows_of (ordered_by_rowid (tree_of query) (columns_of query))
    ≡ shown_by query
shows_is Metas = refl
shows_is Setups = refl
shows_is Postings = refl
shows_is Spots = refl
shows_is Lines = refl
shows_is Terms = refl
shows_is MetaIds = refl
shows_is SetupIds = refl
shows_is PostingIds = refl
shows_is LineIds = refl
shows_is TermIds = refl

-- the rows that are read are those that the table shows
pub rows_read : (query : Query) (made : ℕ) → least_of query ≤ made → made ≤ 6
    → (old new : State) (r : Result (Vec Row Global) Error) → old.now.schema ≡ prefix made
    → IfOk r (λ rows. Shown (text_of query) [] old new rows.items)
    → IfOk r (λ rows. IsPermutation (shown_in query old.now.trees) rows.items)
rows_read query made some few old new (Err e) has h = tt
rows_read query made some few old new (Ok rows) has h =
    subst (λ show. IsPermutation (map show (old.now.trees (tree_of query))) rows.items)
    (shows_is query)
    (lists (prefix made) (text_of query) (tree_of query) (columns_of query) (names_of query)
    (listed query made some few) old new (Ok rows) has h)

unsorted : (query : Query) → shows_id query ≡ false → (rows : List Row) → IsInOrder query rows
unsorted query none rows is = absurd (let e : true ≡ false = sym is ∙ none in cc)

pub rows_ordered : (query : Query) (made : ℕ) → least_of query ≤ made → made ≤ 6
    → (old new : State) (r : Result (Vec Row Global) Error) → old.now.schema ≡ prefix made
    → IfOk r (λ rows. Shown (text_of query) [] old new rows.items)
    → IfOk r (λ rows. IsInOrder query rows.items)
rows_ordered query made some few old new (Err e) has h = tt
rows_ordered Metas made some few old new (Ok rows) has h = unsorted Metas refl rows.items
rows_ordered Setups made some few old new (Ok rows) has h =
    λ _. lists_sorted (prefix made) (text_of Setups) (tree_of Setups) _ (names_of Setups)
    (listed Setups made some few) old new (Ok rows) has h
rows_ordered Postings made some few old new (Ok rows) has h =
    λ _. lists_sorted (prefix made) (text_of Postings) (tree_of Postings) _ (names_of Postings)
    (listed Postings made some few) old new (Ok rows) has h
rows_ordered Spots made some few old new (Ok rows) has h = unsorted Spots refl rows.items
rows_ordered Lines made some few old new (Ok rows) has h = unsorted Lines refl rows.items
rows_ordered Terms made some few old new (Ok rows) has h = unsorted Terms refl rows.items
rows_ordered MetaIds made some few old new (Ok rows) has h =
    λ _. lists_sorted (prefix made) (text_of MetaIds) (tree_of MetaIds) _ (names_of MetaIds)
    (listed MetaIds made some few) old new (Ok rows) has h
rows_ordered SetupIds made some few old new (Ok rows) has h =
    λ _. lists_sorted (prefix made) (text_of SetupIds) (tree_of SetupIds) _ (names_of SetupIds)
    (listed SetupIds made some few) old new (Ok rows) has h
rows_ordered PostingIds made some few old new (Ok rows) has h =
    λ _. lists_sorted (prefix made) (text_of PostingIds) (tree_of PostingIds) _
    (names_of PostingIds) (listed PostingIds made some few) old new (Ok rows) has h
rows_ordered LineIds made some few old new (Ok rows) has h =
    λ _. lists_sorted (prefix made) (text_of LineIds) (tree_of LineIds) _ (names_of LineIds)
    (listed LineIds made some few) old new (Ok rows) has h
rows_ordered TermIds made some few old new (Ok rows) has h =
    λ _. lists_sorted (prefix made) (text_of TermIds) (tree_of TermIds) _ (names_of TermIds)
    (listed TermIds made some few) old new (Ok rows) has h

pub same_of : (old new : State) → IsUnchanged old new → IsSame old new
same_of old new h = record {
  was_open = h.0.was_open;
  is_open = h.0.is_open;
  now = h.0.now_is;
  committed = h.0.committed_is;
}

pub rows_same : (query : Query) (made : ℕ) → least_of query ≤ made → made ≤ 6
    → (old new : State) (r : Result (Vec Row Global) Error) → old.now.schema ≡ prefix made
    → IfOk r (λ rows. Shown (text_of query) [] old new rows.items) → OnOk r (IsSame old new)
rows_same query made some few old new (Err e) has h = tt
rows_same query made some few old new (Ok rows) has h =
    same_of old new (lists_same (prefix made) (text_of query) (tree_of query) (columns_of query)
    (names_of query) (listed query made some few) old new (Ok rows) has h)
