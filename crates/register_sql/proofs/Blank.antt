-- A new store may be a file of one page, without a table.
use Rattle.std.proofs.Common.{◌≡◌, ℕ, List, [], Some, true, length, take, inl, inr, refl, sym, ap}
use Rattle.std.proofs.Common.{subst, ◌∙◌, arith, ne_eqb, take_all}
use Rattle.std.proofs.Math.Path.{fun_ext}
use Rattle.std.proofs.lemmas.Bool.{cases_eq}
use Rattle.sqlite.proofs.ListingLemmas.{empty_is_sound}
use Rattle.sqlite.specs.Files.{HoldsDatabase, IsEmpty}
use Rattle.sqlite.specs.Tree.{Trees}
use Rattle.sqlite_pool.specs.Header.{first_page}
use Rattle.sqlite_format.proofs.PageLemmas.{empty_page}
use Rattle.sqlite_format.specs.Page.{cell_count, content_start}
use Rattle.sqlite_format.specs.declared.kind.Tree.TheVariants.{Table}
use Rattle.sqlite_pool.proofs.OpenLemmas.{first_new}
use Rattle.sqlite_pool.proofs.ResealLemmas.{adopts_of}
use Rattle.sqlite_pool.specs.File.{in_use, version_in}
use Rattle.sqlite_pool.specs.Opening.{IsFirstPage}
use Rattle.sqlite_pool.specs.Stored.{Recovers, AreSealed, sealed, trimmed}
use Rattle.sqlite_store.proofs.BuildLemmas.{new_is_empty}
use Rattle.sqlite_store.proofs.ListingLemmas.{past_version, named_tree}
use Rattle.sqlite_store.specs.Db.{trees_in}
use Rattle.sqlite_store.specs.Listed.{catalog_rows}
use Rattle.sqlite_store.specs.Listing.{all_trees, file_trees, IsOurs}
use Rattle.sqlite_wal.proofs.CreateLemmas.{pages_of_one}
use Rattle.sqlite_wal.specs.Recovery.{IsIgnored, AreWhole, only_page}
use Rattle.sqlite_wal.specs.Recovery as raw
use Rattle.register_store.specs.Holdings.{Holding, Has}
use Rattle.register_sql.specs.Runs.{IsFoundIn}
use Rattle.register_sql.specs.Stores.{no_rows}
use Rattle.register_sql.proofs.Runs.{empty_rows}

-- a page as `sqlite_pool` lays out the first one, 512 bytes long, and a log without a header
module _ (page header log : List ℕ) (len : length page ≡ 512) (first : IsFirstPage page header)
    (ignored : IsIgnored log) where
  as_stored : raw.Recovers 512 (record { log = log; db = page }) (only_page page)
  as_stored = record {
    frames = 0;
    replays = inl (ignored, refl);
    present = omega (arith, len);
    gives = subst (λ (n : ℕ). raw.pages_after n log page 0 ≡ only_page page) len
        (pages_of_one page log (omega (arith, len)));
  }

  only_is : (n : ℕ) (bytes : List ℕ) → only_page page n ≡ Some bytes → page ≡ bytes
  only_is n bytes is = elim (cases_eq n 1) [
    | inl e ↦ (let here = rw e at is in cc)
    | inr other ↦ absurd
        (let none = rw (ne_eqb n 1 other) at is in cc)
  ]

  as_whole : AreWhole 512 (only_page page)
  as_whole = record {
    first = refl;
    sized = λ n bytes is. subst (λ (b : List ℕ). length b ≡ 512)
        (only_is n bytes is) len;
  }

  all_taken : take 512 page ≡ page
  all_taken = take_all 512 page (omega (arith, len))

  no_sum : sealed page ≡ page
  unfolding sealed
  no_sum = rw len refl

  as_sealed : AreSealed 512 (only_page page)
  as_sealed n bytes is = subst (λ (b : List ℕ). b ≡ sealed (take 512 b)) (only_is n bytes is)
      (sym (ap sealed all_taken ∙ no_sum))

  as_shown : trimmed 512 (only_page page) ≡ only_page page
  unfolding trimmed
  as_shown = fun_ext λ n. elim (cases_eq n 1)
      [ inl e ↦ rw e (ap Some all_taken) | inr other ↦ rw (ne_eqb n 1 other) refl ]

  as_used : Recovers 512 (record { log = log; db = page }) (only_page page)
  as_used = record {
    stored = only_page page;
    found = as_stored;
    whole = as_whole;
    sealed = as_sealed;
    shows = as_shown;
    present = omega (arith, len);
  }

  pub blank_holds : (db : Trees) × HoldsDatabase (record { log = log; db = page }) db × IsEmpty db
  unfolding trees_in
  blank_holds =
      let pages = only_page page in
      let empty = new_is_empty 512 pages as_whole
      (first_new page header 512 len (omega arith) (omega arith) first) in
      let ours : IsOurs 512 true [] pages =
      record {
        file = empty.0;
        numbered = λ _. record {
          listed = empty.1;
          spaced = refl;
          ordered = refl;
        };
      } in
      let db = file_trees 512 [] pages in
      let unlisted = catalog_rows 512 [] (in_use 512 pages) in (
        db,
        (
          512,
          (omega arith, omega arith, refl, refl),
          record {
            pages = pages;
            wanted = [];
            schema = _;
            found = adopts_of 512 _ pages as_used;
            ours = ours;
            reads = refl;
            sound = empty_is_sound db unlisted;
          },
        ),
        (
          λ tree low. past_version tree low (all_trees 512 [] (in_use 512 pages)) (version_in pages)
              ∙ named_tree tree low 512 [] (in_use 512 pages),
          unlisted,
        ),
      )

  -- a store opened on these files has no rows
  pub blank_has : (store : Holding) → IsFoundIn (record { log = log; db = page }) store
      → Has store (λ c. c ≡ no_rows)
  blank_has store found = empty_rows blank_holds.0 store blank_holds.2
      (found.held blank_holds.0 blank_holds.1)

-- the page that `sqlite_pool` lays out for a new file, at this size
pub new_page : List ℕ
new_page = first_page 512

new_long : length new_page ≡ 512
unfolding new_page first_page
new_long = refl

new_first : IsFirstPage new_page (take 100 new_page)
unfolding new_page first_page cell_count content_start
new_first =
    let leaf = empty_page (record { tree = Table; leaf = true }) new_page 100
    (omega arith, omega arith) (omega arith) refl refl refl refl refl in
    record {
      exact = refl;
      begins = refl;
      valid = (
        record { magic = refl; size = refl; versions = inr refl },
        record {
          fractions = refl;
          format = inl refl;
          encoding = inl refl;
          no_vacuum = (refl, refl);
          counted = refl;
        },
      );
      pages = refl;
      first = refl;
      free = refl;
      leaf = leaf.0;
      empty = leaf.1;
    }

-- a store whose files were that page and a log without a header, as when the log is missing
pub new_page_has : (log : List ℕ) → IsIgnored log → (store : Holding)
    → IsFoundIn (record { log = log; db = new_page }) store → Has store (λ c. c ≡ no_rows)
new_page_has log ignored = blank_has new_page (take 100 new_page) log new_long new_first ignored
