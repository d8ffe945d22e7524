-- The rows of a store opened on files, and the files after a store is closed.
use Rattle.std.proofs.Common.{◌≡◌, inl, inr, ℕ, ◌<◌, List, Option, Some, unwrap_or, length, take}
use Rattle.std.proofs.Common.{slice_index, get_or-take, length-take, ◌≤◌, false, true, IsTrue, sym}
use Rattle.std.proofs.Common.{ap, subst, ◌∙◌, arith, []}
use Rattle.std.proofs.Math.Logic.{∥∥₁_elim, ∥∥₁_map}
use Rattle.sqlite.specs.Files.{HoldsDatabase, AreFoundIn, IsNothing, IsEmpty}
use Rattle.sqlite.specs.Recovery.{Image}
use Rattle.sqlite.specs.Closing as kit
use Rattle.sqlite.specs.Start.{FindsIn}
use Rattle.sqlite.specs.State.{State}
use Rattle.sqlite.specs.Tree.{Trees}
use Rattle.register_store.specs.Holdings.{Holding, Has}
use Rattle.register_store.specs.StoredRows.{Content}
use Rattle.register_sql.specs.Rows.{IsStored}
use Rattle.register_sql.specs.Runs.{HasIts, IsFoundIn, HoldsRowsOf, HoldsAlone, AreAlike, Lasts}
use Rattle.register_sql.specs.Stores.{in_store, no_rows}
use Rattle.register_sql.specs.Tables.{prefix}
use Rattle.register_sql.proofs.Binds.{part_of}
use Rattle.register_sql.proofs.Holds.{Laws, no_two, no_row, without_rows, none_held}
use Rattle.sqlite.proofs.ListingLemmas.{empty_is_sound}
use Rattle.sqlite_catalog.specs.Listing.{IsSound}
use Rattle.sqlite_pages.specs.PageMap.{PageMap}
use Rattle.sqlite_pool.proofs.ProbeLemmas.{first_byte}
use Rattle.sqlite_pool.specs.File.{header_in}
use Rattle.sqlite_pool.specs.Header.{first_page}
use Rattle.sqlite_pool.specs.Stored.{Adopts, sealed, stored_size, used_size}
use Rattle.sqlite_pool.specs.StoredLaws.{trimmed_some}
use Rattle.sqlite_store.specs.Listing.{IsOurs}
use Rattle.sqlite_store.specs.declared.catalog.Wanted.{Wanted}
use Rattle.sqlite_wal.proofs.AppendLemmas.{some_value}
use Rattle.sqlite_wal.proofs.CreateLemmas.{begun_is_not_blank}

-- an open store may hold the committed rows, and no others
pub shown_its : (s : State) → Laws s → IsTrue s.is_open → HasIts (in_store s) s.committed.trees
shown_its s laws up = record {
  all = λ c stored. (s.committed.trees, laws.stays up, stored);
  only = λ c held. subst (λ db. IsStored db c) (laws.settled held.0 up held.1) held.2;
}

-- a copied database has the store's rows
pub rows_alone : (image : Image) (db : Trees) (store : Holding) → HasIts store db
    → kit.HoldsAlone image db → HoldsAlone image store
rows_alone image db store its held = record {
  both = ∥∥₁_map held.both (λ in_both. (db, in_both, its));
  alone = ∥∥₁_map held.alone (λ alone. (db, alone, its));
}

-- files that read as a database aren't those without one
reads_something : (size : ℕ) (image : Image) (pages : PageMap) (wanted : List Wanted)
    → Adopts size image pages → IsOurs size true wanted pages → IsNothing image → ⊥
reads_something size image pages wanted found ours nothing =
    let (page, is) = some_value (found.stored 1) found.whole.first in
    let used : pages 1 ≡ Some (take size page) =
    ap (λ (p : PageMap). p 1) (sym found.shows) ∙ trimmed_some size _ 1 page is in
    let head : header_in pages ≡ take 100 (take size page) =
    ap (λ (o : Option (List ℕ)). take 100 (unwrap_or o [])) used in
    let magic = ours.file.sound.header.0.magic in
    let long : length (take 16 (take 100 (take size page))) ≡ 16 =
    sym (ap (λ (b : List ℕ). length (take 16 b)) head) ∙ ap length magic in
    let large : 16 ≤ size = omega (
      arith,
      long,
      length-take 16 (take 100 (take size page)),
      length-take 100 (take size page),
      length-take size page,
    ) in
    let whole : 1 < stored_size size = omega (arith, large) in
    let byte : slice_index (header_in pages) 0 ≡ slice_index page 0 =
    ap (λ (b : List ℕ). slice_index b 0) head ∙ get_or-take 100 (take size page) 0 0
    (omega arith) ∙ get_or-take size page 0 0 (omega (arith, large)) in
    let gate : slice_index (header_in pages) 0 ≡ 83 =
    sym (get_or-take 16 (header_in pages) 0 0 (omega arith))
    ∙ ap (λ (b : List ℕ). slice_index b 0) magic in
    let first : slice_index page 0 ≡ 83 = sym byte ∙ gate in
    let never = λ (other : ℕ) (some : 0 < other). begun_is_not_blank (sealed (first_page other))
    page (stored_size size) image found.stored found.found is (found.whole.sized 1 page is)
    whole (first ∙ sym (first_byte other some))
    (λ none. let never = sym (first_byte other some) ∙ none in omega arith) in
    elim nothing [
      | inl plain ↦ never (used_size 4096 false) (omega arith) plain
      | inr summed ↦ never
          (used_size 4096 true) (omega arith) summed
    ]

found_empty : (image : Image) (db : Trees) → AreFoundIn image db → IsNothing image → IsEmpty db
found_empty image db (inl read) nothing =
    absurd (∥∥₁_elim read.4 no_two
    (λ ours. reads_something read.0 image read.1 read.2 read.3 ours nothing))
found_empty image db (inr new) nothing = new.1

-- a database with no object has no row of a store
pub empty_rows : (db : Trees) (store : Holding) → IsEmpty db → HasIts store db
    → Has store (λ c. c ≡ no_rows)
empty_rows db store empty its =
    let sound : IsSound (prefix 0) db = empty_is_sound db empty.1 in
    record {
      some = λ clean none. none no_rows
          (its.all no_rows (record {
            made = 0;
            few = omega arith;
            sound = sound;
            rows = none_held db;
          }));
      each = λ clean c held.
          let part = part_of 0 (omega arith) db sound c (its.only c held) in
          without_rows c (no_row _ _ part.setup) (no_row _ _ part.meta) (no_row _ _ part.postings)
          (no_row _ _ part.spots) (no_row _ _ part.lines) (no_row _ _ part.terms);
    }

-- the store is the one found in the files, if it has the committed rows
pub found_in : (image : Image) (s : State) → FindsIn image s → HasIts (in_store s) s.committed.trees
    → IsFoundIn image (in_store s)
found_in image s found its = record {
  held = λ db holds. subst (HasIts (in_store s)) (found.holds db holds) its;
  read = (s.committed.trees, found.reads, its);
  new = λ nothing. empty_rows s.committed.trees (in_store s)
      (found_empty image s.committed.trees found.reads nothing) its;
}

-- two stores of one database may hold the same rows
pub alike : (db : Trees) (old new : Holding) → HasIts old db → HasIts new db → AreAlike old new
alike db old new was is = record {
  none_lost = λ c held. is.all c (was.only c held);
  none_added = λ c held. was.all c (is.only c held);
}

-- a store that was closed, opened again
pub alike_again : (image : Image) (old new : Holding) → HoldsRowsOf image old → IsFoundIn image new
    → ∥ AreAlike old new ∥₁
alike_again image old new held found =
    ∥∥₁_map held (λ it. alike it.0 old new it.2 (found.held it.0 it.1))

-- a store that was not closed, opened again
pub lasts_again : (image : Image) (old new : Holding)
    → ∥ ((db : Trees) × HoldsDatabase image db × ((c : Content) → IsStored db c → old.holds c)) ∥₁
    → IsFoundIn image new → Lasts old new
lasts_again image old new left found c holds =
    ∥∥₁_map left (λ it. it.2 c ((found.held it.0 it.1).only c holds))
