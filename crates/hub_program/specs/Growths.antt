-- Defines what the command that adds to a setup does to a store.
use Rattle.std.specs.Prelude.{ℕ, ◌≡◌, ◌&&◌, Bool, true, false, List, length, not}
use Rattle.nest_core.specs.Museum.{Museum}
use Rattle.nest_core.specs.SetupGrowing.{grown, with_file}
use Rattle.posting_core.specs.Book.{Book}
use Rattle.register_sql.specs.Growing.{IsGrown}
use Rattle.register_store.specs.Holdings.{Holding, Comes}
use Rattle.register_store.specs.StoredRows.{AreSame}
use Rattle.reports.specs.GrowthTexts.{has_changes}
use Rattle.sqlite_disk.specs.declared.Disk.{Ghosts}
use Rattle.hub_program.specs.Judging.{IsJudged}
use Rattle.hub_program.specs.Places.{IsKeptAlone}

-- The setup of a record to which the rows of a file were added.
abbrev pub next_setup : Book → List ℕ → Museum
next_setup L bytes = grown (length L.posted) L.museum (with_file L.museum bytes)

-- The file adds something to the setup of the record, and it is to be written to the store.
abbrev pub is_to_grow : Bool → Book → List ℕ → Bool
is_to_grow check L bytes = not check && has_changes L.museum (with_file L.museum bytes)

-- What a store holds afterwards: its rows with the new setup, if this is to be written; otherwise
-- its rows as they were.
abbrev pub GrowsIf : Bool → Book → List ℕ → Holding → Holding → Type 0
GrowsIf true L bytes old new = Comes old new (IsGrown (next_setup L bytes))
GrowsIf false L bytes old new = Comes old new AreSame

abbrev pub GrowsTo : Bool → Book → List ℕ → Holding → Holding → Type 0
GrowsTo check L bytes = GrowsIf (is_to_grow check L bytes) L bytes

-- The record was judged, the rows of the file were added to its setup, and it was kept. The setup
-- was read first, and the record judged under it.
pub record IsGrownAndKept {R D : Type 0} (holding : R → Holding) (g : Ghosts D) (check : Bool)
    (bytes : List ℕ) (before : R) (L : Book) : Type 0 where
  pub read : R
  pub same : Comes (holding before) (holding read) AreSame
  pub opened : R
  pub judged : IsJudged holding L.museum read opened L
  pub after : R
  pub grows : GrowsTo check L bytes (holding opened) (holding after)
  pub kept : IsKeptAlone g (holding after)
