-- What a store holds after rows were added to its setup.
use Rattle.std.proofs.Common.{◌≡◌, ℕ, List, Bool, true, false, subst, sym}
use Rattle.nest_core.specs.SetupGrowing.{with_file}
use Rattle.posting_core.specs.Book.{Book}
use Rattle.register_sql.specs.Growing.{IsGrown}
use Rattle.register_sql.proofs.Binds.{same_all}
use Rattle.register_store.specs.Holdings.{Holding, Comes}
use Rattle.register_store.specs.StoredRows.{AreSame}
use Rattle.reports.specs.GrowthTexts.{has_changes}
use Rattle.hub_program.specs.Growths.{GrowsIf, GrowsTo, next_setup}

same_store : (store : Holding) → Comes store store AreSame
same_store store = record {
  quiet = λ q. q;
  some = λ q empty. empty;
  from = λ q d held. (d, held, same_all d);
}

pub nothing_added : (check : Bool) (L : Book) (bytes : List ℕ) (store : Holding)
    → has_changes L.museum (with_file L.museum bytes) ≡ false → GrowsTo check L bytes store store
nothing_added true L bytes store none = same_store store
nothing_added false L bytes store none =
    subst (λ b. GrowsIf b L bytes store store) (sym none) (same_store store)

pub only_checked : (check : Bool) (L : Book) (bytes : List ℕ) (store : Holding) → check ≡ true
    → GrowsTo check L bytes store store
only_checked check L bytes store on =
    subst (λ b. GrowsTo b L bytes store store) (sym on) (same_store store)

pub rows_added : (check : Bool) (L : Book) (bytes : List ℕ) (old new : Holding) → check ≡ false
    → has_changes L.museum (with_file L.museum bytes) ≡ true
    → Comes old new (IsGrown (next_setup L bytes)) → GrowsTo check L bytes old new
rows_added check L bytes old new off some comes =
    subst (λ b. GrowsTo b L bytes old new) (sym off)
    (subst (λ b. GrowsIf b L bytes old new) (sym some) comes)
