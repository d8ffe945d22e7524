use Rattle.std.proofs.Common.{◌∙◌, arith, subst}
use Rattle.std.proofs.Math.Logic.{∥∥₁_map}
use Rattle.sqlite.proofs.Theorems.{opens_again}
use Rattle.sqlite.specs.Files.{file_state}
use Rattle.sqlite.specs.WalReads.{AreClean}
use Rattle.sqlite.specs.WalFiles.{outcomes}
use Rattle.sqlite_pool.proofs.StateLemmas.{clean_is, may_leave_is}
use Rattle.sqlite_store.specs.FileStore.{view}
use Rattle.sqlite_trees.proofs.Doubt.{no_doubt}
use Rattle.sqlite_trees.specs.View.{IsClean}
use Rattle.register_sql.specs.Runs.{IsLeft}
use Rattle.register_sql.specs.Stores.{in_store}
use Rattle.register_sql.proofs.opening.SqlRegister+FileStore+D.let_go.Goals as goal

pub returns : goal.returns
returns g c honest =
    let last = c.into_store.result in
    let sure_now = subst (λ p. AreClean g.D.Disk p.0 p.1) c.close.ensures honest in
    let clean : IsClean (view last) = no_doubt _ (clean_is last.pool ∙ sure_now) in
    subst (λ h. IsLeft g.D.Disk (in_store (file_state h)) c.close.result)
    c.into_connection.ensures.same
    (record {
      was_quiet = omega (arith, c.into_store.ensures.quiet.clean, clean);
      left = λ image left. ∥∥₁_map (opens_again last (c.into_store.ensures.numbered clean)
          (c.into_store.ensures.sound clean) image
          (may_leave_is last.pool image sure_now
          (subst (λ p. outcomes g.D.Disk p.0 p.1 image) c.close.ensures left)))
          (λ it. (
            it.0,
            it.2,
            λ k stored.
                (it.0, c.into_store.ensures.quiet.outcomes it.0 it.1, stored),
          ));
    })
