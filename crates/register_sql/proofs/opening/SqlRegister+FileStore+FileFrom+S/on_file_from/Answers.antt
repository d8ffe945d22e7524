use Rattle.std.proofs.Common.{sym, subst}
use Rattle.sqlite.specs.Files.{file_state}
use Rattle.sqlite.specs.State.{HasCleanDisk}
use Rattle.sqlite.specs.WalFiles.{image_at}
use Rattle.register_sql.specs.Runs.{IsFoundIn}
use Rattle.register_sql.specs.Stores.{in_store}
use Rattle.register_sql.proofs.Runs.{found_in}
use Rattle.register_sql.proofs.opening.SqlRegister+FileStore+FileFrom+S.on_file_from.Goals as goal

pub returns-in-Ok-clause-found : goal.returns-in-Ok-clause-found
returns-in-Ok-clause-found g c =
    subst (λ h. HasCleanDisk (file_state h)
    → IsFoundIn (image_at g.S.Start) (in_store (file_state h))) (sym c.adopt.ensures.same)
    (λ clean. found_in (image_at g.S.Start) (file_state c.in-Ok.conn) (c.in-Ok.ensures.found clean)
    (c.adopt.ensures.shown clean))
