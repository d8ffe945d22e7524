use Rattle.sqlite.specs.Files.{file_state}
use Rattle.sqlite.specs.WalFiles.{image_at}
use Rattle.register_sql.specs.Stores.{in_store}
use Rattle.register_sql.proofs.Runs.{lasts_again}
use Rattle.register_sql.proofs.again.left_and_opened.Goals as goal

pub returns-in-Ok : goal.returns-in-Ok
returns-in-Ok g c honest left clean =
    let image = image_at g.T.Start in
    lasts_again image (in_store (file_state c.args.register.conn))
    (in_store (file_state c.in-Ok.again.conn)) ((c.let_go-files.ensures honest).left image left)
    (c.in-Ok.ensures.found clean)
