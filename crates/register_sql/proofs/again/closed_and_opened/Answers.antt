use Rattle.sqlite.specs.Files.{file_state}
use Rattle.sqlite.specs.WalFiles.{image_at}
use Rattle.register_sql.specs.Stores.{in_store}
use Rattle.register_sql.proofs.Runs.{alike_again}
use Rattle.register_sql.proofs.again.closed_and_opened.Goals as goal

pub returns-in-Ok-on_file_from : goal.returns-in-Ok-on_file_from
returns-in-Ok-on_file_from g c honest left clean =
    let image = image_at g.T.Start in
    let old = in_store (file_state c.args.register.conn) in
    let new = in_store (file_state c.in-Ok-on_file_from.again.conn) in
    alike_again image old new ((c.in-Ok.ensures.copied honest).left image left).both
    (c.in-Ok-on_file_from.ensures.found clean)
