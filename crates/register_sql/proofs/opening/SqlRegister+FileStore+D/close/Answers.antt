use Rattle.std.proofs.Common.{subst}
use Rattle.sqlite.specs.Closing as kit
use Rattle.sqlite.specs.Files.{file_state, IsClosed}
use Rattle.register_sql.specs.Runs.{HasIts}
use Rattle.register_sql.specs.Stores.{in_store}
use Rattle.register_sql.proofs.Runs.{rows_alone}
use Rattle.register_sql.proofs.opening.SqlRegister+FileStore+D.close.Goals as goal

pub returns-in-Ok-clause-copied : goal.returns-in-Ok-clause-copied
returns-in-Ok-clause-copied g c clean =
    let conn = c.args.self.conn in
    let copied : kit.IsCopied conn c.in-Ok.files =
    subst (λ h. kit.IsCopied h c.in-Ok.files) c.into_connection.ensures.same
    (c.in-Ok.ensures.copied clean) in
    let its : HasIts (in_store (file_state conn)) (file_state conn).committed.trees =
    c.into_connection.ensures.shown copied.was_open in
    record {
      was_quiet = copied.was_clean;
      seen = rows_alone _ _ _ its copied.seen;
      left = λ image left. rows_alone image _ _ its (copied.left image left);
    }

pub returns-in-Ok-clause-emptied : goal.returns-in-Ok-clause-emptied
returns-in-Ok-clause-emptied g c =
    let closed = c.in-Ok.ensures.ok in (
      closed.0,
      closed.1,
      subst (λ h. IsClosed h closed.0) c.into_connection.ensures.same
          closed.2,
      closed.3,
    )
