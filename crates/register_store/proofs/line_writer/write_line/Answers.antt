use Rattle.register_store.proofs.Tokens.{◌then◌}
use Rattle.register_store.proofs.line_writer.write_line.Goals as goal

pub returns-clause-tokens : goal.returns-clause-tokens
returns-clause-tokens c =
    c.in_ok-write_head.ensures then c.in_ok-write_message.ensures.tokens
    then c.in_ok-write_end.ensures
