use Rattle.register_store.proofs.Bodies.{reads_back}
use Rattle.register_store.proofs.message_writer.write_message.Goals as goal

pub returns-clause-reads_back : goal.returns-clause-reads_back
returns-clause-reads_back c = reads_back c.args.message.now c.message_is_spelled.ensures
