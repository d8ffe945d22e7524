use Rattle.register_store.proofs.Tokens.{◌then◌}
use Rattle.register_store.proofs.message_writer.write_pack.Goals as goal

pub returns : goal.returns
returns c =
    c.in_ok-open_object.ensures then c.in_ok-write_thing.ensures then c.in_ok-write_day.ensures
    then c.in_ok-write_text.ensures then c.in_ok-write_thing-2.ensures
    then c.in_ok-close_object.ensures
