use Rattle.register_store.proofs.Tokens.{◌then◌}
use Rattle.register_store.proofs.loan_writer.write_receive.Goals as goal

pub returns : goal.returns
returns c =
    c.in_ok-open_object.ensures then c.in_ok-write_day.ensures then c.in_ok-write_text.ensures
    then c.in_ok-write_loan.ensures then c.in_ok-write_place.ensures
    then c.in_ok-write_thing.ensures then c.in_ok-close_object.ensures
