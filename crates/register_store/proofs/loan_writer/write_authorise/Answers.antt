use Rattle.register_store.proofs.Tokens.{◌then◌}
use Rattle.register_store.proofs.loan_writer.write_authorise.Goals as goal

pub returns : goal.returns
returns c =
    c.in_ok-open_object.ensures then c.in_ok-write_name.ensures then c.in_ok-write_text.ensures
    then c.in_ok-write_loan.ensures then c.in_ok-close_object.ensures
