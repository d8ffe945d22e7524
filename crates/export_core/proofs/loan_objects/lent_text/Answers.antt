use Rattle.export_core.proofs.loan_objects.lent_text.Goals as goal

pub returns : goal.returns
returns c =
    let f = rw (c.in_ok-loan.ensures, c.in_ok-object.ensures) at c.in_ok-format.ensures.ok in
    f
