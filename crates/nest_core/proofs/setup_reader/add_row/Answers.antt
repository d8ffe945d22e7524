use Rattle.std.proofs.Common.{◌≡◌, OnErr, subst}
use Rattle.csv.specs.Records.{fields_of}
use Rattle.nest_core.specs.Museum.{Museum}
use Rattle.nest_core.proofs.Growing.{can_be_listed}
use Rattle.nest_core.proofs.setup_reader.add_row.Goals as goal

pub returns-in-Some-clause-gives_up : goal.returns-in-Some-clause-gives_up
returns-in-Some-clause-gives_up c =
    let S : Museum = c.args.setup.now in
    let T : Museum = c.add.new.self in
    λ down. can_be_listed S T c.args.number (fields_of c.args.row.now) c.in-Some.item
    c.in_ok-item.field-0 c.in_ok-item.ensures.ok.0 c.in_ok-item.ensures.ok.1 c.in-Some.is
    (c.add.ensures.gives_up down) (subst (λ r. OnErr r (T ≡ S)) down c.add.ensures.unchanged)
    c.in_ok-item.ensures.skips
