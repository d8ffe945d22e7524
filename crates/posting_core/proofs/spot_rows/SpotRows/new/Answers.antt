use Rattle.posting_core.proofs.SpotRows.{new_rows}
use Rattle.posting_core.proofs.spot_rows.SpotRows.new.Goals as goal

pub returns : goal.returns
returns c = new_rows c.args.things c.new-spots.ensures.items
    (c.in_ok-last.ensures.items_if_clones_equal (λ y same. same))
