use Rattle.std.proofs.Common.{ap, length, replicate, ◌∙◌}
use Rattle.nest_core.specs.Museum.{Museum}
use Rattle.page_core.proofs.PlaceCounts.{counts_first}
use Rattle.page_core.proofs.counts.objects_at_places.Goals as goal

pub loop-thing-init : goal.loop-thing-init
loop-thing-init c =
    let many = c.places.ensures.count ∙ ap (λ (S : Museum). length S.places) c.setup.ensures in
    c.in_ok-counts.ensures.items_if_clones_equal (λ y same. same)
    ∙ (ap (λ n. replicate n 0) many ∙ counts_first c.args.ledger.now)
