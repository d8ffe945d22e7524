use Rattle.posting_core.specs.declared.entry.NewSpot.{NewSpot}
use Rattle.std.proofs.Common.{ℕ, List, ◌++◌, sym, ap, ◌∙◌}
use Rattle.std.specs.List.{flat_map, range_with_len}
use Rattle.posting_core.specs.Book.{spots_in}
use Rattle.register_store.specs.StoredRows.{spots_of_thing}
use Rattle.register_store.proofs.Lists.{flat_next}
use Rattle.register_store.proofs.ledger_rows.spot_rows.Goals as goal

pub loop-thing-preserved : goal.loop-thing-preserved
loop-thing-preserved c =
    let row : ℕ → List NewSpot = λ x. spots_of_thing x 1 (spots_in c.args.ledger.now x) in
    c.in_ok-push_spots.ensures ∙ ap
    (λ l. l ++ spots_of_thing c.loop-thing.thing 1 c.deref.result.now) c.loop-thing.invariant
    ∙ ap (λ l. flat_map row (range_with_len 0 c.loop-thing.thing) ++ spots_of_thing
    c.loop-thing.thing 1 l) (c.deref.ensures.value ∙ c.in_ok-spots.ensures.spots
    ∙ c.spots.ensures.spots)
    ∙ sym (flat_next row c.loop-thing.thing)
