use Rattle.posting_core.proofs.Placements.{put_has_place}
use Rattle.posting_core.proofs.laws.what_was_put_has_a_place.Goals as goal

pub returns : goal.returns
returns c = λ x put. put_has_place c.args.ledger.now.museum c.args.ledger.now.depth
    c.args.ledger.now.posted x c.is_lawful.ensures put
