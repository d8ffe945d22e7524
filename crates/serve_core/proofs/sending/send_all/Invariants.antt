use Rattle.std.proofs.Common.{◌≡◌, ◌++◌}
use Rattle.serve_core.specs.Lanes.{sent_items, SameLane}
use Rattle.serve_core.proofs.sending.send_all.Given as goal

abbrev pub invariant-loop : goal.invariant-loop
invariant-loop g l =
    (goal.iterator-loop g).can_next l.iterator' × (goal.iterator-loop g).is_finite l.iterator'
    × SameLane l.fn.lane l.lane × (sent_items l.lane ++ g.F.Feed.items l.feed ≡ sent_items l.fn.lane
    ++ g.F.Feed.items l.fn.feed)
