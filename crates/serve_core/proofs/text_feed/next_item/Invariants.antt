use Rattle.std.proofs.Common.{◌≡◌, ◌-◌, length}
use Rattle.serve_core.specs.Feeds.{items_left, IsPlaceIn}
use Rattle.serve_core.proofs.text_feed.next_item.Given as goal

abbrev pub invariant-loop-place : goal.invariant-loop-place
invariant-loop-place l = record {
  place : IsPlaceIn l.bytes l.place;
  same : items_left l.bytes l.place ≡ items_left l.bytes l.fn.place;
}

abbrev pub decreases-loop-place : goal.decreases-loop-place
decreases-loop-place l = length l.bytes - l.place.at
