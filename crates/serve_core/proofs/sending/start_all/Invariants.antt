use Rattle.std.proofs.Common.{◌≡◌, ◌+◌, ◌≤◌, ◌++◌, vec_len, map}
use Rattle.serve_core.proofs.sending.start_all.Given as goal

abbrev pub invariant-loop-feeds : goal.invariant-loop-feeds
invariant-loop-feeds g l = record {
  count : vec_len l.lanes ≡ vec_len l.feeds;
  lanes : map (λ h. h.promise.lane.value) l.children.items ++ l.lanes.items ≡ l.fn.lanes.items;
  children_room : vec_len l.children + vec_len l.lanes ≤ l.children.cap;
  marks_room : vec_len l.marks + vec_len l.lanes ≤ l.marks.cap;
  feeds : map (λ h. h.promise.feed.value) l.children.items ++ l.feeds.items ≡ l.fn.feeds.items;
}

abbrev pub decreases-loop-feeds : goal.decreases-loop-feeds
decreases-loop-feeds g l = vec_len l.lanes
