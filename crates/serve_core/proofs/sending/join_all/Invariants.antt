use Rattle.std.proofs.Common.{◌≡◌, ◌+◌, ◌≤◌, length, take, drop, vec_len}
use Rattle.std.specs.List.{AllZip}
use Rattle.serve_core.specs.Sending.{Sends}
use Rattle.serve_core.proofs.sending.join_all.Given as goal

abbrev pub invariant-loop-children : goal.invariant-loop-children
invariant-loop-children g l =
    (l.children.items ≡ drop (length l.found.items) l.fn.children.items)
    × AllZip (λ h s. Sends h.promise.lane.value (g.F.Feed.items h.promise.feed.value) s)
    (take (length l.found.items) l.fn.children.items) l.found.items
    × (vec_len l.found + vec_len l.children ≤ l.found.cap)

abbrev pub decreases-loop-children : goal.decreases-loop-children
decreases-loop-children g l = vec_len l.children
