use Rattle.std.proofs.Common.{◌≡◌, ◌+◌, ◌≤◌, length, take, drop, vec_len}
use Rattle.std.specs.List.{AllZip}
use Rattle.serve_core.specs.Sending.{IsEndOfSent}
use Rattle.serve_core.proofs.ending.end_all.Given as goal

abbrev pub invariant-loop-found : goal.invariant-loop-found
invariant-loop-found l = record {
  left : l.found.items ≡ drop (length l.ends.items) l.fn.found.items;
  ends : AllZip IsEndOfSent (take (length l.ends.items) l.fn.found.items) l.ends.items;
  room : vec_len l.ends + vec_len l.found ≤ l.ends.cap;
  count : vec_len l.ends + vec_len l.found ≡ vec_len l.fn.found;
}

abbrev pub decreases-loop-found : goal.decreases-loop-found
decreases-loop-found l = vec_len l.found
