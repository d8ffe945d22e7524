use Rattle.std.proofs.Common.{◌≡◌, length, ap, subst, vec_len, arith, rules}
use Rattle.std.proofs.lemmas.List.{length-map}
use Rattle.serve_core.specs.Sending.{HasRoom}
use Rattle.serve_core.proofs.serving.prepare.Goals as goal

pub returns-clause-room : goal.returns-clause-room
returns-clause-room g c =
    let started = c.in_ok-started.started in
    let feeds = ap length (c.in_ok-started.ensures.feeds (grind (arith, c.if-not-started.false))) in
    let count : c.args.stations ≡ vec_len started.children =
    omega (
      arith,
      feeds,
      length-map started.children.items (λ h. h.promise.feed.value),
      started.children.ok.0,
      c.args.feeds.ok.0,
      c.requires,
    ) in
    subst (λ n. HasRoom n c.in_ok-room.room) count c.in_ok-room.ensures

pub returns-clause-feeds : goal.returns-clause-feeds
returns-clause-feeds g c = search rules
