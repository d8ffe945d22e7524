use Rattle.std.proofs.Common.{◌≡◌, ◌<◌, suc, length, drop, ap, sym, ◌∙◌, arith}
use Rattle.std.proofs.lemmas.Bool.Decides.{nat_tests}
use Rattle.serve_core.specs.Sending.{Sends}
use Rattle.serve_core.proofs.Takings.{joined_then, left_then, length_push}
use Rattle.serve_core.proofs.sending.join_all.Goals as goal

pub loop-children-preserved : goal.loop-children-preserved
loop-children-preserved g c =
    let inv = c.loop-children.invariant in
    let t = c.loop-children-test.ensures in
    let there : 0 < length c.loop-children.children.items =
    grind (arith, nat_tests, c.loop-children.children.ok.0) in
    let found = c.loop-children.found.items in
    let all = c.args.children.items in
    let more : length c.push.new.self.items ≡ suc (length found) =
    ap length c.in-Ok.ensures.items ∙ length_push found c.join.result in (
      c.remove-child.ensures.items ∙ (ap (drop 1) inv.0
          ∙ (left_then (λ h s. Sends h.promise.lane.value (g.F.Feed.items h.promise.feed.value) s)
          all found ∙ ap (λ n. drop n all) (sym more))),
      rw (more, c.in-Ok.ensures.items)
          (joined_then (λ h s. Sends h.promise.lane.value (g.F.Feed.items h.promise.feed.value) s)
          all found c.remove-child.result c.join.result inv.1
          (rw inv.0 at c.remove-child.ensures.value) (rw inv.0 at there) c.join.ensures),
      omega (
        arith,
        inv.2,
        c.in-Ok.ensures.len,
        c.in-Ok.ensures.capacity,
        ap length c.remove-child.ensures.items,
        c.remove-child.new.self.ok.0,
        c.loop-children.children.ok.0,
        there,
      ),
    )
