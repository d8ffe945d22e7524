use Rattle.std.proofs.Common.{◌≡◌, ◌<◌, suc, length, drop, ap, sym, ◌∙◌, arith}
use Rattle.std.proofs.lemmas.Bool.Decides.{nat_tests}
use Rattle.serve_core.specs.Sending.{IsEndOfSent}
use Rattle.serve_core.proofs.Takings.{joined_then, left_then, length_push}
use Rattle.serve_core.proofs.ending.end_all.Goals as goal

pub loop-found-preserved : goal.loop-found-preserved
loop-found-preserved c =
    let inv = c.loop-found.invariant in
    let there : 0 < length c.loop-found.found.items =
    grind (arith, nat_tests, c.loop-found.found.ok.0) in
    let ends = c.loop-found.ends.items in
    let all = c.args.found.items in
    let more : length c.push.new.self.items ≡ suc (length ends) =
    ap length c.in-Ok.ensures.items ∙ length_push ends c.in-Some.end in
    record {
      left = c.remove-sent.ensures.items
          ∙ (ap (drop 1) inv.left ∙ (left_then IsEndOfSent all ends ∙ ap (λ n. drop n all)
          (sym more)));
      ends = rw (more, c.in-Ok.ensures.items)
          (joined_then IsEndOfSent all ends c.remove-sent.result c.in-Some.end inv.ends
          (rw inv.left at c.remove-sent.ensures.value) (rw inv.left at there) c.in-Some.ensures);
      room = omega (
        arith,
        inv.room,
        c.in-Ok.ensures.len,
        c.in-Ok.ensures.capacity,
        ap length c.remove-sent.ensures.items,
        c.remove-sent.new.self.ok.0,
        c.loop-found.found.ok.0,
        there,
      );
      count = omega (
        arith,
        inv.count,
        c.in-Ok.ensures.len,
        ap length c.remove-sent.ensures.items,
        c.remove-sent.new.self.ok.0,
        c.loop-found.found.ok.0,
        there,
      );
    }
