use Rattle.std.proofs.Common.{arith, false, length, not, sym, true, ℕ, ◌<◌, ◌∙◌}
use Rattle.nest_core.specs.Museum.{is_container}
use Rattle.page_core.proofs.Counting.{count_taken}
use Rattle.page_core.proofs.counts.count_objects.Goals as goal
use Rattle.page_core.proofs.counts.count_objects.Goals.{then-is_object, else-is_object}

pub loop-i-preserved : goal.loop-i-preserved
loop-i-preserved c =
    let p = λ (x : ℕ). not (is_container c.args.setup.now x) in
    let xs = c.args.things.now in
    let less : c.loop-i.i < length xs = omega arith in
    elim c.if-is_object.branch [
      | then-is_object w ↦
          let more = count_taken p xs c.loop-i.i true less
          (sym c.is_object.ensures ∙ w.if-is_object.true) in (
            omega (arith, more, c.loop-i.invariant.0),
            omega (arith, c.loop-i.invariant.1),
          )
      | else-is_object w ↦
          let more = count_taken p xs c.loop-i.i false less
          (sym c.is_object.ensures ∙ w.if-is_object.false) in (
            omega (arith, more, c.loop-i.invariant.0),
            omega (arith, c.loop-i.invariant.1),
          )
    ]
