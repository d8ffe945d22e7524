use Rattle.std.proofs.Common.{◌∙◌, arith, sym}
use Rattle.nest_core.specs.Museum.{is_container}
use Rattle.count_core.proofs.Boxes.{count_with, count_without}
use Rattle.count_core.proofs.summary.boxes.Goals.{then-is_box, else-is_box}
use Rattle.count_core.proofs.summary.boxes.Goals as goal

pub loop-thing-preserved : goal.loop-thing-preserved
loop-thing-preserved c =
    let test = is_container c.args.setup.now in
    let x = c.loop-thing.thing in
    elim c.if-is_box.branch [
      | then-is_box w ↦
          let more = count_with test x (sym c.is_box.ensures ∙ w.if-is_box.true) in (
            omega (arith, more, w.count-is, c.loop-thing.invariant.0),
            omega (arith, w.count-is, c.loop-thing.invariant.1),
          )
      | else-is_box w ↦
          let same = count_without test x (sym c.is_box.ensures ∙ w.if-is_box.false) in (
            omega (arith, same, w.count-is, c.loop-thing.invariant.0),
            omega (arith, w.count-is, c.loop-thing.invariant.1),
          )
    ]
