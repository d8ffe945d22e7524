use Rattle.std.proofs.Common.{arith, false, not, sym, true, ℕ, ◌∙◌}
use Rattle.nest_core.specs.Museum.{is_container}
use Rattle.page_core.proofs.Counting.{count_more}
use Rattle.page_core.proofs.counts.objects_of.Goals as goal
use Rattle.page_core.proofs.counts.objects_of.Goals.{then-is_object, else-is_object}

pub loop-thing-preserved : goal.loop-thing-preserved
loop-thing-preserved c =
    let p = λ (x : ℕ). not (is_container c.args.setup.now x) in
    let x = c.loop-thing.thing in
    elim c.if-is_object.branch [
      | then-is_object w ↦
          let more = count_more p x true
          (sym c.is_object.ensures ∙ w.if-is_object.true) in (
            omega (arith, more, c.loop-thing.invariant.0),
            omega (arith, c.loop-thing.invariant.1),
          )
      | else-is_object w ↦
          let more = count_more p x false
          (sym c.is_object.ensures ∙ w.if-is_object.false) in (
            omega (arith, more, c.loop-thing.invariant.0),
            omega (arith, c.loop-thing.invariant.1),
          )
    ]
