use Rattle.std.proofs.Common.{Bool, ◌≡◌, ◌+◌, ◌==◌, length, cond, sym, ap, ◌∙◌}
use Rattle.nest_core.proofs.Fields.{field_count-more}
use Rattle.nest_core.proofs.setup_row.field_count.Goals as goal
use Rattle.nest_core.proofs.setup_row.field_count.Goals.{then-not-is_empty, else-not-is_empty}

pub loop-i-preserved : goal.loop-i-preserved
loop-i-preserved c =
    let next : c.if-not-is_empty.count ≡ cond (length c.field.result.now == 0) c.loop-i.count
    (c.loop-i.i + 1) =
    elim c.if-not-is_empty.branch [
      | then-not-is_empty w ↦ w.count-is ∙ ap (λ (t : Bool). cond t c.loop-i.count (c.loop-i.i + 1))
          (sym w.if-not-is_empty.true ∙ c.is_empty.ensures)
      | else-not-is_empty w ↦ w.count-is ∙ ap (λ (t : Bool). cond t c.loop-i.count (c.loop-i.i + 1))
          (sym w.if-not-is_empty.false ∙ c.is_empty.ensures)
    ] in
    field_count-more _ c.loop-i.i c.len-i-end.result c.loop-i.count c.if-not-is_empty.count
    c.field.result.now c.len-i-end.ensures c.loop-i-test.true c.field.ensures
    c.loop-i.invariant next
