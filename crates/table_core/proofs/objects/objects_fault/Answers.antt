use Rattle.std.proofs.Common.{◌∙◌, ap, sym, arith, length}
use Rattle.std.specs.Option.{option_map, option_or}
use Rattle.std.proofs.lemmas.Grind.{common_steps}
use Rattle.table_core.specs.declared.fault.CellFault.TheVariants.{BadObject}
use Rattle.table_core.specs.Cells.{object_count_fault, object_texts}
use Rattle.table_core.proofs.ObjectParts.{count-next, fault-behind, fault-here}
use Rattle.table_core.proofs.objects.objects_fault.Goals as goal

pub returns-in-Err : goal.returns-in-Err
returns-in-Err c =
    ap (λ o. option_or (option_map BadObject o)
    (object_count_fault (length (object_texts c.args.text.now))))
    (sym (fault-here c.loop-rest.rest.now _ _ c.first_part.ensures c.in-Err.ensures.exact)
    ∙ c.loop-rest.invariant.first)

pub loop-rest-preserved : goal.loop-rest-preserved
loop-rest-preserved c =
    let rest = c.loop-rest.rest.now in
    record {
      first = sym (fault-behind rest _ _ c.first_part.ensures c.behind_part-rest.ensures.part
          c.in-Ok.ensures.exact.1) ∙ c.loop-rest.invariant.first;
      counted = sym (count-next rest _ _ c.in-Ok.found c.loop-rest.count c.first_part.ensures
          c.behind_part-rest.ensures.part c.in-Ok.ensures.exact.0)
          ∙ c.loop-rest.invariant.counted;
      few = grind (arith, common_steps, c.in-Ok.ensures.few, c.behind_part-rest.ensures.less);
    }
