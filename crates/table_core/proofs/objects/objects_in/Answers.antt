use Rattle.std.proofs.Common.{◌∙◌, sym}
use Rattle.table_core.proofs.Growing.{moved}
use Rattle.table_core.proofs.ObjectParts.{fault-behind, objects-next, right-here}
use Rattle.table_core.proofs.objects.objects_in.Goals as goal

pub push_object-requires : goal.push_object-requires
push_object-requires c =
    right-here c.loop-rest.rest.now _ c.first_part.ensures c.loop-rest.invariant.right

pub loop-rest-preserved : goal.loop-rest-preserved
loop-rest-preserved c =
    let rest = c.loop-rest.rest.now in
    record {
      right = sym (fault-behind rest _ _ c.first_part.ensures c.behind_part-rest.ensures.part
          (right-here rest _ c.first_part.ensures c.loop-rest.invariant.right))
          ∙ c.loop-rest.invariant.right;
      kept = moved _ _ _ _ _ _ c.loop-rest.invariant.kept
          (objects-next rest _ _ c.first_part.ensures c.behind_part-rest.ensures.part)
          c.in_ok-push_object.ensures;
    }
