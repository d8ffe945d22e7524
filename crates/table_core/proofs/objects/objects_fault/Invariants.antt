use Rattle.std.proofs.Common.{◌≡◌, ◌+◌, ◌≤◌, length}
use Rattle.table_core.specs.Cells.{first_object_fault, object_texts}
use Rattle.table_core.proofs.objects.objects_fault.Given as goal

-- the objects so far have no fault, and are counted
abbrev pub invariant-loop-rest : goal.invariant-loop-rest
invariant-loop-rest l = record {
  first : first_object_fault (object_texts l.rest) ≡ first_object_fault (object_texts l.text);
  counted : l.count + length (object_texts l.rest) ≡ length (object_texts l.text);
  few : l.count + length l.rest ≤ length l.text;
}

abbrev pub decreases-loop-rest : goal.decreases-loop-rest
decreases-loop-rest l = length l.rest
