use Rattle.std.proofs.Common.{◌≡◌, ◌++◌, None, length}
use Rattle.table_core.specs.Cells.{first_object_fault, object_texts}
use Rattle.table_core.proofs.objects.objects_in.Given as goal

-- the objects so far are kept, and the others have no fault
abbrev pub invariant-loop-rest : goal.invariant-loop-rest
invariant-loop-rest l = record {
  right : first_object_fault (object_texts l.rest) ≡ None;
  kept : l.codes.items ++ object_texts l.rest ≡ object_texts l.text;
}

abbrev pub decreases-loop-rest : goal.decreases-loop-rest
decreases-loop-rest l = length l.rest
