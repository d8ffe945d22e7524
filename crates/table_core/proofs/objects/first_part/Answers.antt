use Rattle.table_core.specs.Cells.{is_separator}
use Rattle.table_core.proofs.Parts.{front_is}
use Rattle.table_core.proofs.objects.first_part.Goals as goal

pub returns : goal.returns
returns c = front_is is_separator c.args.text.now c.part_length.result
    c.part_length.ensures.count
