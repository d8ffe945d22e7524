use Rattle.csv.specs.Records.{fields_of}
use Rattle.count_core.proofs.CountReading.{reads, refuses}
use Rattle.count_core.proofs.count_reader.read_row.Goals as goal

pub returns-in-Some : goal.returns-in-Some
returns-in-Some c = reads c.args.number (fields_of c.args.row.now) c.field_count-fields.result
    c.in-Some.counted c.field_count-fields.ensures c.if-fields-eq0.false c.if-fields-gt2.false
    c.in-Some.ensures

pub returns-in-None : goal.returns-in-None
returns-in-None c = refuses c.args.number (fields_of c.args.row.now) c.field_count-fields.result
    c.field_count-fields.ensures c.if-fields-eq0.false c.if-fields-gt2.false c.in-None.ensures
