use Rattle.table_core.proofs.ListedCodes.{no_place}
use Rattle.table_core.proofs.labels.reader.is_place.Goals as goal

pub returns-in-Err : goal.returns-in-Err
returns-in-Err c = no_place c.args.setup.now c.args.text.now c.in-Err.field-0 c.is_museum.ensures
    c.in-Err.ensures.exact
