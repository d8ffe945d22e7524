use Rattle.table_core.proofs.ListedCodes.{no_thing}
use Rattle.table_core.proofs.labels.reader.is_thing.Goals as goal

pub returns-in-Err : goal.returns-in-Err
returns-in-Err c = no_thing c.args.setup.now c.args.text.now c.in-Err.field-0 c.is_museum.ensures
    c.in-Err.ensures.exact
