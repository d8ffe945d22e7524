use Rattle.count_core.proofs.CountLaws.{unnamed, whole}
use Rattle.count_core.proofs.laws.missing_is_what_no_row_names.Goals as goal

pub returns-clause-unnamed : goal.returns-clause-unnamed
returns-clause-unnamed c = unnamed

pub returns-clause-whole : goal.returns-clause-whole
returns-clause-whole c = whole
