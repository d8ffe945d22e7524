use Rattle.std.proofs.Common.{sym}
use Rattle.desk_core.proofs.texts.add_unlisted.Goals as goal

pub returns-in-Place : goal.returns-in-Place
returns-in-Place c = rw (c.in-Place.is, sym c.as_str-in-Place.ensures.text) c.add-in-Place.ensures
