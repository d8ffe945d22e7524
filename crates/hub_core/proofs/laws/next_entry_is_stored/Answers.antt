use Rattle.std.proofs.Common.{refl}
use Rattle.posting_core.specs.Book.{changes_of}
use Rattle.hub_core.proofs.StoreLemmas.{stored_in}
use Rattle.hub_core.proofs.laws.next_entry_is_stored.Goals as goal

pub returns : goal.returns
returns g c old new book r lawful follows has comes =
    stored_in (g.R.Register.holding old) (g.R.Register.holding new) book r
    (changes_of book r.message) lawful follows refl has comes
