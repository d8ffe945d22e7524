use Rattle.register_sql.specs.StoredSetups.{growth_text}
use Rattle.register_sql.proofs.StoredSetups.{growth_text_utf8}
use Rattle.register_sql.proofs.stored_setup.growth_in.Goals as goal

pub returns-in_err-text_of-clause-growth : goal.returns-in_err-text_of-clause-growth
returns-in_err-text_of-clause-growth c id g fits is =
    absurd (c.in_err-text_of.ensures.none id (growth_text g) (growth_text_utf8 g fits) is)
