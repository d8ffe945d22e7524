use Rattle.std.proofs.Common.{subst}
use Rattle.codes_core.specs.Day.{IsOnlySpelling, day_text}
use Rattle.codes_core.proofs.SpelledDays.{text_spells_day}
use Rattle.codes_core.proofs.day.Day.number.Goals as goal

pub returns-clause-spelled : goal.returns-clause-spelled
returns-clause-spelled c =
    subst (λ n. IsOnlySpelling (day_text n) n) c.self.view_is
    (text_spells_day c.self.inside.number c.self.invariant.0 c.self.invariant.1)
