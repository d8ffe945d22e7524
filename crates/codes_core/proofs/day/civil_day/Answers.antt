use Rattle.std.proofs.Common.{rules, ◌∙◌, FitsSigned, w32}
use Rattle.std.proofs.lemmas.Int.{to_z-of_z}
use Rattle.codes_core.proofs.Days.{made}
use Rattle.codes_core.proofs.day.civil_day.Goals as goal

pub invariant_of-result : goal.invariant_of-result
invariant_of-result c =
    let is = made c.in-Ok.found _ _ _ c.if-year-eq0.false (
      c.requires.year,
      c.requires.month,
      c.requires.date,
    ) c.in-Ok.ensures.value in
    let fits : FitsSigned w32 c.to_unix_epoch_day.result = search rules in
    rw (to_z-of_z, c.to_unix_epoch_day.ensures.value) (is.low, is.high)

pub returns-in-Ok : goal.returns-in-Ok
returns-in-Ok c =
    let is = made c.in-Ok.found _ _ _ c.if-year-eq0.false (
      c.requires.year,
      c.requires.month,
      c.requires.date,
    ) c.in-Ok.ensures.value in
    let fits : FitsSigned w32 c.to_unix_epoch_day.result = search rules in
    (is.civil_is, rw to_z-of_z (c.to_unix_epoch_day.ensures.value ∙ is.number_is))
