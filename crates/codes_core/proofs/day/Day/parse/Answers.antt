use Rattle.std.proofs.Common.{arith}
use Rattle.std.proofs.lemmas.Grind.{common_steps}
use Rattle.codes_core.proofs.day.Day.parse.Goals as goal

pub number_of-year-requires-clause-digits : goal.number_of-year-requires-clause-digits
number_of-year-requires-clause-digits c = grind (arith, common_steps)

pub slice_bounds-number_of-end-2 : goal.slice_bounds-number_of-end-2
slice_bounds-number_of-end-2 c = grind (arith, common_steps)

pub number_of-month-requires-clause-digits : goal.number_of-month-requires-clause-digits
number_of-month-requires-clause-digits c = grind (arith, common_steps)

pub slice_bounds-number_of-count-2 : goal.slice_bounds-number_of-count-2
slice_bounds-number_of-count-2 c = grind (arith, common_steps)

pub slice_bounds-number_of-start-2 : goal.slice_bounds-number_of-start-2
slice_bounds-number_of-start-2 c = grind (arith, common_steps)

pub number_of-date-requires-clause-digits : goal.number_of-date-requires-clause-digits
number_of-date-requires-clause-digits c = grind (arith, common_steps)

pub civil_day-requires-clause-date : goal.civil_day-requires-clause-date
civil_day-requires-clause-date c = grind (arith, common_steps)

pub returns-in-Some : goal.returns-in-Some
returns-in-Some c = grind (arith, common_steps)

pub returns-in-None : goal.returns-in-None
returns-in-None c = grind (arith, common_steps)
