use Rattle.std.proofs.Common.{arith, rules, ◌∙◌, sym, ap, subst, ◌≡◌, ◌≤ℤ◌, FitsSigned, w16, w32}
use Rattle.std.proofs.Common.{w64, to_z, of_z}
use Rattle.std.proofs.lemmas.Int.{ints, to_z-of_z}
use Rattle.jiff_core.specs.Date.{epoch_day}
use Rattle.codes_core.specs.Day.{first_number, last_number, IsOnlySpelling, date_text, day_text}
use Rattle.codes_core.proofs.Days.{only_spelling}
use Rattle.codes_core.proofs.SpelledDays.{text_spells_day}
use Rattle.codes_core.proofs.day.Day.spelling.Goals as goal

pub returns-clause-only : goal.returns-clause-only
returns-clause-only c =
    let date = c.unwrap-date.result in
    let fits : FitsSigned w16 date.year = search rules in
    let year = simp to_z-of_z at c.unsigned_abs.ensures.value in
    let value = rw c.unwrap-date.ensures at c.from_unix_epoch_day.ensures.value in
    let text = c.new.ensures ∙ c.text_of.ensures ∙ ap (λ y. date_text y date.month date.day) year in
    let low : first_number ≤ℤ c.args.self.now =
    subst (λ n. first_number ≤ℤ n) c.self.view_is c.self.invariant.0 in
    let number = c.self.inside.number in
    let range : (first_number ≤ℤ number) × (number ≤ℤ last_number) = c.self.invariant in
    let narrow : to_z w32 (of_z w32 number) ≡ number = omega (arith, ints) in
    let wide : to_z w64 (of_z w64 number) ≡ number = omega (arith, ints) in
    let is : epoch_day date ≡ c.args.self.now =
    value ∙ ap (λ z. to_z w64 (of_z w64 z)) narrow ∙ wide ∙ c.self.view_is in
    subst (λ t. IsOnlySpelling t c.args.self.now) (sym text)
    (only_spelling date c.args.self.now is low)

pub returns-clause-text : goal.returns-clause-text
returns-clause-text c =
    let day = text_spells_day c.args.self.now
    (subst (λ n. first_number ≤ℤ n) c.self.view_is c.self.invariant.0)
    (subst (λ n. n ≤ℤ last_number) c.self.view_is c.self.invariant.1) in
    sym ((returns-clause-only c).only (day_text c.args.self.now) day.spells)
