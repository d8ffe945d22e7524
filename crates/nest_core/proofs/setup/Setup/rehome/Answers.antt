use Rattle.std.proofs.Common.{rules, ◌≡◌, true, false, length, sym, subst, ◌∙◌, ℕ, Option}
use Rattle.std.specs.Option.{option_and_then}
use Rattle.nest_core.specs.Museum.{find_place, is_thing_row}
use Rattle.nest_core.specs.SetupRows.{lacks_normal}
use Rattle.nest_core.specs.declared.setup_row.SetupRow.TheVariants as lists
use Rattle.nest_core.proofs.Museums.{normal_there, normal_unasked, thing_row_right}
use Rattle.nest_core.proofs.setup.Setup.rehome.Goals as goal
use Rattle.nest_core.proofs.setup.Setup.rehome.Goals.{else-is_some-via-then-is_some+else-is_none}
use Rattle.nest_core.proofs.setup.Setup.rehome.Goals.{else-is_some-via-else-is_some}

pub set_normal-requires-clause-right : goal.set_normal-requires-clause-right
set_normal-requires-clause-right c =
    let S = c.args.self.now in
    let number : c.normal_no-normal_no.result ≡ option_and_then (find_place S) c.args.normal =
    c.normal_no-normal_no.ensures in
    let found : lacks_normal S (lists.Thing c.args.code c.args.normal) ≡ false = elim
    c.else-is_some.branch [
      | else-is_some-via-then-is_some+else-is_none w ↦
          normal_there S c.args.code c.args.normal c.normal_no-normal_no.result number (let some =
          w.is_none.ensures in let there = w.if-is_none.false in search rules)
      | else-is_some-via-else-is_some w ↦ normal_unasked S c.args.code c.args.normal (sym
          c.is_some.ensures ∙ w.if-is_some.false)
    ] in
    subst (λ (o : Option ℕ). is_thing_row (length S.places) (c.args.code, o) ≡ true) (sym number)
    (thing_row_right S c.args.code c.args.normal c.requires.right found)
