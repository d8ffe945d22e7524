use Rattle.std.proofs.Common.{sym, ◌∙◌}
use Rattle.nest_core.proofs.Listings.{box_listed, lent_listed, lent_refused, own_listed}
use Rattle.nest_core.proofs.Listings.{own_refused, normal_refused}
use Rattle.nest_core.proofs.setup_row.listed.Goals as goal

pub returns-in_err-thing-in-Own : goal.returns-in_err-thing-in-Own
returns-in_err-thing-in-Own c =
    c.from_residual-in_err-thing-in-Own.ensures ∙ own_refused _ _ _ c.in-Own.is c.field-code.ensures
    (sym c.thing_code-in-Own.ensures ∙ c.in_err-thing-in-Own.was)

pub returns-in_err-normal-in-Own : goal.returns-in_err-normal-in-Own
returns-in_err-normal-in-Own c =
    c.from_residual-in_err-normal-in-Own.ensures ∙ normal_refused _ _ _ c.in-Own.is
    c.field-in-Own.ensures (sym c.place_code-in-Own.ensures ∙ c.in_err-normal-in-Own.was)

pub returns-in_err-thing-in-Lent : goal.returns-in_err-thing-in-Lent
returns-in_err-thing-in-Lent c =
    c.from_residual-in_err-thing-in-Lent.ensures ∙ lent_refused _ _ _ c.in-Lent.is
    c.field-code.ensures (sym c.thing_code-in-Lent.ensures ∙ c.in_err-thing-in-Lent.was)

pub returns-in_ok-thing-in-Box : goal.returns-in_ok-thing-in-Box
returns-in_ok-thing-in-Box c =
    box_listed _ _ _ _ c.in-Box.is c.field-code.ensures
    (sym c.thing_code.ensures ∙ c.in_ok-thing-in-Box.was)

pub returns-in_ok-normal-in-Own : goal.returns-in_ok-normal-in-Own
returns-in_ok-normal-in-Own c =
    own_listed _ _ _ _ _ _ c.in-Own.is c.field-code.ensures c.field-in-Own.ensures
    (sym c.thing_code-in-Own.ensures ∙ c.in_ok-thing-in-Own.was)
    (sym c.place_code-in-Own.ensures ∙ c.in_ok-normal-in-Own.was)

pub returns-in_ok-thing-in-Lent : goal.returns-in_ok-thing-in-Lent
returns-in_ok-thing-in-Lent c =
    lent_listed _ _ _ _ c.in-Lent.is c.field-code.ensures
    (sym c.thing_code-in-Lent.ensures ∙ c.in_ok-thing-in-Lent.was)
