use Rattle.std.proofs.Common.{subst, sym, ◌∙◌}
use Rattle.nest_core.specs.SetupGrowing.{Extends}
use Rattle.nest_core.proofs.FurtherRows.{no_text_taken, text_taken}
use Rattle.nest_core.proofs.Growing.{file_extends, same_extends}
use Rattle.nest_core.proofs.Tables.{is_text, no_text}
use Rattle.nest_core.proofs.setup.Setup.with_file.Goals as goal

pub returns-in_default-clause-exact : goal.returns-in_default-clause-exact
returns-in_default-clause-exact c =
    no_text_taken c.args.self.now c.in_ok-setup.setup c.in_ok-faults.faults.items c.args.bytes.now
    c.in_ok-setup.ensures (no_text c.args.bytes.now c.in_default.ensures.cases.0)
    c.in_ok-faults.ensures.items

pub returns-in_default-clause-extends : goal.returns-in_default-clause-extends
returns-in_default-clause-extends c =
    subst (Extends c.args.self.now) (sym c.in_ok-setup.ensures) (same_extends c.args.self.now)

pub returns-clause-exact : goal.returns-clause-exact
returns-clause-exact c =
    let both = text_taken c.args.self.now c.in_ok-setup.setup c.in_ok-take_file.field-0
    c.args.bytes.now c.in_ok-setup.ensures (is_text c.args.bytes.now c.in-Ok.ensures.cases.1)
    c.in_ok-take_file.ensures in
    (c.into_parts-setup.ensures.setup ∙ both.0, c.into_parts-setup.ensures.faults ∙ both.1)

pub returns-clause-extends : goal.returns-clause-extends
returns-clause-extends c =
    let both = text_taken c.args.self.now c.in_ok-setup.setup c.in_ok-take_file.field-0
    c.args.bytes.now c.in_ok-setup.ensures (is_text c.args.bytes.now c.in-Ok.ensures.cases.1)
    c.in_ok-take_file.ensures in
    subst (Extends c.args.self.now) (sym (c.into_parts-setup.ensures.setup ∙ both.0))
    (file_extends c.args.self.now c.args.bytes.now)
