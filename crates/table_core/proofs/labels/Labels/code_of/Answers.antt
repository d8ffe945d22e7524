use Rattle.std.proofs.Common.{Some, ap, option_map, ◌∙◌}
use Rattle.table_core.specs.Labels.{code_of}
use Rattle.table_core.proofs.KeptLabels.{looked_up}
use Rattle.table_core.proofs.labels.Labels.code_of.Goals as goal

pub returns-in-Some : goal.returns-in-Some
returns-in-Some c =
    ap Some c.as_slice.ensures.value ∙ ap (option_map (λ v. v.items)) c.in-Some.ensures.value
    ∙ looked_up c.self.inside.codes.entries c.args.text.now
    ∙ ap (λ ls. code_of ls c.args.text.now) c.self.view_is

pub returns-in-None : goal.returns-in-None
returns-in-None c =
    ap (option_map (λ v. v.items)) c.in-None.ensures.value
    ∙ looked_up c.self.inside.codes.entries c.args.text.now
    ∙ ap (λ ls. code_of ls c.args.text.now) c.self.view_is
