use Rattle.std.proofs.Common.{◌∙◌, subst}
use Rattle.export_core.specs.Databases.{IsMadeBy}
use Rattle.export_core.proofs.database.export.Goals as goal

pub returns-in-Ok-fill : goal.returns-in-Ok-fill
returns-in-Ok-fill g c =
    λ clean. subst (λ text. IsMadeBy text c.args.conn c.in-Ok-fill.files)
    (c.as_str.ensures.value ∙ c.in-Ok.ensures) (c.in-Ok-fill.ensures clean)
