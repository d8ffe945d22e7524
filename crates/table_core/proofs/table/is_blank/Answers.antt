use Rattle.std.proofs.Common.{◌∙◌, sym}
use Rattle.std.specs.Prelude.{String, string_bytes}
use Rattle.std.specs.List.{list_all}
use Rattle.std.specs.declared.alloc.Global.{Global}
use Rattle.std.proofs.lemmas.List.Folds.{list_all-map}
use Rattle.table_core.specs.TableRows.{is_space}
use Rattle.table_core.proofs.table.is_blank.Goals as goal

pub returns : goal.returns
returns c = c.are_blank.ensures
    ∙ sym (list_all-map (list_all is_space) (λ (s : String Global). string_bytes s)
    c.args.fields.now)
