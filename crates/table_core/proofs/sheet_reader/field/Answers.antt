use Rattle.std.proofs.Common.{ap, option_map, sym, ◌∙◌}
use Rattle.csv.specs.Records.{fields_of}
use Rattle.table_core.proofs.Rows.{field_at-is, is_found}
use Rattle.table_core.proofs.sheet_reader.field.Goals as goal

pub unwrap-requires : goal.unwrap-requires
unwrap-requires c =
    is_found (fields_of c.args.read.now) c.args.i c.get.result c.requires c.get.ensures.value

pub returns : goal.returns
returns c =
    sym (field_at-is (fields_of c.args.read.now) c.args.i) ∙ sym c.get.ensures.value
    ∙ ap (option_map (λ f. f.now)) c.unwrap.ensures
