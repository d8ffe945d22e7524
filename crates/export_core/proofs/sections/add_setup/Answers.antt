use Rattle.std.proofs.Common.{◌∙◌, ◌∷◌, ◌++◌, [], ap, codes, string_bytes}
use Rattle.export_core.specs.Script.{record_row}
use Rattle.export_core.specs.Setups.{all_place_rows, all_thing_rows}
use Rattle.export_core.specs.Statements.{inserts}
use Rattle.export_core.proofs.Joining.{three_added}
use Rattle.export_core.proofs.sections.add_setup.Goals as goal

pub returns : goal.returns
returns c =
    let B = c.args.ledger.now in
    let before = string_bytes c.args.script.now in
    let first = string_bytes c.add_table.new.script in
    let places = string_bytes c.add_table-2.new.script in
    three_added before (inserts (codes "record") (record_row B c.args.on ∷ []))
    (inserts (codes "place") (all_place_rows B.museum))
    (inserts (codes "thing") (all_thing_rows B)) first places
    (string_bytes c.add_table-3.new.script)
    (c.in_ok-add_table.ensures
    ∙ ap (λ r. before ++ inserts (codes "record") r) c.in_ok-record_rows.ensures)
    (c.in_ok-add_table-2.ensures
    ∙ ap (λ r. first ++ inserts (codes "place") r)
    (c.in_ok-place_rows.ensures ∙ ap all_place_rows c.setup.ensures))
    (c.in_ok-add_table-3.ensures
    ∙ ap (λ r. places ++ inserts (codes "thing") r) c.in_ok-thing_rows.ensures)
