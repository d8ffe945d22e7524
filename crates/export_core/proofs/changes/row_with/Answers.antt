use Rattle.std.proofs.Common.{◌∙◌, [], ap, refl}
use Rattle.std.proofs.lemmas.Result.{IfOk-weaker}
use Rattle.codes_core.specs.Day.{day_text}
use Rattle.reports.specs.Cells.{Cell}
use Rattle.reports.specs.Texts.{station_text}
use Rattle.export_core.specs.Statements.{row}
use Rattle.export_core.proofs.Joining.{cons}
use Rattle.export_core.proofs.changes.row_with.Goals as goal

pub returns : goal.returns
returns c =
    IfOk-weaker c.row.result _ _ (λ sql is. is ∙ ap row
    (cons (ap Cell.number c.from.ensures)
    (cons {x = Cell.text (day_text c.args.new.now.spot.day)} refl
    (cons c.thing_value.ensures
    (cons c.place_value.ensures
    (cons c.thing_if.ensures
    (cons (ap Cell.text (c.station_name.ensures
    ∙ ap (station_text c.args.setup.now) c.station.ensures))
    (cons {xs = []} (ap Cell.number (c.from-2.ensures ∙ c.n.ensures)) refl)))))))) c.row.ensures
