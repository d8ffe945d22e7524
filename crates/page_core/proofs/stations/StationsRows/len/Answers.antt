use Rattle.std.proofs.Common.{◌∙◌, ap, length, sym}
use Rattle.std.proofs.lemmas.List.FromFn.{length-map-range_with_len}
use Rattle.nest_core.specs.Museum.{Museum}
use Rattle.page_core.specs.Stations.{station_row_text}
use Rattle.page_core.proofs.stations.StationsRows.len.Goals as goal

pub returns : goal.returns
returns c =
    let B = c.args.self.now.ledger.now in
    c.stations.ensures.count ∙ (ap (λ (S : Museum). length S.stations) c.setup.ensures ∙ sym
    (length-map-range_with_len (station_row_text B) 0 (length B.museum.stations)))
