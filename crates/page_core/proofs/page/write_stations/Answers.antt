use Rattle.std.proofs.Common.{List, subst, ℕ}
use Rattle.std.specs.Prelude.{length}
use Rattle.std.specs.List.{range_with_len}
use Rattle.page_core.specs.Stations.{station_row}
use Rattle.page_core.specs.declared.frame.TheConstants.{STATIONS, TABLE_END}
use Rattle.reports.specs.Writes.{Writes}
use Rattle.page_core.proofs.Sections.{section-texts}
use Rattle.page_core.proofs.page.write_stations.Goals as goal

pub returns : goal.returns
returns g c =
    let B = c.args.ledger.now in
    subst (λ (t : List ℕ). Writes (g.W.Write.contents c.args.out.now)
    (g.W.Write.contents c.write_section.new.out) c.write_section.result t)
    (section-texts STATIONS.now TABLE_END.now (station_row B)
    (range_with_len 0 (length B.museum.stations))) c.write_section.ensures
