use Rattle.std.proofs.Common.{◌≡◌, ◌∙◌, [], Some, ap, filter, map, rules, sym}
use Rattle.std.specs.Option.{unwrap_or}
use Rattle.nest_core.specs.Museum.{Museum, station_name_of}
use Rattle.nest_core.specs.StationName.{is_station_name}
use Rattle.nest_core.proofs.Positions.{passes_at}
use Rattle.count_core.specs.Counts.{answers}
use Rattle.line_files.specs.Sightings.{seen_elsewhere, seen_in}
use Rattle.line_files.specs.AuditLines.{is_loose, move_of, moves, station_text}
use Rattle.line_files.proofs.Numbering.{reads_of}
use Rattle.line_files.proofs.audits.auditing.audit.Goals as goal

pub lines-requires-clause-station : goal.lines-requires-clause-station
lines-requires-clause-station g c =
    passes_at is_station_name c.setup-setup.result.now.stations c.args.options.now.station
    c.station_name-station.result.now c.is_museum.ensures.names c.station_name-station.ensures

pub returns-clause-reads_back : goal.returns-clause-reads_back
returns-clause-reads_back g c =
    let B = c.args.ledger.now in
    let options = c.args.options.now in
    let rows = c.args.rows.now in
    let station = c.station_name-station.result.now in
    let named : station_name_of B.museum options.station ≡ Some station =
    ap (λ (S : Museum). station_name_of S options.station) (sym c.setup-setup.ensures)
    ∙ c.station_name-station.ensures in
    let answered : c.deref.result.now ≡ answers B rows = search rules in
    let seen : c.deref-2.result.now ≡ seen_elsewhere B rows =
    c.deref-2.ensures.value ∙ (c.in_ok-seen.ensures ∙ ap (seen_in rows) answered) in
    let loose : c.deref-3.result.now ≡ filter (is_loose B) (seen_elsewhere B rows) =
    c.deref-3.ensures.value ∙ (c.in_ok-loose.ensures ∙ ap (filter (is_loose B)) seen) in
    let moved : c.deref-4.result.now ≡ moves B options.day rows =
    c.deref-4.ensures.value ∙ (c.in_ok-moves.ensures ∙ ap (map (move_of options.day)) loose) in
    reads_of station (station_text B options.station) options.first c.deref-4.result.now
    (moves B options.day rows) (sym (ap (λ o. unwrap_or o []) named)) moved
    c.in_ok-lines.ensures.reads_back
