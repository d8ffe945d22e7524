use Rattle.std.proofs.Common.{rules}
use Rattle.hub_program.proofs.tables.print_unjudged.Goals as goal

pub returns : goal.returns
returns g c = (
  c.in_ok-lines.lines,
  record {
    station = c.in_ok-station.station;
    listed = c.in_ok-station.ensures.found;
    name = c.in_ok-text.ensures.0;
    named = c.in_ok-text.ensures.1.0;
    read = search rules;
    printed = search rules;
  },
)
