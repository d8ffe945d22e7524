use Rattle.std.proofs.Common.{rules, ◌≡◌, Some, sym, ap, subst, ◌∙◌}
use Rattle.std.specs.Io.KnownBytes.{Appends}
use Rattle.nest_core.specs.Museum.{station_name_of}
use Rattle.table_core.specs.LineTexts.{lines_text}
use Rattle.hub_program.proofs.tables.print_judged.Goals as goal
use Rattle.hub_program.proofs.tables.print_judged.Goals.{else-wanted-2-via-else-wanted-2}
use Rattle.hub_program.proofs.tables.print_judged.Goals.{else-wanted-2-via-then-wanted-2+else-not-trial}

pub returns : goal.returns
returns g c = record {
  first = c.in_ok-first.first;
  lines = c.in_ok-lines.lines;
  prints = record {
    station = c.in_ok-station.station;
    listed = search rules;
    name = c.in_ok-text.ensures.0;
    named = ap (λ S. station_name_of S c.in_ok-station.station) (sym c.setup-2.ensures)
        ∙ c.in_ok-text.ensures.1.0;
    read = search rules;
    printed = subst (λ t. Appends (g.W.Write.contents c.args.output.now)
        (g.W.Write.contents c.write_line.new.output) t)
        (c.deref-3.ensures ∙ c.in_ok-text.ensures.1.1
        ∙ ap (lines_text c.in_ok-text.ensures.0) c.deref.ensures.value)
        c.in_ok-write_line.ensures;
  };
  is_first = search rules;
  strict = elim c.else-wanted-2.branch [
    | else-wanted-2-via-then-wanted-2+else-not-trial w ↦ search rules
    | else-wanted-2-via-else-wanted-2 w ↦ search rules
  ];
}
