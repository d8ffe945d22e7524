use Rattle.std.proofs.Common.{◌∙◌, None, ap, option_map, sym}
use Rattle.std.specs.List.{last_or}
use Rattle.posting_core.specs.declared.entry.Spot.{Spot}
use Rattle.export_core.proofs.Lasts.{last_pushed}
use Rattle.export_core.proofs.things.since.Goals as goal

pub returns : goal.returns
returns c =
    let s = c.in_ok-spot.spot in
    ap (option_map (λ (t : Spot). t.day))
    (sym (last_pushed None c.next_back.new.self s)
    ∙ ap (last_or None) (sym c.in_ok-spot.ensures.last ∙ c.spots.ensures.spots))
