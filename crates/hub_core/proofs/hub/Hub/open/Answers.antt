use Rattle.std.proofs.Common.{refl}
use Rattle.hub_core.proofs.hub.Hub.open.Goals as goal

pub returns-in-Ok-clause-opened : goal.returns-in-Ok-clause-opened
returns-in-Ok-clause-opened g c =
    let prepared = c.in-Ok.ensures.prepared in
    record {
      setup = prepared.museum;
      stands = record {
        up = refl;
        list = refl;
        series = prepared.goes_on.series;
        stored = prepared.stored;
      };
      grown = prepared.grown;
      comes = prepared.comes;
    }
