use Rattle.std.proofs.Common.{List, map, inr, refl, sym, subst}
use Rattle.serve_core.specs.declared.item.LogLine.{LogLine}
use Rattle.serve_core.specs.declared.serve_fault.ServeFault.TheVariants as faults
use Rattle.serve_core.specs.Sending.{AfterFault}
use Rattle.serve_core.proofs.LogLemmas.{serves_none}
use Rattle.serve_core.proofs.Sendings.{fronts_none}
use Rattle.serve_core.proofs.serving.serve_all.Goals as goal

pub returns-in-Err-clause-left : goal.returns-in-Err-clause-left
returns-in-Err-clause-left g c =
    let feeds = map g.F.Feed.items c.args.feeds.items in
    subst (λ (G : List LogLine). AfterFault g.R.Register.holding c.args.hub.now c.args.hub.now feeds
    G faults.NoMemory) (sym c.requires.log)
    (inr (record {
      served = serves_none g.R.Register.holding c.args.hub.now;
      level = refl;
      fronts = fronts_none feeds faults.NoMemory tt;
    }))
