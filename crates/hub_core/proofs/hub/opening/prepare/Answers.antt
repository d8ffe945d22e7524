use Rattle.std.proofs.Common.{◌∙◌, ap, sym, subst, length}
use Rattle.nest_core.specs.Museum.{Museum}
use Rattle.posting_core.specs.Growing.{HasGrown}
use Rattle.register_store.specs.StoredRows.{IsBoundTo}
use Rattle.register_store.specs.Holdings.{Each, Has}
use Rattle.hub_core.specs.Openings.{IsRestoreFault}
use Rattle.hub_core.proofs.PrepareLemmas.{not_restored, restored_from}
use Rattle.hub_core.proofs.hub.opening.prepare.Goals as goal

pub restore-requires-clause-ready : goal.restore-requires-clause-ready
restore-requires-clause-ready g c =
    let ready = c.in_ok-ledger.ensures.ready in
    (ready.0, ready.1 ∙ ap (λ (S : Museum). length S.stations) (sym c.in_ok-ledger.ensures.new.0))

pub restore-requires-clause-bound : goal.restore-requires-clause-bound
restore-requires-clause-bound g c =
    let L = c.in_ok-ledger.ledger in
    subst (λ (S : Museum). Has (g.R.Register.holding c.bound.new.register) (IsBoundTo S L.depth))
    (sym c.in_ok-ledger.ensures.new.0) c.in_ok-ledger.ensures.bound

pub returns-in-Err-clause-refused : goal.returns-in-Err-clause-refused
returns-in-Err-clause-refused g c =
    let old = g.R.Register.holding c.args.register.now in
    let mid = g.R.Register.holding c.bound.new.register in
    let new = g.R.Register.holding c.restore.new.register in
    let fault = c.in-Err.fault in
    let wrong : Each new (λ k. IsRestoreFault c.args.setup k fault) =
    subst (λ (S : Museum). Each new (λ k. IsRestoreFault S k fault))
    c.in_ok-ledger.ensures.new.0 c.in-Err.ensures.fault in
    not_restored old mid new c.args.setup fault c.in_ok-ledger.ensures.kept
    c.in-Err.ensures.unchanged wrong

pub returns-in-Ok-clause-prepared : goal.returns-in-Ok-clause-prepared
returns-in-Ok-clause-prepared g c =
    let old = g.R.Register.holding c.args.register.now in
    let mid = g.R.Register.holding c.bound.new.register in
    let new = g.R.Register.holding c.restore.new.register in
    let restored = c.in-Ok.ensures.restored in
    record {
      museum = restored.museum ∙ c.in_ok-ledger.ensures.new.0;
      goes_on = restored.goes_on;
      grown = subst (λ (S : Museum). HasGrown S.growths (length c.restore.new.ledger.posted))
          (restored.museum ∙ c.in_ok-ledger.ensures.new.0) restored.grown;
      stored = restored.stored;
      comes = restored_from old mid new c.args.setup c.restore.new.ledger
          c.in_ok-ledger.ensures.kept c.in-Ok.ensures.unchanged restored.stored;
    }
