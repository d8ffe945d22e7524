use Rattle.std.proofs.Common.{◌≤◌, sym, subst, List, length}
use Rattle.std.specs.Prelude.{reverse, All}
use Rattle.std.proofs.lemmas.List.Sorted.{All-permutation, IsPermutation-reverse}
use Rattle.posting_core.specs.declared.entry.Entry.{Entry}
use Rattle.station_core.specs.declared.Start.{Start}
use Rattle.station_core.specs.declared.TheConstants.{LAST}
use Rattle.register_store.specs.Registers.{IsOfStation}
use Rattle.register_store.specs.Holdings.{Each}
use Rattle.hub_core.specs.Openings.{IsRestoreFault}
use Rattle.hub_core.proofs.OpenLemmas.{all_few, goes_on}
use Rattle.hub_core.proofs.PrepareLemmas.{is_listed, listed_still, still_on, not_judged, not_agreed}
use Rattle.hub_core.proofs.PrepareLemmas.{restored_store, back_grown, judged_grown}
use Rattle.hub_core.proofs.Written.{if_err}
use Rattle.hub_core.proofs.hub.opening.restore.Goals as goal

pub returns-in_err-entries-clause-fault : goal.returns-in_err-entries-clause-fault
returns-in_err-entries-clause-fault g c =
    let new = g.R.Register.holding c.all_entries.new.register in
    if_err c.from_residual.result (λ f. Each new (λ k. IsRestoreFault c.args.ledger.now.museum k f))
    c.in_err-entries.field-0.0 c.from_residual.ensures.1 c.in_err-entries.ensures.fault

pub returns-in_err-starts-clause-fault : goal.returns-in_err-starts-clause-fault
returns-in_err-starts-clause-fault g c =
    let L = c.args.ledger.now in
    let S = L.museum in
    let P : List Entry = reverse c.in_ok-entries.entries.items in
    let old = g.R.Register.holding c.args.register.now in
    let new = g.R.Register.holding c.all_entries.new.register in
    let fault = c.in_err-starts.field-0.0 in
    let of : All (IsOfStation (length S.stations)) P =
    All-permutation (IsOfStation (length S.stations)) _ P
    (IsPermutation-reverse c.in_ok-entries.entries.items) c.in_ok-entries.ensures.stationed in
    if_err c.from_residual-in_err-starts.result (λ f. Each new (λ k. IsRestoreFault S k f)) fault
    c.from_residual-in_err-starts.ensures.1
    (not_judged new S L.depth P fault
    (is_listed old new S L.depth P c.requires.bound c.in_ok-entries.ensures.unchanged
    c.in_ok-entries.ensures.listed) of
    (back_grown S c.in_ok-entries.entries.items c.in_ok-entries.ensures.grown)
    c.in_err-starts.ensures.cause)

pub returns-in_err-compare-clause-fault : goal.returns-in_err-compare-clause-fault
returns-in_err-compare-clause-fault g c =
    let L = c.args.ledger.now in
    let P : List Entry = reverse c.in_ok-entries.entries.items in
    let old = g.R.Register.holding c.args.register.now in
    let mid = g.R.Register.holding c.all_entries.new.register in
    let new = g.R.Register.holding c.compare.new.register in
    let fault = c.in_err-compare.field-0.0 in
    let listed = is_listed old mid L.museum L.depth P c.requires.bound
    c.in_ok-entries.ensures.unchanged c.in_ok-entries.ensures.listed in
    if_err c.from_residual-in_err-compare.result (λ f. Each new (λ k. IsRestoreFault L.museum k f))
    fault c.from_residual-in_err-compare.ensures.1
    (not_agreed L P c.in_ok-starts.starts.items c.judged.new.ledger c.in_ok-starts.ensures.judged
    new fault (listed_still mid new L.museum L.depth P listed
    c.in_err-compare.ensures.unchanged)
    (back_grown L.museum c.in_ok-entries.entries.items c.in_ok-entries.ensures.grown)
    c.in_err-compare.ensures.fault)

pub returns-in_err-compare-clause-unchanged : goal.returns-in_err-compare-clause-unchanged
returns-in_err-compare-clause-unchanged g c =
    still_on _ _ _ c.in_ok-entries.ensures.unchanged c.in_err-compare.ensures.unchanged

pub new-requires : goal.new-requires
new-requires g c =
    let L = c.judged.new.ledger in
    let judged = c.in_ok-starts.ensures.judged in
    subst (λ (xs : List Start). All (λ s. s.posted ≤ LAST) xs) (sym c.deref.ensures.value)
    (all_few L.museum L.depth L.posted c.in_ok-starts.starts.items judged.lawful judged.in_step)

pub returns-in_err-new-clause-unchanged : goal.returns-in_err-new-clause-unchanged
returns-in_err-new-clause-unchanged g c =
    still_on _ _ _ c.in_ok-entries.ensures.unchanged c.in_ok-compare.ensures.unchanged

pub returns-clause-restored : goal.returns-clause-restored
returns-clause-restored g c =
    let L = c.args.ledger.now in
    let L' = c.judged.new.ledger in
    let P : List Entry = reverse c.in_ok-entries.entries.items in
    let old = g.R.Register.holding c.args.register.now in
    let mid = g.R.Register.holding c.all_entries.new.register in
    let new = g.R.Register.holding c.compare.new.register in
    let judged = c.in_ok-starts.ensures.judged in
    let starts = c.in_ok-starts.starts.items in
    let listed = is_listed old mid L.museum L.depth P c.requires.bound
    c.in_ok-entries.ensures.unchanged c.in_ok-entries.ensures.listed in
    record {
      museum = judged.museum;
      goes_on = goes_on L' starts c.deref.result.now c.in_ok-new.field-0 judged.lawful
          judged.in_step c.deref.ensures.value c.in_ok-new.ensures.opened c.in_ok-new.ensures.taken;
      grown = judged_grown L P starts L' judged
          (back_grown L.museum c.in_ok-entries.entries.items c.in_ok-entries.ensures.grown);
      stored = restored_store L P starts L' judged new
          (listed_still mid new L.museum L.depth P listed c.in_ok-compare.ensures.unchanged)
          c.in_ok-compare.ensures.rows;
    }

pub returns-clause-unchanged : goal.returns-clause-unchanged
returns-clause-unchanged g c =
    still_on _ _ _ c.in_ok-entries.ensures.unchanged c.in_ok-compare.ensures.unchanged
