use Rattle.std.proofs.Common.{◌≡◌, sym, subst, arith, length, List}
use Rattle.std.specs.Prelude.{reverse, All}
use Rattle.std.proofs.lemmas.Bool.Decides.{not_from_Decides}
use Rattle.std.proofs.lemmas.List.{length-reverse}
use Rattle.std.proofs.lemmas.List.Sorted.{All-permutation, IsPermutation-reverse}
use Rattle.nest_core.specs.Museum.{Museum}
use Rattle.posting_core.specs.declared.entry.Entry.{Entry}
use Rattle.posting_core.specs.Growing.{HasGrown}
use Rattle.register_store.specs.Registers.{IsOfStation}
use Rattle.register_store.specs.Holdings.{Each}
use Rattle.hub_core.specs.Openings.{IsRestoreFault}
use Rattle.hub_core.proofs.PrepareLemmas.{is_listed, not_listed, not_enough}
use Rattle.hub_core.proofs.Written.{if_err}
use Rattle.hub_core.proofs.hub.opening.all_entries.Goals as goal

pub returns-in_err-entries-clause-fault : goal.returns-in_err-entries-clause-fault
returns-in_err-entries-clause-fault g c =
    let L = c.args.ledger.now in
    let old = g.R.Register.holding c.args.register.now in
    let new = g.R.Register.holding c.all.new.self in
    let fault = c.in_err-entries.field-0.0 in
    if_err c.from_residual.result (λ f. Each new (λ k. IsRestoreFault L.museum k f)) fault
    c.from_residual.ensures.1
    (not_listed old new L.museum L.depth (g.R.Register.stations c.args.register.now) fault
    c.requires.ready.1 c.requires.bound c.in_err-entries.ensures.unchanged
    c.in_err-entries.ensures.cause)

pub returns-clause-fault : goal.returns-clause-fault
returns-clause-fault g c =
    let L = c.args.ledger.now in
    let S = L.museum in
    let old = g.R.Register.holding c.args.register.now in
    let new = g.R.Register.holding c.all.new.self in
    let entries = c.in_ok-entries.entries.items in
    let P : List Entry = reverse entries in
    let listed = c.in_ok-entries.ensures in
    let back = length-reverse entries in
    let count : length P ≡ c.len.result =
    omega (arith, back, c.in_ok-entries.entries.ok, c.len.ensures) in
    let of : All (IsOfStation (length S.stations)) P =
    All-permutation (IsOfStation (length S.stations)) _ P (IsPermutation-reverse entries)
    (subst (λ n. All (IsOfStation n) entries) c.requires.ready.1 listed.stationed) in
    not_enough new S L.depth P
    (is_listed old new S L.depth P c.requires.bound listed.unchanged listed.listed) of
    (λ grown. not_from_Decides c.has_grown.result c.has_grown.ensures c.if-has_grown.false
    (subst (λ (T : Museum). HasGrown T.growths c.len.result) (sym c.setup.ensures)
    (subst (λ n. HasGrown S.growths n) count grown)))
