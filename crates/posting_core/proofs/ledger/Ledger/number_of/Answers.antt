use Rattle.std.proofs.Common.{◌≡◌, ◌≤◌, ap, subst, sym, ◌∙◌}
use Rattle.std.proofs.lemmas.Option.{get_or_from_slice_get}
use Rattle.posting_core.specs.declared.TheConstants.{LAST_NUMBER}
use Rattle.posting_core.specs.declared.standing.Standing.{Standing}
use Rattle.posting_core.specs.Standings.{standing_at}
use Rattle.posting_core.proofs.Few.{few_at}
use Rattle.posting_core.proofs.Posted.{lawful_kept, standing_kept}
use Rattle.posting_core.proofs.ledger.Ledger.number_of.Goals as goal

pub returns-clause-few : goal.returns-clause-few
returns-clause-few c =
    let B = c.args.self.now in
    let is : c.index.result.now ≡ standing_at B.posted c.args.station =
    c.index.ensures
    ∙ get_or_from_slice_get c.self.inside.standings.items c.args.station
    (standing_at B.posted c.args.station) c.index.result.now
    (standing_kept c.self.invariant c.self.view_is c.args.station c.requires) in
    subst (λ n. n ≤ LAST_NUMBER) (sym (ap (λ (t : Standing). t.count) is))
    (few_at B.museum B.depth c.args.station B.posted
    (lawful_kept c.self.invariant c.self.view_is))
