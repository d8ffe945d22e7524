use Rattle.std.proofs.Common.{◌≡◌, ◌≤◌, ◌∙◌, length, sym, subst}
use Rattle.posting_core.specs.declared.TheConstants.{MOST_ENTRIES}
use Rattle.posting_core.specs.Book.{Book, spots_in}
use Rattle.posting_core.proofs.Few.{few_spots_kept}
use Rattle.posting_core.proofs.Posted.{row_kept, spots_kept, spots_there}
use Rattle.posting_core.proofs.ledger.Ledger.spots.Goals as goal

pub of-requires : goal.of-requires
of-requires c = row_kept c.self.invariant c.self.view_is c.args.thing c.requires

pub returns-clause-spots : goal.returns-clause-spots
returns-clause-spots c = c.of.ensures ∙ spots_kept c.self.invariant c.self.view_is
    c.args.thing c.requires

pub returns-clause-within : goal.returns-clause-within
returns-clause-within c =
    spots_there c.self.invariant c.self.view_is c.args.thing c.requires
    (c.of.ensures ∙ spots_kept c.self.invariant c.self.view_is c.args.thing c.requires)

pub returns-clause-few : goal.returns-clause-few
returns-clause-few c =
    let few = subst (λ (B : Book). length (spots_in B c.args.thing) ≤ MOST_ENTRIES) c.self.view_is
    (few_spots_kept c.self.invariant c.is_museum.ensures c.args.thing) in
    let is : c.of.result ≡ spots_in c.args.self.now c.args.thing =
    c.of.ensures ∙ spots_kept c.self.invariant c.self.view_is c.args.thing c.requires in
    subst (λ ss. length ss ≤ MOST_ENTRIES) (sym is) few
