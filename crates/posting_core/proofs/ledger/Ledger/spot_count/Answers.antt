use Rattle.std.proofs.Common.{ap, ◌≡◌, ◌≤◌, ◌∙◌, length, sym, subst, arith}
use Rattle.posting_core.specs.declared.TheConstants.{MOST_ENTRIES}
use Rattle.posting_core.specs.Book.{Book, spots_in}
use Rattle.posting_core.proofs.Few.{few_spots_kept}
use Rattle.posting_core.proofs.Posted.{row_kept, spots_kept}
use Rattle.posting_core.proofs.ledger.Ledger.spot_count.Goals as goal

pub count_of-requires : goal.count_of-requires
count_of-requires c = row_kept c.self.invariant c.self.view_is c.args.thing c.requires

pub overflow_cast-result : goal.overflow_cast-result
overflow_cast-result c =
    let is : c.count_of.result ≡ length (spots_in c.args.self.now c.args.thing) =
    c.count_of.ensures ∙ ap length
    (spots_kept c.self.invariant c.self.view_is c.args.thing c.requires) in
    let few : length (spots_in c.args.self.now c.args.thing) ≤ 63999936 =
    subst (λ (B : Book). length (spots_in B c.args.thing) ≤ MOST_ENTRIES) c.self.view_is
    (few_spots_kept c.self.invariant c.is_museum.ensures c.args.thing) in
    omega arith

pub returns-clause-count : goal.returns-clause-count
returns-clause-count c = c.count_of.ensures
    ∙ ap length (spots_kept c.self.invariant c.self.view_is c.args.thing c.requires)

pub returns-clause-few : goal.returns-clause-few
returns-clause-few c =
    let is : c.count_of.result ≡ length (spots_in c.args.self.now c.args.thing) =
    c.count_of.ensures ∙ ap length
    (spots_kept c.self.invariant c.self.view_is c.args.thing c.requires) in
    subst (λ n. n ≤ MOST_ENTRIES) (sym is)
    (subst (λ (B : Book). length (spots_in B c.args.thing) ≤ MOST_ENTRIES) c.self.view_is
    (few_spots_kept c.self.invariant c.is_museum.ensures c.args.thing))
