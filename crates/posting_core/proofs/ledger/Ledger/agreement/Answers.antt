use Rattle.std.proofs.Common.{ap, arith, sym}
use Rattle.posting_core.specs.Book.{Book}
use Rattle.posting_core.proofs.AgreedEntries.{entry_makes, entry_within, number_some, number_within}
use Rattle.posting_core.proofs.Posted.{agreed_kept}
use Rattle.posting_core.proofs.ledger.Ledger.agreement.Goals as goal

pub index-number-requires : goal.index-number-requires
index-number-requires c =
    let within = number_within c.args.self.now.posted
    (agreed_kept c.self.invariant c.self.view_is) c.args.loan.now c.in_ok-i.i
    (sym c.in_ok-i.ensures.number) in
    omega (arith, within)

pub overflow_sub-number : goal.overflow_sub-number
overflow_sub-number c =
    number_some c.args.self.now.posted (agreed_kept c.self.invariant c.self.view_is)
    c.args.loan.now c.in_ok-i.i (sym c.in_ok-i.ensures.number) c.index-number.result.now
    c.index-number.ensures

pub index-requires : goal.index-requires
index-requires c =
    let within = entry_within c.args.self.now.posted
    (agreed_kept c.self.invariant c.self.view_is) c.args.loan.now c.in_ok-i.i
    (sym c.in_ok-i.ensures.number) c.self.inside.posted.items c.index-number.result.now
    (ap (λ (B : Book). B.posted) c.self.view_is) c.index-number.ensures in
    omega (arith, within)

pub returns-clause-agreement : goal.returns-clause-agreement
returns-clause-agreement c =
    entry_makes c.args.self.now.posted (agreed_kept c.self.invariant c.self.view_is)
    c.args.loan.now c.in_ok-i.i (sym c.in_ok-i.ensures.number) c.self.inside.posted.items
    c.index-number.result.now c.index.result.now (ap (λ (B : Book). B.posted) c.self.view_is)
    c.index-number.ensures c.index.ensures
