use Rattle.std.proofs.Common.{ap, ◌≡◌, ◌≤◌, ◌∙◌, length, sym, subst, arith}
use Rattle.std.proofs.lemmas.List.{length-reverse}
use Rattle.posting_core.specs.declared.TheConstants.{MOST_ENTRIES}
use Rattle.posting_core.specs.Book.{Book}
use Rattle.posting_core.proofs.Few.{few_kept}
use Rattle.posting_core.proofs.ledger.Ledger.entry_count.Goals as goal

pub overflow_cast-result : goal.overflow_cast-result
overflow_cast-result c =
    let is : length c.args.self.now.posted ≡ length c.posted.result.now =
    ap length (sym c.posted.ensures) ∙ length-reverse c.posted.result.now in
    let few : length c.args.self.now.posted ≤ 63999936 =
    subst (λ (C : Book). length C.posted ≤ MOST_ENTRIES) c.self.view_is
    (few_kept c.self.invariant c.is_museum.ensures) in
    omega (arith, is, few)

pub returns-clause-few : goal.returns-clause-few
returns-clause-few c =
    let is : length c.args.self.now.posted ≡ length c.posted.result.now =
    ap length (sym c.posted.ensures) ∙ length-reverse c.posted.result.now in
    subst (λ n. n ≤ MOST_ENTRIES) is
    (subst (λ (C : Book). length C.posted ≤ MOST_ENTRIES) c.self.view_is
    (few_kept c.self.invariant c.is_museum.ensures))
