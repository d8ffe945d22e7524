use Rattle.std.proofs.Common.{◌≡◌, ◌∙◌, true, sym, subst, take, get_or}
use Rattle.std.proofs.lemmas.Bool.{false≢true}
use Rattle.std.proofs.lemmas.List.{take_more}
use Rattle.nest_core.specs.Puts.{is_among}
use Rattle.posting_core.specs.LoanRows.{AreOnce}
use Rattle.posting_core.proofs.ObjectNumbers.{once_more, once_among}
use Rattle.posting_core.proofs.ledger.loan_rules.are_once.Goals as goal

pub returns-then-contains : goal.returns-then-contains
returns-then-contains c =
    let numbers = c.args.numbers.now in
    let among : is_among (get_or numbers c.loop-i.i 0) (take c.loop-i.i numbers) ≡ true =
    sym c.contains.ensures.value ∙ c.if-contains.true in (
      λ e. absurd (false≢true e),
      λ once. sym
          (once_among numbers c.loop-i.i 0 c.loop-i-test.true once) ∙ among,
    )

pub loop-i-preserved : goal.loop-i-preserved
loop-i-preserved c =
    let numbers = c.args.numbers.now in
    subst AreOnce (sym (take_more numbers c.loop-i.i 0 c.loop-i-test.true))
    (once_more (take c.loop-i.i numbers) (get_or numbers c.loop-i.i 0) c.loop-i.invariant
    (sym c.contains.ensures.value ∙ c.if-contains.false))
