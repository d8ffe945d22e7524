use Rattle.std.proofs.Common.{◌∙◌, List, ℕ, sym, subst}
use Rattle.std.specs.Bool.{Decides}
use Rattle.posting_core.specs.LoanRows.{AreOnce}
use Rattle.posting_core.proofs.Known.{all_known_in}
use Rattle.posting_core.proofs.ObjectNumbers.{repeats_told}
use Rattle.posting_core.proofs.ledger.Ledger.judge_agree.Goals as goal

pub judge_terms-requires : goal.judge_terms-requires
judge_terms-requires c =
    let objects = c.args.objects.now in
    let book = c.args.self.now in
    let known = all_known_in book.museum book.posted objects
    (sym c.any_unknown.ensures.unknown ∙ c.if-any_unknown.false) in
    repeats_told book.museum objects c.are_once-repeated.result known
    (subst (λ (ns : List ℕ). Decides c.are_once-repeated.result (AreOnce ns))
    (c.any_unknown.ensures.numbers c.if-any_unknown.false) c.are_once-repeated.ensures)
