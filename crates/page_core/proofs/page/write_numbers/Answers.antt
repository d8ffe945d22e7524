use Rattle.std.proofs.Common.{List, [], ap, subst, sym, ◌++◌, ◌∙◌, ◌∷◌, ℕ}
use Rattle.page_core.specs.declared.frame.TheConstants.{HEAD, NUMBERS_END}
use Rattle.page_core.specs.Numbers.{numbers_row, seal_row}
use Rattle.page_core.specs.Pieces.{page_text}
use Rattle.reports.specs.Writes.{Writes, rows_text}
use Rattle.page_core.proofs.Sections.{section-text}
use Rattle.page_core.proofs.page.write_numbers.Goals as goal

pub returns : goal.returns
returns g c =
    let numbers = numbers_row c.args.ledger.now c.args.on.now in
    let seal = seal_row c.args.ledger.now in
    subst (λ (t : List ℕ). Writes (g.W.Write.contents c.args.out.now)
    (g.W.Write.contents c.write_section.new.out) c.write_section.result t)
    (ap (λ (s : List ℕ). HEAD.now
    ++ (rows_text (page_text numbers ∷ s ∷ []) ++ NUMBERS_END.now))
    (c.as_str.ensures.value ∙ c.in_ok-seal.ensures)
    ∙ sym (section-text HEAD.now (numbers ∷ seal ∷ []) NUMBERS_END.now))
    c.write_section.ensures
