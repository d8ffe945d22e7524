use Rattle.std.proofs.Common.{Option, ℕ, subst, sym}
use Rattle.posting_core.specs.Past.{as_of}
use Rattle.page_core.specs.Pieces.{page_text}
use Rattle.page_core.specs.Pages.{page}
use Rattle.reports.specs.Writes.{Writes}
use Rattle.page_core.proofs.past_page.write_page_as_of.Goals as goal

pub returns-in-None : goal.returns-in-None
returns-in-None g c =
    let old = g.W.Write.contents c.args.out.now in
    let new = g.W.Write.contents c.write_page.new.out in
    subst (λ (u : Option ℕ). Writes old new c.write_page.result
    (page_text (page (as_of u c.args.ledger.now) c.args.on)))
    (sym c.in-None.is) c.write_page.ensures

pub returns-in-Some : goal.returns-in-Some
returns-in-Some g c =
    let old = g.W.Write.contents c.args.out.now in
    let new = g.W.Write.contents c.write_past_page.new.out in
    subst (λ (u : Option ℕ). Writes old new c.write_past_page.result
    (page_text (page (as_of u c.args.ledger.now) c.args.on)))
    (sym c.in-Some.is) c.write_past_page.ensures
