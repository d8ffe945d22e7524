use Rattle.std.proofs.Common.{subst}
use Rattle.page_core.specs.Pieces.{page_text}
use Rattle.posting_core.specs.Book.{Book}
use Rattle.page_core.specs.Pages.{page}
use Rattle.reports.specs.Writes.{Writes}
use Rattle.page_core.proofs.past_page.write_past_page.Goals as goal

pub returns : goal.returns
returns g c =
    let old = g.W.Write.contents c.args.out.now in
    let new = g.W.Write.contents c.write_page-ended.new.out in
    subst (λ (B : Book). Writes old new c.write_page-ended.result (page_text (page B c.args.on)))
    c.in_ok-past.ensures c.write_page-ended.ensures
