use Rattle.std.proofs.Common.{List, ap, subst, ℕ, ◌++◌, ◌∙◌}
use Rattle.std.specs.Prelude.{None}
use Rattle.page_core.specs.Tree.{lines_at}
use Rattle.page_core.specs.TreeRows.{line_row}
use Rattle.page_core.specs.declared.frame.TheConstants.{UNPLACED, TREE_END}
use Rattle.reports.specs.Writes.{Writes, rows_text}
use Rattle.page_core.proofs.Sections.{section-texts}
use Rattle.page_core.proofs.page.write_unplaced.Goals as goal

pub returns : goal.returns
returns g c =
    let B = c.args.ledger.now in
    subst (λ (t : List ℕ). Writes (g.W.Write.contents c.args.out.now)
    (g.W.Write.contents c.write_section.new.out) c.write_section.result t)
    (ap (λ texts. UNPLACED.now ++ (rows_text texts ++ TREE_END.now)) c.in_ok-rows.ensures
    ∙ section-texts UNPLACED.now TREE_END.now (line_row B)
    (lines_at B None)) c.write_section.ensures
