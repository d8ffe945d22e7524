use Rattle.std.proofs.Common.{List, ap, subst, sym, ℕ, ◌++◌, ◌∙◌}
use Rattle.page_core.specs.declared.frame.TheConstants.{TREE, TREE_END}
use Rattle.page_core.specs.Tree.{tree_lines}
use Rattle.page_core.specs.TreeRows.{line_row, tree_rows}
use Rattle.reports.specs.Writes.{Writes, rows_text}
use Rattle.page_core.proofs.Sections.{section-text, texts-of}
use Rattle.page_core.proofs.page.write_tree.Goals as goal

pub returns : goal.returns
returns g c =
    let B = c.args.ledger.now in
    subst (λ (t : List ℕ). Writes (g.W.Write.contents c.args.out.now)
    (g.W.Write.contents c.write_section.new.out) c.write_section.result t)
    (ap (λ texts. TREE.now ++ (rows_text texts ++ TREE_END.now))
    (c.in_ok-rows.ensures ∙ sym (texts-of (line_row B) (tree_lines B)))
    ∙ sym (section-text TREE.now (tree_rows B) TREE_END.now)) c.write_section.ensures
