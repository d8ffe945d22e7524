use Rattle.std.proofs.Common.{List, ap, subst, ℕ, ◌++◌, ◌∙◌}
use Rattle.page_core.specs.Entries.{entry_row, last_entries}
use Rattle.page_core.specs.declared.frame.TheConstants.{ENTRIES, TABLE_END}
use Rattle.reports.specs.Writes.{Writes, rows_text}
use Rattle.page_core.proofs.Sections.{section-texts}
use Rattle.page_core.proofs.page.write_entries.Goals as goal

pub returns : goal.returns
returns g c =
    let B = c.args.ledger.now in
    subst (λ (t : List ℕ). Writes (g.W.Write.contents c.args.out.now)
    (g.W.Write.contents c.write_section.new.out) c.write_section.result t)
    (ap (λ texts. ENTRIES.now ++ (rows_text texts ++ TABLE_END.now)) c.in_ok-rows.ensures
    ∙ section-texts ENTRIES.now TABLE_END.now (entry_row B) (last_entries B))
    c.write_section.ensures
