use Rattle.std.proofs.Common.{List, ap, subst, ℕ, ◌++◌, ◌∙◌}
use Rattle.count_core.specs.Reports.{away}
use Rattle.page_core.specs.Away.{away_row}
use Rattle.page_core.specs.declared.frame.TheConstants.{AWAY, TABLE_END}
use Rattle.reports.specs.Writes.{Writes, rows_text}
use Rattle.page_core.proofs.Sections.{section-texts}
use Rattle.page_core.proofs.page.write_away.Goals as goal

pub returns : goal.returns
returns g c =
    let B = c.args.ledger.now in
    subst (λ (t : List ℕ). Writes (g.W.Write.contents c.args.out.now)
    (g.W.Write.contents c.write_section.new.out) c.write_section.result t)
    (ap (λ texts. AWAY.now ++ (rows_text texts ++ TABLE_END.now)) c.in_ok-rows.ensures
    ∙ section-texts AWAY.now TABLE_END.now (away_row B.museum)
    (away B)) c.write_section.ensures
