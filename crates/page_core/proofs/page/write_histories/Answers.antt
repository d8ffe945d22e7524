use Rattle.std.proofs.Common.{List, ap, subst, sym, ℕ, ◌++◌, ◌∙◌}
use Rattle.std.specs.Prelude.{length}
use Rattle.std.specs.List.{range_with_len}
use Rattle.std.proofs.lemmas.List.Folds.{flat_map-map}
use Rattle.page_core.specs.declared.frame.TheConstants.{HISTORIES, HISTORIES_END}
use Rattle.page_core.specs.Histories.{history_row, history_text}
use Rattle.reports.specs.Writes.{Writes}
use Rattle.page_core.proofs.Sections.{section-texts}
use Rattle.page_core.proofs.page.write_histories.Goals as goal

pub returns : goal.returns
returns g c =
    let B = c.args.ledger.now in
    let indices = range_with_len 0 (length B.posted) in
    subst (λ (t : List ℕ). Writes (g.W.Write.contents c.args.out.now)
    (g.W.Write.contents c.write_spots.new.out) c.write_spots.result t)
    (ap (λ t. HISTORIES.now ++ (t ++ HISTORIES_END.now))
    (sym (flat_map-map (λ t. t) (history_text B) indices))
    ∙ section-texts HISTORIES.now HISTORIES_END.now (history_row B) indices) c.write_spots.ensures
