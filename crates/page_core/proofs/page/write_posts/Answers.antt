use Rattle.std.proofs.Common.{List, [], subst, sym, ℕ, ◌++◌, ◌∷◌}
use Rattle.page_core.specs.Pieces.{Piece}
use Rattle.page_core.specs.Pieces.Piece.{markup}
use Rattle.reports.specs.Writes.{Writes}
use Rattle.page_core.specs.declared.script.TheConstants.{PAGE_END}
use Rattle.page_core.proofs.Sections.{end-text}
use Rattle.page_core.specs.Pages.{entries, stations}
use Rattle.page_core.proofs.Sections.{first_fails, later_fails, then_rest}
use Rattle.reports.proofs.WrittenSections.{writes_err}
use Rattle.page_core.proofs.page.write_posts.Goals as goal

abbrev end : List Piece
end = markup PAGE_END.now ∷ []

pub returns-in_err-write_stations : goal.returns-in_err-write_stations
returns-in_err-write_stations g c =
    let B = c.args.ledger.now in
    writes_err _ _ c.from_residual.result _ _ c.from_residual.ensures.1
    (first_fails _ _ (stations B) (entries B ++ end) c.in_err-write_stations.ensures)

pub returns-in_err-write_entries : goal.returns-in_err-write_entries
returns-in_err-write_entries g c =
    let B = c.args.ledger.now in
    writes_err _ _ c.from_residual-in_err-write_entries.result _ _
    c.from_residual-in_err-write_entries.ensures.1
    (later_fails _ _ _ (stations B) (entries B ++ end)
    c.in_ok-write_stations.ensures
    (first_fails _ _ (entries B) end c.in_err-write_entries.ensures))

pub returns : goal.returns
returns g c =
    let B = c.args.ledger.now in
    then_rest _ _ _ c.write_text.result (stations B) (entries B ++ end)
    c.in_ok-write_stations.ensures
    (then_rest _ _ _ c.write_text.result (entries B) end
    c.in_ok-write_entries.ensures
    (subst (λ (t : List ℕ). Writes (g.W.Write.contents c.write_entries.new.out)
    (g.W.Write.contents c.write_text.new.out) c.write_text.result t)
    (sym (end-text PAGE_END.now)) c.write_text.ensures))
