use Rattle.std.proofs.Common.{◌≡◌, ◌∙◌, ◌∷◌, [], OnOk, ap, map, option_map, subst, sym}
use Rattle.std.specs.Option.{option_to_list}
use Rattle.reports.specs.Aligned.{column_widths, row_texts, wider, width}
use Rattle.reports.specs.Cells.{cell_of}
use Rattle.reports.proofs.TableLemmas.{wider-none}
use Rattle.reports.proofs.reports.why.widen_to_wanted.Goals as goal

pub returns-in-Some : goal.returns-in-Some
returns-in-Some c =
    let e = sym c.in_ok-wanted_row.ensures
    ∙ (ap (λ row. option_to_list (option_map (λ r. map cell_of r.items) row)) c.in-Some.is
    ∙ ap (λ items. map cell_of items ∷ []) (sym c.as_slice.ensures.value)) in
    let widths = ap (λ rows. column_widths (map row_texts rows)) e
    ∙ wider-none (map width (row_texts (map cell_of c.as_slice.result.now))) in
    subst (λ ws. OnOk c.widen_to_row.result
    (c.widen_to_row.new.widths.items ≡ wider c.args.widths.now.items ws))
    (sym widths) c.widen_to_row.ensures
