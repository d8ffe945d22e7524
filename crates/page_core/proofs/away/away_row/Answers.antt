use Rattle.std.proofs.Common.{◌≡◌, ◌∙◌, ◌∷◌, [], ℕ, IfOk, List, ap, string_bytes, subst}
use Rattle.std.proofs.Common.{sym, unwrap_or}
use Rattle.nest_core.specs.Museum.{normal_of}
use Rattle.reports.specs.declared.form.Form.TheVariants.{Csv}
use Rattle.reports.specs.Cells.{Cell, text, text_if}
use Rattle.reports.specs.Texts.{place_text_if, thing_text}
use Rattle.reports.specs.Things.{away_row as away_values}
use Rattle.page_core.specs.Pieces.{page_text}
use Rattle.reports.specs.Values.{value_of}
use Rattle.page_core.specs.Values.{values_row}
use Rattle.page_core.proofs.away.away_row.Goals as goal

abbrev row : List ℕ → Cell → Cell → List Cell
row object place normal = text object ∷ place ∷ normal ∷ []

pub returns : goal.returns
returns c =
    let S = c.args.setup.now in
    let x = c.args.away.object in
    let object : c.thing_code.result ≡ thing_text S x =
    sym (ap (λ o. unwrap_or o []) c.thing_code.ensures) in
    let place : value_of c.place_if-place.result ≡ text_if (place_text_if S c.args.away.place) =
    c.place_if-place.ensures in
    let normal : value_of c.place_if-normal.result ≡ text_if (place_text_if S (normal_of S x)) =
    c.place_if-normal.ensures ∙ ap (λ p. text_if (place_text_if S p)) c.normal.ensures.normal in
    let same : row c.thing_code.result (value_of c.place_if-place.result)
    (value_of c.place_if-normal.result) ≡ away_values S Csv c.args.away =
    cc (object, place, normal) in
    subst (λ (values : List Cell). IfOk c.values_row.result (λ row. string_bytes row
    ≡ page_text (values_row values))) same c.values_row.ensures
