use Rattle.std.proofs.Common.{◌≡◌, ◌*◌, ◌-◌, ◌∙◌, ◌≤◌, ap, arith, drop, length, map, sym, take}
use Rattle.std.specs.Prelude.{string_bytes}
use Rattle.std.proofs.lemmas.List.{drop-map, length-drop, take-map, take_all, take_min}
use Rattle.std.proofs.lemmas.Result.{IfOk-weaker}
use Rattle.export_core.specs.Statements.{insert}
use Rattle.export_core.proofs.statements.statement.Goals as goal

pub returns : goal.returns
returns c =
    let rows = c.args.rows.now in
    let m = c.args.n * 500 in
    let few : length (drop m rows) ≤ length rows - m = omega (arith, length-drop m rows) in
    let rest = take (length rows - m) (drop m rows) in
    let whole : rest ≡ drop m rows = take_all (length rows - m) (drop m rows) few in
    IfOk-weaker c.insert.result _ _ (λ sql is. is ∙ ap (insert c.args.table.now)
    (ap (λ k. map string_bytes (take k rest)) c.min.ensures
    ∙ (ap (map string_bytes) (take_min 500 rest)
    ∙ (ap (λ t. map string_bytes (take 500 t)) whole
    ∙ (sym (take-map string_bytes 500 (drop m rows))
    ∙ ap (take 500) (sym (drop-map string_bytes m rows))))))) c.insert.ensures
