use Rattle.std.proofs.Common.{◌∙◌, ◌∷◌, ◌++◌, [], add-one, ap, arith, map, sym, take}
use Rattle.std.proofs.lemmas.List.{length-map, map-append, take_all}
use Rattle.std.specs.Option.{option_to_list}
use Rattle.std.specs.Prelude.{string_bytes}
use Rattle.reports.specs.Aligned.{filled_texts}
use Rattle.reports.proofs.TableLemmas.{length-filled_texts}
use Rattle.reports.proofs.WrittenText.{row_taken}
use Rattle.reports.proofs.table.filled_texts.Goals as goal

pub loop-i-preserved : goal.loop-i-preserved
loop-i-preserved c =
    let all = filled_texts c.args.widths.now (map string_bytes c.args.texts.now) in
    let i = c.loop-i.i in
    let text = c.in_ok-filled_text.field-0 in
    ap (map string_bytes) c.in_ok-push.ensures.items
    ∙ (map-append string_bytes c.loop-i.filled.items (text ∷ [])
    ∙ (ap (λ ts. ts ++ string_bytes text ∷ []) c.loop-i.invariant
    ∙ sym (ap (λ n. take n all) (add-one i)
    ∙ (row_taken all i
    ∙ ap (λ o. take i all ++ option_to_list o) c.in_ok-filled_text.ensures))))

pub returns : goal.returns
returns c =
    let texts = map string_bytes c.args.texts.now in
    c.loop-i.invariant
    ∙ take_all c.loop-i.i (filled_texts c.args.widths.now texts)
    (omega (
      arith,
      length-filled_texts c.args.widths.now texts,
      length-map c.args.texts.now string_bytes,
      c.loop-i-test.false,
      c.loop-i.auto.i-end,
    ))
