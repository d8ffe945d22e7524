use Rattle.std.proofs.Common.{rules, ◌++◌, ◌∷◌, [], sym, ap, ◌∙◌, map, string_bytes}
use Rattle.std.proofs.lemmas.List.{map-append}
use Rattle.nest_core.specs.SetupTexts.{setup_rows}
use Rattle.register_store.proofs.Lists.{got_further}
use Rattle.register_store.proofs.ledger_rows.row_texts.Goals as goal

pub loop-i-preserved : goal.loop-i-preserved
loop-i-preserved c =
    let text = c.in_ok-row_text.field-0 in
    let there = got_further (setup_rows c.args.setup.now) c.loop-i.i (string_bytes text)
    (search rules) in
    ap (map string_bytes) (c.in_ok-push.ensures.items) ∙ map-append string_bytes
    c.loop-i.texts.items (text ∷ []) ∙ ap (λ l. l ++ string_bytes text ∷ [])
    c.loop-i.invariant ∙ sym there
