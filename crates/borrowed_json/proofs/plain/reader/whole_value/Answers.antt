use Rattle.std.proofs.Common.{◌≡◌, [], length, Some, refl, ap, ◌∙◌, subst, arith}
use Rattle.std.proofs.lemmas.Bool.Decides.{nat_tests}
use Rattle.json.specs.Json.{value}
use Rattle.json.specs.Lex.{fresh, between, lex, punctuate, after_value, tokens}
use Rattle.serde_json.specs.Read.{max_depth}
use Rattle.borrowed_json.specs.View.{view}
use Rattle.borrowed_json.proofs.Reading.{whole_read, whole_and_more, at_end}
use Rattle.borrowed_json.proofs.Refusals.{Starts, text_starts}
use Rattle.borrowed_json.proofs.plain.reader.whole_value.Goals as goal

pub returns-clause-ok : goal.returns-clause-ok
returns-clause-ok c =
    let text = c.args.text.now in
    let rest = c.in_ok-value.rest.now in
    let v = c.in_ok-value.value in
    let empty : length c.from_lexeme.result.now ≡ 0 = grind (arith, nat_tests) in
    let over : punctuate after_value (lex between rest) ≡ [] =
    at_end rest c.from_lexeme.result.now c.from_lexeme.ensures.lexemes empty in
    whole_read (value max_depth (tokens text)) (view v)
    (c.in_ok-value.ensures.ok.reads fresh refl ∙ ap (λ ts. Some (view v, ts)) over)

pub returns-then-not-is_empty-clause-unusual : goal.returns-then-not-is_empty-clause-unusual
returns-then-not-is_empty-clause-unusual c u h =
    let text = c.args.text.now in
    let rest = c.in_ok-value.rest.now in
    let start = c.from_lexeme in
    let v = c.in_ok-value.value in
    let some : (length start.result.now ≡ 0) → ⊥ = λ none. grind (arith, nat_tests) in
    let starts = text_starts start.result.now start.ensures.begins some in
    let more : (punctuate after_value (lex between rest) ≡ []) → ⊥ = λ none. subst Starts
    (ap (punctuate after_value) start.ensures.lexemes ∙ none) starts in
    whole_and_more (value max_depth (tokens text)) (view v)
    (punctuate after_value (lex between rest)) more (c.in_ok-value.ensures.ok.reads fresh refl)
