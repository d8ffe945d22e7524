use Rattle.std.proofs.Common.{◌≡◌, ◌-◌, ◌∷◌, take, drop, sym, ap, ◌∙◌, subst}
use Rattle.std.proofs.Common.{arith}
use Rattle.std.specs.List.{prefix_len}
use Rattle.std.specs.Str.{IsCharBoundary}
use Rattle.json.specs.Run.{is_plain}
use Rattle.json.specs.Lex.{token}
use Rattle.json.specs.Token.{string}
use Rattle.borrowed_json.specs.Steps.{Takes}
use Rattle.borrowed_json.proofs.Lexemes.{skipped, takes_string, boundary}
use Rattle.borrowed_json.proofs.Lacking.{lacks_string, lacks_unclosed, lacks_there}
use Rattle.borrowed_json.proofs.plain.lexeme.string.Goals as goal

pub returns-in_default : goal.returns-in_default
returns-in_default c h s =
    let start = c.from_lexeme in
    lacks_there c.args.text.now start.result.now (token (string s)) start.ensures.lexemes
    (lacks_string start.result.now s start.ensures.begins c.in_default.ensures)

pub range_from-requires : goal.range_from-requires
range_from-requires c some =
    let inside = c.in-Some.inside.now in
    subst (IsCharBoundary inside) (sym c.plain_len-end.ensures) (boundary inside)

pub returns-in_default-after_byte : goal.returns-in_default-after_byte
returns-in_default-after_byte c h s =
    let start = c.from_lexeme in
    let inside = c.in-Some.inside.now in
    let n : c.plain_len-end.result ≡ prefix_len is_plain inside = c.plain_len-end.ensures in
    lacks_there c.args.text.now start.result.now (token (string s)) start.ensures.lexemes
    (lacks_unclosed start.result.now inside s c.in-Some.ensures
    (λ rest e. c.in_default-after_byte.ensures rest
    (c.range_from.ensures.value ∙ ap (λ k. drop k inside) n ∙ e)) (start.ensures.plain h))

pub returns : goal.returns
returns c =
    let start = c.from_lexeme in
    let inside = c.in-Some.inside.now in
    let rest = c.in-Some-after_byte.rest.now in
    let n : c.plain_len-end.result ≡ prefix_len is_plain inside = c.plain_len-end.ensures in
    let closing : drop (prefix_len is_plain inside) inside ≡ 34 ∷ rest =
    ap (λ k. drop k inside) (sym n) ∙ sym c.range_from.ensures.value
    ∙ c.in-Some-after_byte.ensures
    in
    let whole : c.plain_len-end.result - 0 ≡ c.plain_len-end.result = omega arith in
    let found : take (prefix_len is_plain inside) inside ≡ c.range.result.now =
    ap (λ k. take k inside) (sym (whole ∙ n)) ∙ sym c.range.ensures.value in
    skipped c.args.text.now start.result.now rest (token (string c.range.result.now))
    start.ensures.lexemes start.ensures.plain start.ensures.shorter
    (subst (λ s. Takes start.result.now (token (string s)) rest) found
    (takes_string start.result.now inside rest c.in-Some.ensures closing))
