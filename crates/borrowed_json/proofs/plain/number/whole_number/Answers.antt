use Rattle.std.proofs.Common.{◌≡◌, ◌-◌, ◌<◌, ◌^◌, ◌++◌, true, false, Some}
use Rattle.std.proofs.Common.{take, drop, sym, ap}
use Rattle.std.proofs.Common.{ap₂, ◌∙◌, subst, arith}
use Rattle.std.proofs.Common.{take-append-drop}
use Rattle.std.specs.Str.{IsCharBoundary}
use Rattle.std.specs.Str.Parse.{IsNumeral, digits_value}
use Rattle.json.specs.Print.{IsNumber}
use Rattle.json.specs.Word.{ends_word}
use Rattle.json.specs.Token.{number}
use Rattle.json.specs.Lex.{token}
use Rattle.borrowed_json.proofs.Lexemes.{skipped}
use Rattle.std.proofs.lemmas.Bool.{true≢false}
use Rattle.borrowed_json.proofs.NumberTexts.{number_first}
use Rattle.borrowed_json.proofs.Numerals.{digits_read, takes_number, digits_boundary}
use Rattle.borrowed_json.proofs.plain.number.whole_number.Goals as goal

pub range-digits-requires-clause-end_boundary : goal.range-digits-requires-clause-end_boundary
range-digits-requires-clause-end_boundary c =
    let start = c.from_lexeme-start.result.now in
    subst (IsCharBoundary start) (sym c.digits_len-len.ensures)
    (digits_boundary start c.from_lexeme-start.utf8)

pub range_from-rest-requires : goal.range_from-rest-requires
range_from-rest-requires c some =
    let start = c.from_lexeme-start.result.now in
    subst (IsCharBoundary start) (sym c.digits_len-len.ensures)
    (digits_boundary start c.from_lexeme-start.utf8)

pub returns : goal.returns
returns c =
    let start = c.from_lexeme-start in
    let s = c.range-digits.result.now in
    let rest = c.range_from-rest.result.now in
    let whole : c.digits_len-len.result - 0 ≡ c.digits_len-len.result = omega arith in
    let parts : start.result.now ≡ s ++ rest =
    sym (take-append-drop c.digits_len-len.result start.result.now)
    ∙ ap₂ (λ x y. x ++ y) (ap (λ k. take k start.result.now) (sym whole)
    ∙ sym c.range-digits.ensures.value) (sym c.range_from-rest.ensures.value) in
    let told : c.as_bytes.result.now ≡ s = c.as_bytes.ensures.value in
    let is : IsNumeral 10 s = subst (IsNumeral 10) told c.in-Some.ensures.0 in
    let value : c.in-Some.n ≡ digits_value 10 s =
    c.in-Some.ensures.1 ∙ ap (digits_value 10) told in
    let numbered : IsNumber s = c.is_number.ensures.0 (grind arith) in
    let ended : ends_word rest ≡ true = grind arith in (
      s,
      skipped c.args.text.now start.result.now rest (token (number s)) start.ensures.lexemes
          start.ensures.plain start.ensures.shorter
          (takes_number start.result.now s rest parts is numbered ended),
      digits_read s c.in-Some.n is value (omega arith) ∙ ap Some (sym c.from.ensures),
    )

pub returns-then-not-ends_word : goal.returns-then-not-ends_word
returns-then-not-ends_word c h s ls e =
    let start = c.from_lexeme-start in
    let n = number_first start.result.now s ls start.ensures.begins (start.ensures.plain h)
    (start.ensures.lexemes ∙ e) in
    let fine : ends_word c.range_from-rest.result.now ≡ true =
    ap ends_word (c.range_from-rest.ensures.value
    ∙ ap (λ k. drop k start.result.now) c.digits_len-len.ensures) ∙ n.ended in
    let no : ends_word c.range_from-rest.result.now ≡ false = grind arith in
    true≢false (sym fine ∙ no)

pub returns-then-not-is_number : goal.returns-then-not-is_number
returns-then-not-is_number c h s ls e =
    let start = c.from_lexeme-start in
    let n = number_first start.result.now s ls start.ensures.begins (start.ensures.plain h)
    (start.ensures.lexemes ∙ e) in
    let whole : c.digits_len-len.result - 0 ≡ c.digits_len-len.result = omega arith in
    let same : c.range-digits.result.now ≡ s =
    c.range-digits.ensures.value ∙ ap (λ k. take k start.result.now)
    (whole ∙ c.digits_len-len.ensures) ∙ n.front in
    let yes : c.is_number.result ≡ true =
    c.is_number.ensures.1 (subst IsNumber (sym same) n.numbered) in
    let no : c.is_number.result ≡ false = grind arith in
    true≢false (sym yes ∙ no)

pub returns-in_default : goal.returns-in_default
returns-in_default c h s ls e =
    let start = c.from_lexeme-start in
    let n = number_first start.result.now s ls start.ensures.begins (start.ensures.plain h)
    (start.ensures.lexemes ∙ e) in
    let whole : c.digits_len-len.result - 0 ≡ c.digits_len-len.result = omega arith in
    let same : c.as_bytes.result.now ≡ s =
    c.as_bytes.ensures.value ∙ c.range-digits.ensures.value
    ∙ ap (λ k. take k start.result.now) (whole ∙ c.digits_len-len.ensures) ∙ n.front in
    c.in_default.ensures (subst (IsNumeral 10) (sym same) n.numeral)
    (subst (λ k. digits_value 10 k < 2 ^ 64) (sym same) n.fits)
