use Rattle.std.proofs.Common.{sym, subst}
use Rattle.json.specs.Lex.{operator_lexeme}
use Rattle.borrowed_json.specs.Steps.{Takes}
use Rattle.borrowed_json.proofs.Lexemes.{skipped, takes_operator}
use Rattle.borrowed_json.proofs.Lacking.{lacks_operator, lacks_there}
use Rattle.borrowed_json.proofs.plain.lexeme.after.Goals as goal

pub returns-in_default : goal.returns-in_default
returns-in_default c =
    let start = c.from_lexeme in
    lacks_there c.args.text.now start.result.now (operator_lexeme c.args.operator)
    start.ensures.lexemes
    (lacks_operator start.result.now c.args.operator c.requires start.ensures.begins
    c.in_default.ensures)

pub returns : goal.returns
returns c =
    let start = c.from_lexeme in
    let rest = c.in-Some.rest.now in
    let l = operator_lexeme c.args.operator in
    skipped c.args.text.now start.result.now rest l start.ensures.lexemes start.ensures.plain
    start.ensures.shorter
    (subst (λ t. Takes t l rest) (sym c.in-Some.ensures)
    (takes_operator c.args.operator rest c.requires))
