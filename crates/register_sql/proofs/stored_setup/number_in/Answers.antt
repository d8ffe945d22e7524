use Rattle.std.proofs.Common.{◌≡◌, Ok, Err, arith, rules, sym, ◌∙◌}
use Rattle.std.proofs.lemmas.Fmt.{parse-decimal}
use Rattle.register_sql.proofs.stored_setup.number_in.Goals as goal

pub returns-in-Ok : goal.returns-in-Ok
returns-in-Ok c n low is =
    let read : c.parse.result ≡ Ok n =
    parse-decimal 32 n c.args.text.now c.parse.result low (omega (arith, low)) is
    c.parse.ensures.value.0 in
    let here : c.parse.result ≡ Ok c.in-Ok.number = search rules in
    cc

pub returns-in-Err : goal.returns-in-Err
returns-in-Err c n low is =
    let read : c.parse.result ≡ Ok n =
    parse-decimal 32 n c.args.text.now c.parse.result low (omega (arith, low)) is
    c.parse.ensures.value.0 in
    let here : c.parse.result ≡ Err c.in-Err.field-0 = search rules in
    absurd (let e : Err c.in-Err.field-0 ≡ Ok n = sym here ∙ read in cc)
