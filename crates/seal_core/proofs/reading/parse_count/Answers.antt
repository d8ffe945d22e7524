use Rattle.std.proofs.Common.{◌∙◌, sym, arith, ap, subst, ◌<◌, ◌^◌, decimal}
use Rattle.std.specs.Result.{result_ok}
use Rattle.std.specs.Str.{IsUtf8}
use Rattle.std.proofs.lemmas.Fmt.{IsAscii-decimal, parse-decimal}
use Rattle.std.proofs.lemmas.Str.{IsUtf8-from_ascii}
use Rattle.seal_core.proofs.reading.parse_count.Goals as goal

pub returns-in-Ok : goal.returns-in-Ok
returns-in-Ok c = λ number small spelled.
    c.ok.ensures.value
    ∙ ap result_ok
    (parse-decimal 32 number c.in-Ok.text.now c.parse.result small (omega (arith, small))
    (c.in-Ok.ensures.cases.0 ∙ spelled) c.parse.ensures.value.0)

pub returns-in-Err : goal.returns-in-Err
returns-in-Err c = λ number small spelled.
    let wide : number < 2 ^ 64 = omega (arith, small) in
    absurd (c.in-Err.ensures.cases.0
    (subst IsUtf8 (sym spelled) (IsUtf8-from_ascii (decimal number) (IsAscii-decimal number wide))))
