use Rattle.std.proofs.Common.{arith}
use Rattle.question_words.proofs.Numbers.{read}
use Rattle.hub_program.proofs.sealing.entry_of.Goals as goal

pub returns-in-Ok : goal.returns-in-Ok
returns-in-Ok c =
    let below = c.in-Ok.ensures.value.0.0.1 in
    (read c.args.text c.in-Ok.entry c.in-Ok.ensures.value.0.0.0 (omega (arith, below))
    c.in-Ok.ensures.value.0.1).0
