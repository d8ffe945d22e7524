use Rattle.std.proofs.Common.{arith, rules}
use Rattle.page_core.proofs.Characters.{escaped-encode}
use Rattle.page_core.proofs.escapes.push_char.Goals as goal

pub returns-in_default : goal.returns-in_default
returns-in_default c =
    rw (escaped-encode c.args.c (λ e. omega arith) (λ e. omega arith) (λ e. omega arith)
    (λ e. omega arith) (λ e. omega arith)) (search rules)
