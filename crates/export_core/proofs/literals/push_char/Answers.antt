use Rattle.std.proofs.Common.{arith, rules}
use Rattle.export_core.proofs.Characters.{doubled-encode}
use Rattle.export_core.proofs.literals.push_char.Goals as goal

pub returns-in_default : goal.returns-in_default
returns-in_default c = rw (doubled-encode c.args.c (λ e. omega arith)) (search rules)
