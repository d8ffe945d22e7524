use Rattle.std.proofs.Common.{◌==◌}
use Rattle.table_core.proofs.Parts.{front_is}
use Rattle.table_core.proofs.days.before.Goals as goal

pub returns : goal.returns
returns c = front_is (λ b. b == c.args.mark) c.args.text.now c.front_length.result
    c.front_length.ensures.count
