use Rattle.std.proofs.Common.{◌≡◌, refl, rules, true}
use Rattle.desk_core.proofs.TakeLemmas.{quiet}
use Rattle.desk_core.specs.Sent.{is_own}
use Rattle.desk_core.proofs.passing.pass_request.Goals as goal

pub returns-then-is_own : goal.returns-then-is_own
returns-then-is_own g c =
    let own : is_own c.args.bench.now.station c.args.line.station ≡ true = search rules in
    quiet tt c.requires.up (λ O A st. (rw own c.in_ok-add_own_line.ensures, rw own refl))
