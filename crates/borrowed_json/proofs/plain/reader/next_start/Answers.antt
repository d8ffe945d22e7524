use Rattle.std.proofs.Common.{arith}
use Rattle.borrowed_json.proofs.Places.{begins_after}
use Rattle.borrowed_json.proofs.plain.reader.next_start.Goals as goal

pub returns : goal.returns
returns c =
    begins_after c.args.later c.args.text.now c.in-Some.rest.now (grind arith) c.in-Some.ensures
