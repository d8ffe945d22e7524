use Rattle.std.proofs.Common.{arith}
use Rattle.std.proofs.lemmas.Str.{IsCharBoundary-after_ascii}
use Rattle.borrowed_json.proofs.plain.lexeme.after_byte.Goals as goal

pub range_from-requires : goal.range_from-requires
range_from-requires c some =
    IsCharBoundary-after_ascii c.args.text.now 0 c.utf8.text (grind arith) (grind arith)
