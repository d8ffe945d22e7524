use Rattle.std.proofs.Common.{reverse, take}
use Rattle.std.specs.List.{flat_map}
use Rattle.std.specs.Io.KnownBytes.{Appends}
use Rattle.serve_core.specs.Wording.{logged_text}
use Rattle.work_core.proofs.serving.write_log.Given as goal

abbrev pub invariant-loop-line : goal.invariant-loop-line
invariant-loop-line g l =
    Appends (g.W.Write.contents l.fn.output) (g.W.Write.contents l.output)
    (flat_map (logged_text l.ledger.museum (reverse l.ledger.posted)) (take l.line-index l.lines))
