use Rattle.std.proofs.Common.{◌≡◌}
use Rattle.std.specs.Io.KnownBytes.{Appends}
use Rattle.std.specs.List.{flat_map, range_with_len}
use Rattle.posting_core.specs.Past.{upto}
use Rattle.page_core.specs.Histories.{history_text}
use Rattle.page_core.proofs.histories.write_all.Given as goal

abbrev pub invariant-loop-i : goal.invariant-loop-i
invariant-loop-i g l =
    (l.so_far ≡ upto l.ledger l.i)
    × Appends (g.W.Write.contents l.fn.out) (g.W.Write.contents l.out)
    (flat_map (history_text l.ledger) (range_with_len 0 l.i))
