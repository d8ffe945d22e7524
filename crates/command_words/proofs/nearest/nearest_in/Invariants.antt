use Rattle.std.specs.List.{AllWithin}
use Rattle.command_words.specs.Distances.{IsAsNear, IsFoundBy, IsNoNearer}
use Rattle.command_words.proofs.nearest.nearest_in.Given as goal

-- The best so far is as near as the first, and no earlier word is nearer.
abbrev pub invariant-loop-meaning : goal.invariant-loop-meaning
invariant-loop-meaning l = IsFoundBy l.text l.best
    × AllWithin (IsNoNearer l.text l.best) l.table 0 l.meaning-index
    × IsAsNear l.fn.best l.best
