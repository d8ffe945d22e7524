use Rattle.std.proofs.Common.{drop}
use Rattle.nest_core.specs.Museum.{NeverFell}
use Rattle.nest_core.proofs.setup.growths.never_fell.Given as goal

-- The older growths decide.
abbrev pub invariant-loop-i : goal.invariant-loop-i
invariant-loop-i l =
    (NeverFell (drop l.i l.growths) l.after → NeverFell l.growths l.fn.now)
    × (NeverFell l.growths l.fn.now → NeverFell (drop l.i l.growths) l.after)
