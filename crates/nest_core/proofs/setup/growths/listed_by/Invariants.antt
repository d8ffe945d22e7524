use Rattle.std.proofs.Common.{◌≡◌, drop}
use Rattle.nest_core.specs.Museum.{listed_by}
use Rattle.nest_core.proofs.setup.growths.listed_by.Given as goal

-- The older growths give the same result.
abbrev pub invariant-loop-i : goal.invariant-loop-i
invariant-loop-i l =
    listed_by (drop l.i l.growths) l.posted l.listed ≡ listed_by l.growths l.posted l.fn.now
