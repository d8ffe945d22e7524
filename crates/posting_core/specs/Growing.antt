-- Defines when all growths of a setup have come.
use Rattle.std.specs.Prelude.{ℕ, ◌≤◌, List, [], ◌∷◌}
use Rattle.nest_core.specs.declared.growth.Growth.{Growth}

-- No growth came after more than this many entries. The newest growth is first.
abbrev pub HasGrown : List Growth → ℕ → Type 0
HasGrown [] posted = Unit {0}
HasGrown (g ∷ gs) posted = g.after ≤ posted
