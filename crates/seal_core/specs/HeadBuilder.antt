-- Defines the leaves that a head builder has.
use Rattle.std.specs.Prelude.{◌≡◌, ℕ, List, length, map}
use Rattle.seal_core.specs.Hashes.{leaf_hash}
use Rattle.seal_core.specs.Peaks.{ArePeaks}
use Rattle.seal_core.specs.declared.builder.HeadBuilder.{HeadBuilder}

-- The number of leaves that were added to a builder.
abbrev pub leaf_count : HeadBuilder → ℕ
leaf_count builder = builder.count

-- These leaves were added to the builder, in this order.
unfoldable pub Holds : HeadBuilder → List (List ℕ) → Type 0
Holds builder leaves = (builder.count ≡ length leaves)
    × ArePeaks 0 builder.count builder.peaks (map leaf_hash leaves)
