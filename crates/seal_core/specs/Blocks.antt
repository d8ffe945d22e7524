-- The blocks of 1,024 leaves whose trees workers compute.
use Rattle.std.specs.Prelude.{ℕ, ◌+◌, ◌-◌, ◌*◌, List, map, min}
use Rattle.std.specs.List.{range_with_len}
use Rattle.seal_core.specs.Trees.{tree_head}

-- The head of block i of n leaves, from leaf `first` on. The last block can have fewer leaves.
abbrev pub block_head : (ℕ → List ℕ) → ℕ → ℕ → ℕ → List ℕ
block_head leaf first n i =
    tree_head (map leaf (range_with_len (first + i * 1024) (min 1024 (n - i * 1024))))
