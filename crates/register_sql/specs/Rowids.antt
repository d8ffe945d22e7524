-- Defines rows whose rowids rise.
use Rattle.std.specs.Prelude.{◌≡◌, ◌<◌, ◌+◌, ℕ, ℤ, ◌<ℤ◌, List, length, slice_index_or}
use Rattle.sqlite.specs.Order.{Row}
use Rattle.sqlite.specs.Tree.{rowid}
use Rattle.sqlite.specs.declared.types.Value.TheVariants.{Int}

-- The row begins with a number.
abbrev pub HasId : Row → Type 0
HasId row = (n : ℤ) × (rowid row ≡ Int n)

-- Both rows begin with a number, and the second is greater.
abbrev pub IsBelow : Row → Row → Type 0
IsBelow a b = (m n : ℤ) × (rowid a ≡ Int m) × (rowid b ≡ Int n) × (m <ℤ n)

-- Each row's number is greater than that of the row before it.
abbrev pub IsRising : List Row → Type 0
IsRising rows =
    (k : ℕ) (d : Row) → k + 1 < length rows
    → IsBelow (slice_index_or rows k d) (slice_index_or rows (k + 1) d)
