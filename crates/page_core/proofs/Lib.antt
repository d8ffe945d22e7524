pub mod Counting
pub mod PlaceCounts
pub mod Reversed
pub mod Sections
pub mod TreeLines
pub mod TreeOnce
pub mod TreeWithin
mod WorkedTables
mod WorkedTree
pub mod Bytes
pub mod Characters
mod Worked
