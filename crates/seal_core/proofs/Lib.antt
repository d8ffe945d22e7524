pub mod MoreLeaves
pub mod Parts
pub mod Kept
pub mod LeafNumbers
pub mod HeldReceipts
pub mod ReceiptTokens
pub mod HashItems
pub mod ReadReceipts
pub mod ReceiptUtf8
pub mod GrownLeaves
mod WorkedSeals
pub mod Depths
pub mod Heads
pub mod Splits
pub mod PathSplits
pub mod SideSplits
pub mod Equations
pub mod Roots
pub mod Complete
pub mod Collisions
pub mod SoundPaths
pub mod SoundHeads
pub mod TreePaths
pub mod PeakLemmas
mod Worked
pub mod Rows
mod WorkedFiles
pub mod Blocks
pub mod Results
