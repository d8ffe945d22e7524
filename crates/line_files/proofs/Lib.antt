pub mod Numbers
pub mod Going
pub mod Cuts
pub mod Walk
pub mod Above
pub mod ReadLines
pub mod Bads
pub mod Whole
mod WorkedFiles
pub mod GapLines
mod WorkedGaps
pub mod TrialNumbers
pub mod TrialSteps
pub mod NoteSteps
pub mod Replays
mod WorkedTrials
pub mod Numbering
pub mod NoteTexts
pub mod Answered
pub mod SeenMoves
pub mod Accounts
mod WorkedAudits
