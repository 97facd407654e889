mod Floats
pub mod Entries
pub mod LinesAgain
pub mod LinesCut
pub mod LinesTurns
pub mod LinesFit
pub mod Replies
pub mod CallsByLine
pub mod Sheets
