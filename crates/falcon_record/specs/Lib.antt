pub mod Form
pub mod Columns
pub mod From
pub mod Kept
pub mod Saved
