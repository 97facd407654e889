mod FieldTurns
pub mod LineTurns
mod Words
pub mod FieldAgain
pub mod LineAgain
pub mod LineOver
pub mod Writing
