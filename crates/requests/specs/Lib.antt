pub mod Kinds
pub mod Parse
pub mod ByLine
