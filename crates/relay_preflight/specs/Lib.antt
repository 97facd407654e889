pub mod Check
pub mod Table
pub mod Verdict
