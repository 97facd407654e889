pub mod Numbers
pub mod Modes
pub mod Policy
pub mod Checks
pub mod Batt
