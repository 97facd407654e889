pub mod Failsafe
pub mod Milestone
