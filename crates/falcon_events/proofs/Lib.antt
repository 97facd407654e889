pub mod Breach
pub mod Gates
pub mod Milestones
