pub mod Stretch
pub mod Lengths
pub mod Back
pub mod Range
pub mod Forms
pub mod Reached
pub mod Saving
